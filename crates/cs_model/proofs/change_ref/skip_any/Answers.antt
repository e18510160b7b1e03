use Rattle.cs_model.proofs.packing.PackedChangeLaws.{skip_end, skip_done, skip_goes}
use Rattle.std.proofs.Common.{◌-◌}
use Rattle.cs_model.proofs.change_ref.skip_any.Goals as goal

pub returns-in_default : goal.returns-in_default
returns-in_default c = skip_end (c.args.columns - c.loop-i.i) c.loop-i.rest.now _ (c.in_default.ensures).cases
    c.loop-i.invariant

pub loop-i-preserved : goal.loop-i-preserved
loop-i-preserved c = skip_goes c.args.columns c.loop-i.i c.loop-i.rest.now c.in-Some.after.now c.in-Some.field-0-0.now
    c.typed_of.result.1.now _ c.loop-i-test.true c.in-Some.ensures.cases.0 c.typed_of.ensures.rest c.loop-i.invariant

pub returns : goal.returns
returns c = skip_done c.args.columns c.loop-i.i c.loop-i.rest.now _ c.loop-i-test.false c.loop-i.invariant
