use Rattle.cs_model.proofs.packing.PackedChangeLaws.{skip_done, skip_goes}
use Rattle.std.proofs.Common.{◌∙◌}
use Rattle.cs_model.proofs.change_ref.skip.Goals as goal

pub returns-in_default : goal.returns-in_default
returns-in_default c = c.skip_any.ensures ∙ c.loop-i.invariant

pub loop-i-preserved : goal.loop-i-preserved
loop-i-preserved c =
    let next = c.in-Some.ensures in
    skip_goes c.args.columns c.loop-i.i c.loop-i.rest.now next.tail next.byte c.in-Some.after.now _ c.loop-i-test.true
    next.parts next.is_after c.loop-i.invariant

pub returns : goal.returns
returns c = skip_done c.args.columns c.loop-i.i c.loop-i.rest.now _ c.loop-i-test.false c.loop-i.invariant
