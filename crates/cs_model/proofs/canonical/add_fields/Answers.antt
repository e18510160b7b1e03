use Rattle.std.proofs.Common.{◌-◌}
use Rattle.cs_model.specs.Seen.{field_seen}
use Rattle.cs_model.proofs.packing.PackedChangeLaws.{skip_end, skip_done, skip_goes}
use Rattle.cs_model.proofs.spelling.SaidLaws.{still_front, fields_go, fields_end, fields_done}
use Rattle.cs_model.proofs.canonical.add_fields.Goals.{else-loop-test, then-loop-test+in_default}
use Rattle.cs_model.proofs.canonical.add_fields.Goals as goal

pub loop-preserved : goal.loop-preserved
loop-preserved c = record {
  bytes = fields_go c.args.columns c.loop.counter c.loop.rest.now c.in-Some.behind.now c.in-Some.field-0-0.now
      (field_seen c.typed_of.result.0) c.typed_of.result.1.now c.loop.out.items c.field_push.new.out.items _
      c.loop-test.true c.in-Some.ensures.cases.0 c.typed_of.ensures.field c.typed_of.ensures.rest
      c.in_ok-field_push.ensures.ok c.loop.invariant.bytes;
  behind = skip_goes c.args.columns c.loop.counter c.loop.rest.now c.in-Some.behind.now c.in-Some.field-0-0.now
      c.typed_of.result.1.now _ c.loop-test.true c.in-Some.ensures.cases.0 c.typed_of.ensures.rest
      c.loop.invariant.behind;
  adds = still_front _ c.loop.out.items c.field_push.new.out.items _ c.loop.invariant.adds
      c.in_ok-field_push.ensures.ok;
}

pub returns-clause-ok : goal.returns-clause-ok
returns-clause-ok c = elim c.loop-test.branch [
  | else-loop-test w ↦ fields_done c.args.columns c.loop.counter c.loop.rest.now c.loop.out.items _ w.loop-test.false
      c.loop.invariant.bytes
  | then-loop-test+in_default w ↦ fields_end (c.args.columns - c.loop.counter) c.loop.rest.now c.loop.out.items _
      w.in_default.ensures.cases c.loop.invariant.bytes
]

pub returns-clause-rest : goal.returns-clause-rest
returns-clause-rest c = elim c.loop-test.branch [
  | else-loop-test w ↦ skip_done c.args.columns c.loop.counter c.loop.rest.now _ w.loop-test.false
      c.loop.invariant.behind
  | then-loop-test+in_default w ↦ skip_end (c.args.columns - c.loop.counter) c.loop.rest.now _
      w.in_default.ensures.cases c.loop.invariant.behind
]
