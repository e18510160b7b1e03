use Rattle.std.proofs.Common.{◌≡◌, ◌+◌, List, length, ap, ◌∙◌, arith}
use Rattle.cs_model.specs.declared.change.Change.{Change}
use Rattle.cs_model.specs.Key.{key_of}
use Rattle.cs_model.specs.Seen.{change_seen}
use Rattle.par_apply.specs.KeyedChanges.{positions_by_key}
use Rattle.par_apply.proofs.workers.ListLaws.{keyed_next}
use Rattle.par_apply.proofs.workers.PositionLaws.{positions_end}
use Rattle.par_apply.proofs.positions.add_changes.Goals as goal

pub loop-change-preserved : goal.loop-change-preserved
loop-change-preserved c =
    let s = c.args.section.now in
    let change = change_seen c.in-Some.change in
    let is = c.in-Some.ensures.steps in
    let key = c.of.ensures.key ∙ ap (λ flags. key_of c.args.table flags change) c.flags.ensures in
    let counted : length c.loop-change.change-iterator ≡ length c.next.new.self + 1 =
    ap (λ (cs : List Change). length cs) is ∙ omega arith in
    record {
      so_far = λ takes. keyed_next c.args.table s.shape change c.next.new.self c.loop-change.change-iterator
          c.loop-change.position (c.loop-change.position + 1) c.loop-change.changes.items c.push.new.self.items
          c.of.result is (omega arith) c.of.ensures.position key c.in_ok-push.ensures.items takes _
          (c.loop-change.invariant.so_far takes);
      counted = omega (arith, counted, c.loop-change.invariant.counted);
    }

pub returns : goal.returns
returns c = λ takes.
    positions_end c.args.table c.args.section.now.shape takes c.loop-change.change-iterator c.loop-change.position
    (positions_by_key takes c.loop-change.changes.items) _ (c.in-None.ensures).steps.0
    (c.loop-change.invariant.so_far takes)
