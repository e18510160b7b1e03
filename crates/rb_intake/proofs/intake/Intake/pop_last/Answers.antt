use Rattle.std.proofs.Common.{subst}
use Rattle.crossbeam_queue.specs.Passes.{view}
use Rattle.rb_intake.specs.Passes.{LastKnows}
use Rattle.rb_intake.proofs.RuleLaws.{last_keeps, last_learns}
use Rattle.rb_intake.proofs.PopLaws.{PoppedLast, last_pop_tells}
use Rattle.rb_intake.proofs.intake.Intake.pop_last.Goals as goal

-- an item is pulled, or none waits
pub pop_as-requires-clause-rule : goal.pop_as-requires-clause-rule
pop_as-requires-clause-rule g c =
    (last_keeps _ _ _ _ _ c.pass.invariant.1, last_learns _ _ _ _ _ c.pass.invariant.1)

pub returns : goal.returns
returns g c =
    subst (λ (p : LastKnows). PoppedLast c.pop_as.new.pass.table_id (view c.pop_as.new.pass) p c.pop_as.result)
    c.pass.view_is
    (last_pop_tells _ _ (view c.pass.inside.seat) (view c.pop_as.new.pass) c.pop_as.result c.pop_as.ensures.queue.0
    c.pass.invariant.1 c.pop_as.ensures.rule)
