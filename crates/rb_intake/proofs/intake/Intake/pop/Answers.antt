use Rattle.std.proofs.Common.{◌∙◌}
use Rattle.rb_intake.proofs.RuleLaws.{pop_keeps, learns}
use Rattle.rb_intake.proofs.PopLaws.{empty_tells}
use Rattle.rb_intake.proofs.intake.Intake.pop.Goals as goal

-- an item is pulled, or none waits
pub pop_as-requires-clause-rule : goal.pop_as-requires-clause-rule
pop_as-requires-clause-rule g c = (pop_keeps _ _ _ _ c.pass.invariant.1, learns _ _ _ _ c.pass.invariant.1)

pub returns-in-None-clause-item : goal.returns-in-None-clause-item
returns-in-None-clause-item g c =
    let found = empty_tells _ _ _ _ c.in-None.ensures.queue.0 c.in-None.ensures.rule in
    (found.0 ∙ c.pass.view_is, found.1, c.seen_by.ensures)
