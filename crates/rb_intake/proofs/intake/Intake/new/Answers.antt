use Rattle.rb_intake.proofs.RuleLaws.{starts_in_order, forks_first}
use Rattle.rb_intake.proofs.intake.Intake.new.Goals as goal

-- an empty intake keeps the rule
pub ruled-requires-clause-rule : goal.ruled-requires-clause-rule
ruled-requires-clause-rule c = starts_in_order

-- the first pass is split
pub another-maker-requires-clause-rule : goal.another-maker-requires-clause-rule
another-maker-requires-clause-rule c = forks_first _ _ c.in_ok-queue.ensures.3
