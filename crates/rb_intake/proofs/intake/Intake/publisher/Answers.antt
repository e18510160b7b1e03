use Rattle.rb_intake.proofs.RuleLaws.{forks_make}
use Rattle.rb_intake.proofs.intake.Intake.publisher.Goals as goal

-- one more publisher is made
pub another-seat-requires-clause-rule : goal.another-seat-requires-clause-rule
another-seat-requires-clause-rule c = forks_make _ _ _ c.maker.invariant.1
