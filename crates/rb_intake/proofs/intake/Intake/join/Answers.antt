use Rattle.rb_intake.proofs.RuleLaws.{merges}
use Rattle.rb_intake.proofs.intake.Intake.join.Goals as goal

-- the pass is joined
pub absorb-requires-clause-rule : goal.absorb-requires-clause-rule
absorb-requires-clause-rule c = merges _ _ _ _ _ _ _ _ c.pass.invariant.1 c.publisher.invariant.1
