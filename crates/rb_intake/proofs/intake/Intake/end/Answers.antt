use Rattle.rb_intake.proofs.RuleLaws.{ends_keeps}
use Rattle.rb_intake.proofs.intake.Intake.end.Goals as goal

-- the maker's pass is joined
pub absorb-requires-clause-rule : goal.absorb-requires-clause-rule
absorb-requires-clause-rule c = ends_keeps _ _ _ _ _ _ _ c.pass.invariant.1 c.maker.invariant.1
