use Rattle.rb_close.specs.Finishing.{AreAllPresent}
use Rattle.rb_close.proofs.finishing.missing.Given as goal

-- those before are given
abbrev pub invariant-loop-number : goal.invariant-loop-number
invariant-loop-number g l = AreAllPresent l.number l.publishers
