use Rattle.std.proofs.Common.{◌≡◌}
use Rattle.rb_drive.specs.Owners.{beginning_of}
use Rattle.rb_drive.proofs.accepting.accept_all.Given as goal

-- the subscription begins where it did
abbrev pub invariant-loop : goal.invariant-loop
invariant-loop g l = (goal.iterator-loop g).can_next l.iterator' × (goal.iterator-loop g).is_finite l.iterator'
    × (beginning_of l.subscription ≡ beginning_of l.fn.subscription)
