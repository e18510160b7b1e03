use Rattle.std.proofs.Common.{◌≡◌}
use Rattle.rb_drive.proofs.publishing.send.Given as goal

-- the set comes back as it was, and nothing is sent
abbrev pub invariant-loop : goal.invariant-loop
invariant-loop g l = (goal.iterator-loop g).can_next l.iterator' × (goal.iterator-loop g).is_finite l.iterator'
    × (l.set ≡ l.fn.set) × (l.publisher ≡ l.fn.publisher)
