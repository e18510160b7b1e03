use Rattle.std.proofs.Common.{◌≡◌}
use Rattle.rb_threads.proofs.embedding.send.Given as goal

-- the set is the publisher's, as often as it comes back
abbrev pub invariant-loop : goal.invariant-loop
invariant-loop g l = l.set.publisher ≡ l.publisher.number
