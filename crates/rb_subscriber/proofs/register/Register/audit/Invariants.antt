use Rattle.std.proofs.Common.{◌≡◌, ◌+◌, length}
use Rattle.std.specs.Vec.Iter.{into_iter_items}
use Rattle.rb_subscriber.specs.Register.{HaveSeenTheirs, all_steps}
use Rattle.rb_subscriber.proofs.register.Register.audit.Given as goal

-- The sum and what isn't heard yet are the sum of all. Those that are heard have seen their own
-- steps. The register, the history and what the auditor has seen stay.
abbrev pub invariant-loop-subscription : goal.invariant-loop-subscription
invariant-loop-subscription g l = record {
  self : l.self ≡ l.fn.self;
  all : l.all ≡ l.fn.all;
  history : l.auditor.seen ≡ l.fn.all.log;
  sum : l.auditor.sum + all_steps (into_iter_items l.subscription-iterator)
      ≡ l.fn.auditor.sum + all_steps l.fn.subscriptions.items;
  heard : l.auditor.heard + length (into_iter_items l.subscription-iterator) ≡ l.fn.self.made;
  seen : HaveSeenTheirs (into_iter_items l.subscription-iterator) l.fn.all.log
      → HaveSeenTheirs l.fn.subscriptions.items l.fn.all.log;
}
