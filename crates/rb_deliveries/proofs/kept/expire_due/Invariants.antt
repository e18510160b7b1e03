use Rattle.std.proofs.Common.{◌≡◌, ◌+◌, ◌≤◌, map}
use Rattle.std.specs.List.{AllByRecursion}
use Rattle.rb_deliveries.specs.Expiry.{all_due, due_in, expired_sub, by_number, turns_from}
use Rattle.rb_deliveries.specs.Subs.{AreGiven, IsDrawn}
use Rattle.rb_deliveries.specs.Waiting.{AreWaiting, FirstPast}
use Rattle.rb_deliveries.proofs.kept.expire_due.Given as goal

-- With those that are left, all expire and are counted. Where a span is due, all ranks were drawn before. What is
-- found next is past, or nothing is.
abbrev pub invariant-loop-past : goal.invariant-loop-past
invariant-loop-past l = record {
  subs : map (expired_sub l.timeout l.clock (by_number (turns_from l.latest.front l.latest.turn))) l.subs.items
      ≡ map (expired_sub l.timeout l.clock (by_number (turns_from l.latest.front l.latest.turn))) l.initial.subs.items;
  many : l.many + all_due l.timeout l.clock l.subs.items ≡ all_due l.timeout l.clock l.initial.subs.items;
  waiting : AreWaiting l.window l.subs.items l.waiting.line l.waiting.moments;
  given : AllByRecursion (λ sub. AreGiven l.next l.latest.turn sub.queue.held) l.subs.items;
  drawn : AllByRecursion (λ sub. 1 ≤ due_in l.timeout l.clock sub
      → AllByRecursion (λ h. IsDrawn l.latest.front l.latest.turn h.rank) sub.queue.held) l.subs.items;
  past : FirstPast l.timeout l.clock l.waiting.moments l.past;
}

abbrev pub decreases-loop-past : goal.decreases-loop-past
decreases-loop-past l = all_due l.timeout l.clock l.subs.items
