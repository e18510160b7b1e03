use Rattle.std.proofs.Common.{◌∙◌, ap, sym, arith}
use Rattle.rb_deliveries.proofs.spans.QueueLaws.{count_rising, joins_pushed}
use Rattle.rb_deliveries.proofs.queue.Queue.push.Goals as goal

pub push-requires-clause-few : goal.push-requires-clause-few
push-requires-clause-few c = omega (arith, count_rising _ _ _ c.self.invariant, c.self.ranges)

pub invariant_of-self-2 : goal.invariant_of-self-2
invariant_of-self-2 c = rw c.in_ok-push.ensures.ok
    (joins_pushed _ _ _ c.self.inside.held _ c.self.invariant
    (c.requires.first ∙ sym (ap (λ k. k.next) c.self.view_is)) c.requires.span.0 (omega arith))
