use Rattle.rb_deliveries.specs.Expiry.{by_number, turns_from}
use Rattle.rb_deliveries.proofs.spans.QueueLaws.{joins_expired}
use Rattle.rb_deliveries.proofs.queue.Queue.expire.Goals as goal

pub invariant_of-self : goal.invariant_of-self
invariant_of-self c = rw c.expire.ensures (joins_expired _ _ c.args.timeout c.args.clock
    (by_number (turns_from c.args.latest.front c.args.latest.turn)) _ c.self.invariant)
