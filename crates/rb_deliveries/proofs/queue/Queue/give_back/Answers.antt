use Rattle.std.proofs.Common.{arith}
use Rattle.rb_deliveries.proofs.spans.QueueLaws.{count_rising, joins_restated}
use Rattle.rb_deliveries.proofs.queue.Queue.give_back.Goals as goal

pub restate-requires-clause-few : goal.restate-requires-clause-few
restate-requires-clause-few c = omega (arith, count_rising _ _ _ c.self.invariant, c.self.ranges)

pub invariant_of-self : goal.invariant_of-self
invariant_of-self c =
    rw c.restate.ensures (joins_restated _ _ c.args.first _ c.args.rank _ c.self.invariant)
