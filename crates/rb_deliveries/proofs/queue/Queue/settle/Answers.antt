use Rattle.std.proofs.Common.{arith}
use Rattle.rb_deliveries.proofs.spans.QueueLaws.{count_rising, joins_without}
use Rattle.rb_deliveries.proofs.queue.Queue.settle.Goals as goal

pub remove-requires-clause-few : goal.remove-requires-clause-few
remove-requires-clause-few c = omega (arith, count_rising _ _ _ c.self.invariant, c.self.ranges)

pub invariant_of-self : goal.invariant_of-self
invariant_of-self c = rw c.remove.ensures (joins_without _ _ c.args.first _ c.self.invariant)
