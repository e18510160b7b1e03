use Rattle.std.proofs.Common.{arith}
use Rattle.rb_deliveries.proofs.lists.RestateLaws.{out_stands_last}
use Rattle.rb_deliveries.proofs.spans.QueueLaws.{count_rising, joins_restated}
use Rattle.rb_deliveries.proofs.queue.Queue.deliver.Goals as goal

pub restate-requires-clause-few : goal.restate-requires-clause-few
restate-requires-clause-few c = omega (arith, count_rising _ _ _ c.self.invariant, c.self.ranges)

pub restate-requires-clause-last : goal.restate-requires-clause-last
restate-requires-clause-last c =
    out_stands_last c.args.status c.self.inside.cutting c.self.inside.held (rw (← c.self.view_is) at c.requires.last)

pub invariant_of-self : goal.invariant_of-self
invariant_of-self c =
    rw c.restate.ensures (joins_restated _ _ c.args.span.first _ c.self.inside.cutting _ c.self.invariant)
