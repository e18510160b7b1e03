use Rattle.std.proofs.Common.{ap, arith}
use Rattle.rb_deliveries.specs.Queues.{queue_floor}
use Rattle.rb_deliveries.proofs.spans.QueueLaws.{floor_below}
use Rattle.rb_deliveries.proofs.queue.Queue.clear.Goals as goal

pub overflow_add-self : goal.overflow_add-self
overflow_add-self c =
    omega (
      arith,
      c.floor-floor.ensures,
      ap queue_floor c.self.view_is,
      floor_below _ _ c.self.invariant,
      c.self.ranges,
    )
