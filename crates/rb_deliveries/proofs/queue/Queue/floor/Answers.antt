use Rattle.std.proofs.Common.{sym, ◌∙◌}
use Rattle.rb_deliveries.proofs.spans.QueueLaws.{joins_reach, first_held_begins}
use Rattle.rb_deliveries.proofs.queue.Queue.floor.Goals as goal

pub overflow_sub-result : goal.overflow_sub-result
overflow_sub-result c =
    first_held_begins _ _ _ c.in-Some.span c.self.invariant (sym c.first.ensures ∙ c.in-Some.is)

pub overflow_sub-result-in-None : goal.overflow_sub-result-in-None
overflow_sub-result-in-None c = joins_reach _ _ _ c.self.invariant
