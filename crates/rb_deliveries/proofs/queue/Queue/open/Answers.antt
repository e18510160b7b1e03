use Rattle.std.proofs.Common.{ap, arith}
use Rattle.rb_deliveries.proofs.spans.QueueLaws.{count_rising}
use Rattle.rb_deliveries.proofs.spans.OpenedLaws.{joins_tried, opened_turns_left}
use Rattle.rb_deliveries.proofs.queue.Queue.open.Goals as goal

pub open-requires-clause-few : goal.open-requires-clause-few
open-requires-clause-few c = omega (arith, count_rising _ _ _ c.self.invariant, c.self.ranges)

pub open-requires-clause-turns : goal.open-requires-clause-turns
open-requires-clause-turns c =
    opened_turns_left c.args.latest.turn 18446744073709551616 1 c.self.inside.next c.self.inside.held c.self.invariant
    (omega (arith, c.requires.turns, ap (λ k. k.next) c.self.view_is))

pub invariant_of-self : goal.invariant_of-self
invariant_of-self c =
    joins_tried c.args.first c.args.latest c.open.result 1 c.self.inside.next c.self.inside.held c.open.new.self
    c.open.ensures.ok c.open.ensures.err c.self.invariant
