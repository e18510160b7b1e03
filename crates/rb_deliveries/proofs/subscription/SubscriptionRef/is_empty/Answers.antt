use Rattle.std.proofs.Common.{◌∙◌, ◌||◌, ap, sym}
use Rattle.rb_deliveries.specs.Queues.{is_none_left}
use Rattle.rb_deliveries.proofs.pictures.OutLaws.{no_spans_is}
use Rattle.rb_deliveries.proofs.subscription.SubscriptionRef.is_empty.Goals as goal

pub returns-else-self : goal.returns-else-self
returns-else-self c =
    let d = c.self.inside in
    rw (← c.self.view_is)
    (c.is_empty.ensures ∙ sym (no_spans_is d.batch d.front d.sub.now c.self.invariant.0
    ∙ ap (λ closed. closed || is_none_left d.sub.now.queue d.front) c.if-self.false))
