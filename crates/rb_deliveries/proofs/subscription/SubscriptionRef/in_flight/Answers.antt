use Rattle.std.proofs.Common.{◌∙◌, sym}
use Rattle.rb_deliveries.proofs.pictures.OutLaws.{how_many_open}
use Rattle.rb_deliveries.proofs.subscription.SubscriptionRef.in_flight.Goals as goal

pub returns : goal.returns
returns c =
    rw (← c.self.view_is)
    (c.out.ensures ∙ sym (how_many_open c.self.inside.batch c.self.inside.front c.self.inside.sub.now c.if-self.false))
