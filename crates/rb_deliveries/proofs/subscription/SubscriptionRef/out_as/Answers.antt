use Rattle.std.proofs.Common.{◌∙◌, sym}
use Rattle.rb_deliveries.proofs.pictures.OutLaws.{out_as_is}
use Rattle.rb_deliveries.proofs.subscription.SubscriptionRef.out_as.Goals as goal

pub returns : goal.returns
returns c =
    let d = c.self.inside in
    rw (← c.self.view_is) (c.out_as.ensures ∙ sym (out_as_is d.batch d.front c.args.delivery d.sub.now))
