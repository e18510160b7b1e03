use Rattle.std.proofs.Common.{◌≡◌, Option, None, ap, subst}
use Rattle.std.specs.Prelude.{IfNone}
use Rattle.rb_subscriber.specs.Subscription.{PendingAccept, SubscriptionState}
use Rattle.rb_subscriber.proofs.accepting.FallLaws.{refuses_none}
use Rattle.rb_subscriber.proofs.subscription.Subscription.refuses.Goals as goal

pub returns-clause-none : goal.returns-clause-none
returns-clause-none g c =
    let s = c.self.inside in
    subst (λ (p : Option PendingAccept). IfNone c.refuses.result (p ≡ None))
    (ap (λ (x : SubscriptionState). x.pending) c.self.view_is)
    (refuses_none s.end s.pending c.args.delivery.now c.refuses.result c.refuses.ensures.why c.self.invariant.3)
