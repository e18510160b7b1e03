use Rattle.rb_desk.specs.Calls.{unsubscribe}
use Rattle.rb_desk.specs.declared.step.Step.TheVariants as step
use Rattle.rb_broker.proofs.StepLaws.{returns}
use Rattle.rb_broker.proofs.broker.Broker.unsubscribe.Goals as goal

-- the desk that the lock holds returns it
pub returns-clause-desk : goal.returns-clause-desk
returns-clause-desk g c =
    let s = c.args.subscription.now in
    let h = c.unsubscribe.ensures in
    returns g.L.BrokerBrand.limits c.unsubscribe.result (λ p. unsubscribe p s.sub s.link)
    (step.Unsubscribe s.sub s.link) _ _ _ _ _ _ h.others h.held h.log h.seen h.desk
