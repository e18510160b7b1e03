use Rattle.rb_desk.specs.Calls.{nack}
use Rattle.rb_desk.specs.declared.step.Step.TheVariants as step
use Rattle.rb_broker.proofs.StepLaws.{returns}
use Rattle.rb_broker.proofs.broker.Broker.nack.Goals as goal

-- the desk that the lock holds returns it
pub returns-clause-desk : goal.returns-clause-desk
returns-clause-desk g c =
    let s = c.args.subscription.now in
    let h = c.nack.ensures in
    returns g.L.BrokerBrand.limits c.nack.result (λ p. nack p s.sub c.args.delivery.now.link c.args.delivery.now.number)
    (step.Nack s.sub c.args.delivery.now.link c.args.delivery.now.number) _ _ _ _ _ _ h.others h.held h.log h.seen
    h.desk
