use Rattle.rb_desk.specs.Calls.{nack_opened}
use Rattle.rb_desk.specs.declared.step.Step.TheVariants as step
use Rattle.rb_broker.proofs.StepLaws.{returns}
use Rattle.rb_broker.proofs.broker.Broker.nack_opened.Goals as goal

-- the desk that the lock holds returns it
pub returns-clause-desk : goal.returns-clause-desk
returns-clause-desk g c =
    let s = c.args.subscription.now in
    let h = c.nack_opened.ensures in
    returns g.L.BrokerBrand.limits c.nack_opened.result (λ p. nack_opened p s.sub c.args.delivery.now.link
    c.args.delivery.now.number)
    (step.NackOpened s.sub c.args.delivery.now.link c.args.delivery.now.number) _ _ _ _ _ _ h.others h.held h.log
    h.seen h.desk
