use Rattle.rb_desk.specs.Calls.{ack}
use Rattle.rb_desk.specs.declared.step.Step.TheVariants as step
use Rattle.rb_subscriber.specs.Subscription.{cursor_of}
use Rattle.rb_broker.proofs.StepLaws.{returns}
use Rattle.rb_broker.proofs.broker.Broker.ack.Goals as goal

-- the desk that the lock holds returns it
pub returns-clause-desk : goal.returns-clause-desk
returns-clause-desk g c =
    let s = c.args.subscription.now in
    let h = c.ack.ensures in
    returns g.L.BrokerBrand.limits c.ack.result (λ p. ack p s.sub c.args.delivery.now.link c.args.delivery.now.number
    (cursor_of s))
    (step.Ack s.sub c.args.delivery.now.link c.args.delivery.now.number (cursor_of s)) _ _ _ _ _ _ h.others h.held
    h.log h.seen h.desk
