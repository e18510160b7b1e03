use Rattle.rb_desk.specs.Calls.{reconnect}
use Rattle.rb_desk.specs.declared.step.Step.TheVariants as step
use Rattle.rb_subscriber.specs.Subscription.{cursor_of}
use Rattle.rb_broker.proofs.StepLaws.{returns}
use Rattle.rb_broker.proofs.broker.Broker.reconnect.Goals as goal

-- the desk that the lock holds returns it
pub returns-clause-desk : goal.returns-clause-desk
returns-clause-desk g c =
    let s = c.args.subscription.now in
    let h = c.reconnect.ensures in
    returns g.L.BrokerBrand.limits c.reconnect.result (λ p. reconnect p s.sub (cursor_of s))
    (step.Reconnect s.sub (cursor_of s)) _ _ _ _ _ _ h.others h.held h.log h.seen h.desk
