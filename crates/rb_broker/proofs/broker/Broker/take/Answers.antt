use Rattle.rb_desk.specs.Calls.{take}
use Rattle.rb_desk.specs.declared.step.Step.TheVariants as step
use Rattle.rb_subscriber.specs.Subscription.{cursor_of}
use Rattle.rb_broker.specs.Holding.{desk_answer}
use Rattle.rb_broker.proofs.StepLaws.{returns}
use Rattle.rb_broker.proofs.broker.Broker.take.Goals as goal

-- the desk that the lock holds returns it
pub returns-clause-desk : goal.returns-clause-desk
returns-clause-desk g c =
    let s = c.args.subscription.now in
    let h = c.take.ensures in
    returns g.L.BrokerBrand.limits (desk_answer c.take.result) (λ p. take p s.sub s.link (cursor_of s) c.args.now)
    (step.Take s.sub s.link (cursor_of s) c.args.now) _ _ _ _ _ _ h.others h.held h.log h.seen h.desk
