use Rattle.rb_desk.specs.Calls.{take_any}
use Rattle.rb_desk.specs.declared.step.Step.TheVariants as step
use Rattle.rb_broker.proofs.StepLaws as laws
use Rattle.rb_broker.proofs.broker.Broker.take_any.Goals as goal

-- the desk that the lock holds returns it
pub returns : goal.returns
returns g c =
    let h = c.take_any.ensures in
    laws.returns g.L.BrokerBrand.limits c.take_any.result (λ p. take_any p c.args.now) (step.TakeAny c.args.now)
    _ _ _ _ _ _ h.others h.held h.log h.seen h.desk
