use Rattle.std.proofs.Common.{Ok}
use Rattle.rb_desk.specs.Calls.{expire}
use Rattle.rb_desk.specs.declared.step.Step.TheVariants as step
use Rattle.rb_broker.proofs.StepLaws as laws
use Rattle.rb_broker.proofs.broker.Broker.expire.Goals as goal

-- the desk that the lock holds returns it
pub returns : goal.returns
returns g c =
    let h = c.expire.ensures in
    laws.returns g.L.BrokerBrand.limits c.expire.result (λ p. (Ok (expire p c.args.now).0, (expire p c.args.now).1))
    (step.Expire c.args.now) _ _ _ _ _ _ h.others h.held h.log h.seen h.desk
