use Rattle.rb_broker.proofs.WhyLaws.{closing_told}
use Rattle.rb_broker.proofs.broker.Broker.close.Goals as goal

-- the desk that the lock holds is closed there
pub returns-clause-desk : goal.returns-clause-desk
returns-clause-desk g c =
    let h = c.close.ensures in
    closing_told g.L.BrokerBrand.limits c.close.result g.L.StepLedger.cells _ _ _ _ _ _ h.others h.held h.log h.seen
    h.closed
