use Rattle.rb_threads.proofs.histories.on_broker.Given as goal

-- the brand of the broker that was just opened
abbrev pub ghosts-goes-L-Ledger : goal.ghosts-goes-L-Ledger
ghosts-goes-L-Ledger g a = record { name = a.opened.ledger; parts = 1024 }

abbrev pub ghosts-goes-L-StepLedger : goal.ghosts-goes-L-StepLedger
ghosts-goes-L-StepLedger g a = record { all = 1024; cells = a.opened.cells; history = a.opened.history }

abbrev pub ghosts-goes-L-BrokerBrand : goal.ghosts-goes-L-BrokerBrand
ghosts-goes-L-BrokerBrand g a = record { limits = a.opened.limits; queue = a.opened.queue }
