use Rattle.replica_stops.proofs.falls.tried.Given as goal

-- the brand of the broker that was just opened
abbrev pub ghosts-tried_at-L-Ledger : goal.ghosts-tried_at-L-Ledger
ghosts-tried_at-L-Ledger g a = record { name = a.opened.ledger; parts = 1024 }

abbrev pub ghosts-tried_at-L-StepLedger : goal.ghosts-tried_at-L-StepLedger
ghosts-tried_at-L-StepLedger g a = record { all = 1024; cells = a.opened.cells; history = a.opened.history }

abbrev pub ghosts-tried_at-L-BrokerBrand : goal.ghosts-tried_at-L-BrokerBrand
ghosts-tried_at-L-BrokerBrand g a = record { limits = a.opened.limits; queue = a.opened.queue }
