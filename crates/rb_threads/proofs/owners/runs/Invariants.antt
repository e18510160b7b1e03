use Rattle.rb_threads.proofs.owners.runs.Given as goal

-- the brand of the broker that was just opened
abbrev pub ghosts-all_arrive-L-Ledger : goal.ghosts-all_arrive-L-Ledger
ghosts-all_arrive-L-Ledger g a = record { name = a.opened.ledger; parts = 1024 }

abbrev pub ghosts-all_arrive-L-StepLedger : goal.ghosts-all_arrive-L-StepLedger
ghosts-all_arrive-L-StepLedger g a = record { all = 1024; cells = a.opened.cells; history = a.opened.history }

abbrev pub ghosts-all_arrive-L-BrokerBrand : goal.ghosts-all_arrive-L-BrokerBrand
ghosts-all_arrive-L-BrokerBrand g a = record { limits = a.opened.limits; queue = a.opened.queue }
