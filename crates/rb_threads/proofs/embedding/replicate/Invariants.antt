use Rattle.rb_threads.proofs.embedding.replicate.Given as goal

-- the brand of the broker that was just opened
abbrev pub ghosts-run-L-Ledger : goal.ghosts-run-L-Ledger
ghosts-run-L-Ledger g a = record { name = a.opened.ledger; parts = 1024 }

abbrev pub ghosts-run-L-StepLedger : goal.ghosts-run-L-StepLedger
ghosts-run-L-StepLedger g a = record { all = 1024; cells = a.opened.cells; history = a.opened.history }

abbrev pub ghosts-run-L-BrokerBrand : goal.ghosts-run-L-BrokerBrand
ghosts-run-L-BrokerBrand g a = record { limits = a.opened.limits; queue = a.opened.queue }
