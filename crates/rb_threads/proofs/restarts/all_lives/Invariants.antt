use Rattle.rb_threads.proofs.restarts.all_lives.Given as goal

-- the brand of the broker that was just opened
abbrev pub ghosts-lives-L-Ledger : goal.ghosts-lives-L-Ledger
ghosts-lives-L-Ledger g a = record { name = a.opened.ledger; parts = 1024 }

abbrev pub ghosts-lives-L-StepLedger : goal.ghosts-lives-L-StepLedger
ghosts-lives-L-StepLedger g a = record { all = 1024; cells = a.opened.cells; history = a.opened.history }

abbrev pub ghosts-lives-L-BrokerBrand : goal.ghosts-lives-L-BrokerBrand
ghosts-lives-L-BrokerBrand g a = record { limits = a.opened.limits; queue = a.opened.queue }
