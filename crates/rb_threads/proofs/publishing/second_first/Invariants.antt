use Rattle.rb_threads.proofs.publishing.second_first.Given as goal

-- the brand of the broker that was just opened
abbrev pub ghosts-pulls_two-L-Ledger : goal.ghosts-pulls_two-L-Ledger
ghosts-pulls_two-L-Ledger g a = record { name = a.opened.ledger; parts = 1024 }

abbrev pub ghosts-pulls_two-L-StepLedger : goal.ghosts-pulls_two-L-StepLedger
ghosts-pulls_two-L-StepLedger g a = record { all = 1024; cells = a.opened.cells; history = a.opened.history }

abbrev pub ghosts-pulls_two-L-BrokerBrand : goal.ghosts-pulls_two-L-BrokerBrand
ghosts-pulls_two-L-BrokerBrand g a = record { limits = a.opened.limits; queue = a.opened.queue }
