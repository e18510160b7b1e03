use Rattle.rb_drive.proofs.run.run_over.Given as goal

-- the brand of the broker that was just opened
abbrev pub ghosts-report-L-Ledger : goal.ghosts-report-L-Ledger
ghosts-report-L-Ledger g a = record { name = a.opened.ledger; parts = 1024 }

abbrev pub ghosts-report-L-StepLedger : goal.ghosts-report-L-StepLedger
ghosts-report-L-StepLedger g a = record { all = 1024; cells = a.opened.cells; history = a.opened.history }

abbrev pub ghosts-report-L-BrokerBrand : goal.ghosts-report-L-BrokerBrand
ghosts-report-L-BrokerBrand g a = record { limits = a.opened.limits; queue = a.opened.queue }
