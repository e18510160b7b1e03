use Rattle.std.proofs.Common.{rules}
use Rattle.rb_drive.proofs.outcomes.ReportLaws.{fault_in_same}
use Rattle.rb_drive.proofs.report.write_subscriber.Goals as goal

pub returns-clause-err : goal.returns-clause-err
returns-clause-err g c = fault_in_same c.write_with_tables.result _ _ _ _ c.write_with_tables.ensures.err (search rules)
