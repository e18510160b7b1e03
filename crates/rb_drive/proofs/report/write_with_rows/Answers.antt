use Rattle.rb_script.proofs.endings.StreamLaws.{err_later}
use Rattle.rb_drive.proofs.report.write_with_rows.Goals as goal

pub returns-clause-err : goal.returns-clause-err
returns-clause-err g c =
    err_later c.write_each.result _ _ _ _ _ c.in_ok-write_whole.ensures.ok c.write_each.ensures.err
