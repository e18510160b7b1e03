use Rattle.rb_script.proofs.endings.StreamLaws.{on_err}
use Rattle.rb_drive.proofs.outcomes.ReportLaws.{rows_next, stops_next, writes_next}
use Rattle.rb_drive.proofs.report.write_each.Goals as goal

pub returns-in_err-write_row-clause-err : goal.returns-in_err-write_row-clause-err
returns-in_err-write_row-clause-err g c =
    on_err c.from_residual.result _ (stops_next _ _ _ _ _ _ _ c.loop-row.invariant
    (rows_next c.loop-row.row-index c.args.rows.now c.row-item.result c.loop-row-test.true c.row-item.is)
    c.in_err-write_row.ensures.err)

pub loop-row-preserved : goal.loop-row-preserved
loop-row-preserved g c =
    writes_next _ _ _ _ _ _ _ c.loop-row.invariant
    (rows_next c.loop-row.row-index c.args.rows.now c.row-item.result c.loop-row-test.true c.row-item.is)
    c.in_ok-write_row.ensures.ok
