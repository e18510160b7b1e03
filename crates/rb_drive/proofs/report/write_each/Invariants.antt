use Rattle.std.proofs.Common.{drop}
use Rattle.std.specs.List.{flat_map}
use Rattle.cs_apply.specs.Seen.{listed}
use Rattle.rb_script.specs.Texts.{row_text}
use Rattle.rb_drive.proofs.outcomes.ReportLaws.{IsWrittenBut}
use Rattle.rb_drive.proofs.report.write_each.Given as goal

-- the rows so far are written
abbrev pub invariant-loop-row : goal.invariant-loop-row
invariant-loop-row g l = IsWrittenBut (g.W.Write.contents l.fn.writer) (g.W.Write.contents l.writer)
    (flat_map row_text (listed (drop l.row-index l.rows))) (flat_map row_text (listed l.rows))
