use Rattle.std.proofs.Common.{◌≡◌, drop, map}
use Rattle.rb_drive.specs.Outcome.{subscriber_of}
use Rattle.rb_drive.specs.Report.{subscribers_text}
use Rattle.rb_drive.proofs.outcomes.ReportLaws.{IsWrittenBut}
use Rattle.rb_drive.proofs.report.write_subscribers.Given as goal

-- those so far are written
abbrev pub invariant-loop-one : goal.invariant-loop-one
invariant-loop-one g l = record {
  same : l.number ≡ l.one-index;
  so_far : IsWrittenBut (g.W.Write.contents l.fn.writer) (g.W.Write.contents l.writer)
      (subscribers_text l.number (map subscriber_of (drop l.one-index l.all)))
      (subscribers_text 0 (map subscriber_of l.all));
}
