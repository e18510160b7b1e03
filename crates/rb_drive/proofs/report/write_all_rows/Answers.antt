use Rattle.std.proofs.Common.{◌++◌, ap, sym, ◌∙◌}
use Rattle.std.proofs.lemmas.List.{length-map}
use Rattle.std.specs.List.{flat_map}
use Rattle.cs_apply.specs.Seen.{listed}
use Rattle.rb_script.specs.Texts.{row_text}
use Rattle.rb_drive.specs.Report.{row_count_text}
use Rattle.rb_drive.proofs.outcomes.ReportLaws.{fault_in_same}
use Rattle.rb_drive.proofs.report.write_all_rows.Goals as goal

pub returns-clause-err : goal.returns-clause-err
returns-clause-err g c =
    fault_in_same c.write_with_rows.result _ _ _ _ c.write_with_rows.ensures.err
    (ap (λ t. t ++ flat_map row_text (listed c.args.rows.now)) (c.deref.ensures.value ∙ c.in_ok-first.ensures
    ∙ ap row_count_text (sym (length-map c.args.rows.now (λ p. (p.0.now, p.1.now))))))
