use Rattle.std.proofs.Common.{◌≡◌, ◌++◌, None, drop}
use Rattle.cs_apply.specs.Seen.{listed}
use Rattle.broker_c.specs.RowTexts.{rows_changeset}
use Rattle.broker_c.proofs.row_texts.text_of_rows.Given as goal

-- the text so far, and that of the rows that are left
abbrev pub invariant-loop-key : goal.invariant-loop-key
invariant-loop-key l =
    l.text.items ++ rows_changeset l.tables l.last (listed (drop l.key-index l.rows)) ≡ rows_changeset l.tables None (listed l.rows)
