-- Rows with changes of rows made, and the rows that others lack.
use Rattle.std.specs.Prelude.{◌≡◌, Bool, true, false, not, Option, Some, None, List, filter}
use Rattle.std.specs.Cmp.Lexicographic.{pointwise}
use Rattle.std.specs.FinMap as map
use Rattle.cs_model.specs.declared.row_key.RowKey.{RowKey}
use Rattle.cs_model.specs.declared.value.Value.{Value}
use Rattle.cs_apply.specs.Effect.{same_value}
use Rattle.cs_apply.specs.SameKey.{at_key}
use Rattle.cs_apply.specs.State.{Rows, TableState}
use Rattle.cs_apply.specs.Steps.{Entries}

-- what a key has after its change, or without one
abbrev pub row_after_change : Option (Option (List Value)) → Option (List Value)
    → Option (List Value)
row_after_change None old = old
row_after_change (Some row) old = row

-- each key has the row that its change gives it, or none; without a change, what it had
abbrev pub AreChanged : Rows → Entries → Rows → Type 0
AreChanged old changes new = (key : RowKey)
    → map.get new key ≡ row_after_change (at_key changes key) (map.get old key)

-- the same schema and kept tables, and the rows with these changes made
abbrev pub IsChanged : TableState → Entries → TableState → Type 0
IsChanged old changes new = ((old.schema ≡ new.schema) × (old.kept ≡ new.kept))
    × AreChanged old.rows changes new.rows

-- each row whose key has no change is a row of the others, too, under the same key
abbrev pub AreInBut : Rows → Entries → Rows → Type 0
AreInBut rows changes others = (key : RowKey) (row : List Value) → at_key changes key ≡ None
    → map.get rows key ≡ Some row → map.get others key ≡ Some row

-- whether a row isn't the one that is there; none is never lacked
abbrev pub is_lacked : Option (List Value) → Option (List Value) → Bool
is_lacked None there = false
is_lacked (Some row) None = true
is_lacked (Some row) (Some found) = not (pointwise same_value found row)

-- the changes whose key has a row that the others lack
abbrev pub lacked_changes : Rows → Rows → Entries → Entries
lacked_changes rows others changes =
    filter (λ e. is_lacked (map.get rows e.0) (map.get others e.0)) changes

-- the places whose row the others lack
abbrev pub lacked_places : Rows → Entries → Entries
lacked_places others es = filter (λ e. is_lacked e.1 (map.get others e.0)) es
