-- Changes of rows, and the rows that they leave.
use Rattle.std.specs.Prelude.{◌≡◌, List, [], ◌∷◌, Option, Some, None}
use Rattle.std.specs.List.{IsDistinct}
use Rattle.std.specs.Map.{keys_of}
use Rattle.std.specs.FinMap as map
use Rattle.cs_model.specs.declared.row_key.RowKey.{RowKey}
use Rattle.cs_model.specs.declared.value.Value.{Value}
use Rattle.cs_apply.specs.SameKey.{at_key, same_key}
use Rattle.cs_apply.specs.State.{Rows}
use Rattle.cs_apply.specs.Steps.{put}

-- keys, each with the row that it gets, or none
abbrev pub RowChanges : Type 0
RowChanges = List (RowKey × Option (List Value))

-- the rows with each of these rows at its key, or none there
abbrev pub overlaid : Rows → RowChanges → Rows
overlaid rows [] = rows
overlaid rows (change ∷ changes) = put (overlaid rows changes) change.0 change.1

-- What there is for a key whose row was `old` and is `new`: the new row, or none, if it differs
-- from the old one, and no change otherwise.
abbrev pub IsRowChange : Option (List Value) → Option (List Value)
    → Option (Option (List Value)) → Type 0
IsRowChange old new None = old ≡ new
IsRowChange old new (Some row) = (row ≡ new) × (old ≡ new → ⊥)

-- The changes from some rows to others: one for each key whose row differs, in any order, and none
-- for another key.
abbrev pub AreRowChanges : Rows → Rows → RowChanges → Type 0
AreRowChanges before after changes = IsDistinct same_key (keys_of changes)
    × ((key : RowKey)
    → IsRowChange (map.get before key) (map.get after key) (at_key changes key))
