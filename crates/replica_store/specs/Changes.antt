-- What a commit makes of the rows and the cursor.
use Rattle.std.specs.Prelude.{◌≡◌, ◌⊎◌, ℕ, List, [], ◌∷◌, Option, Some, option_map}
use Rattle.sqlite.specs.Tree.{Trees}
use Rattle.cs_model.specs.Packed.{packed}
use Rattle.cs_model.specs.Row.{row_fields}
use Rattle.cs_model.specs.declared.row_key.RowKey.{RowKey}
use Rattle.cs_model.specs.declared.value.Value.{Value}
use Rattle.par_apply.specs.RowChanges.{RowChanges}
use Rattle.replica_store.specs.Picture.{StoredRows, Stores, AreSameRows, IsReplica, HasCursor}

-- a row's body: the canonical bytes of its values
abbrev pub row_body : List Value → List ℕ
row_body row = packed (row_fields row)

-- The rows after one change: its row stands under its key, or nothing does; the others stay.
abbrev pub AfterChange : RowKey × Option (List Value) → StoredRows → StoredRows
AfterChange change rows key body =
    ((key ≡ change.0) × (option_map row_body change.1 ≡ Some body))
    ⊎ ((key ≡ change.0 → ⊥) × rows key body)

-- the rows after the changes, in their order
abbrev pub AfterChanges : RowChanges → StoredRows → StoredRows
AfterChanges [] rows = rows
AfterChanges (change ∷ changes) rows = AfterChanges changes (AfterChange change rows)

-- The trees after a commit of these changes and this cursor: rows and cursor together.
pub record Commits (changes : RowChanges) (place : ℕ) (old new : Trees) : Type 0 where
  pub replica : IsReplica new
  pub rows : AreSameRows (Stores new) (AfterChanges changes (Stores old))
  pub cursor : HasCursor new place
