-- StagedPlan changes: the places that staging made, the tables without them, and the tables after
-- the changes.
use Rattle.std.specs.Prelude.{ℕ, List, [], ◌∷◌, Option, Some, None, slice_get}
use Rattle.std.specs.List.{AllByRecursion}
use Rattle.cs_model.specs.declared.row_key.RowKey.{RowKey}
use Rattle.cs_model.specs.declared.value.Value.{Value}
use Rattle.cs_apply.specs.Held.{CanHoldRow, HeldState, with_row}
use Rattle.par_apply.specs.declared.staged.StagedPlan.{StagedPlan}
use Rattle.par_apply.specs.RowChanges.{RowChanges}

-- the changes that are staged, in the plan's order
abbrev pub changes_staged : StagedPlan → RowChanges
changes_staged staged = staged.changes.list.items

-- each change can be made without memory
abbrev pub CanHoldAll : HeldState → RowChanges → Type 0
CanHoldAll tables changes = AllByRecursion (CanHoldRow tables) changes

-- the tables after the changes: each key has its row, or neither a row nor a place
abbrev pub changed_places : HeldState → RowChanges → HeldState
changed_places tables [] = tables
changed_places tables (change ∷ changes) =
    with_row (changed_places tables changes) change.0 change.1

-- the tables without the key at this index
abbrev pub without_change : HeldState → Option (RowKey × Option (List Value)) → HeldState
without_change tables None = tables
without_change tables (Some change) = with_row tables change.0 None

-- the tables without the keys at these indices, the last of them first
abbrev pub without_places : HeldState → RowChanges → List ℕ → HeldState
without_places tables changes [] = tables
without_places tables changes (i ∷ made) =
    without_change (without_places tables changes made) (slice_get changes i)

-- the tables without the places that staging made
abbrev pub unstaged : HeldState → StagedPlan → HeldState
unstaged tables staged = without_places tables staged.changes.list.items staged.made.items
