-- The changes of a changeset applied one at a time: the definition that `apply` meets.
use Rattle.std.specs.Prelude.{ℕ, suc, Bool, List, [], ◌∷◌, map, Option, Some, None, Result, Ok, Err}
use Rattle.std.specs.List.{flat_map}
use Rattle.cs_model.specs.declared.shape.Shape.{Shape}
use Rattle.cs_model.specs.declared.change.Change.{Change}
use Rattle.cs_model.specs.Section.{Section}
use Rattle.cs_apply.specs.declared.conflict.ConflictKind.{ConflictKind}
use Rattle.cs_apply.specs.declared.conflict.Conflict.{Conflict}
use Rattle.cs_apply.specs.State.{Rows, TableState, compatible}
use Rattle.cs_apply.specs.Effect.{effect}

-- a changeset's changes in order, each with its table's shape
abbrev pub changes_of : List Section → List (Shape × Change)
changes_of sections = flat_map (λ section. map (λ change. (section.shape, change)) section.changes)
    sections

-- The effect of a change if its table is compatible, and no effect otherwise.
abbrev pub effect_at : Option ℕ → Rows → Shape → Change → Result Rows ConflictKind
effect_at None rows shape change = Ok rows
effect_at (Some table) rows shape change = effect table shape.flags rows change

-- changes in order, the first of them at this position: the rows after all, or the first conflict
abbrev pub next_or_conflict : (ℕ → Rows → Result Rows Conflict) → ℕ → Result Rows ConflictKind
    → Result Rows Conflict
next_or_conflict rest at (Ok rows) = rest (suc at) rows
next_or_conflict rest at (Err kind) = Err (record { position = at; kind = kind })

unfoldable pub single_from : List Shape → List Bool → List (Shape × Change) → ℕ → Rows
    → Result Rows Conflict
single_from schema kept [] at rows = Ok rows
single_from schema kept (x ∷ changes) at rows =
    next_or_conflict (λ next after. single_from schema kept changes next after) at
    (effect_at (compatible schema kept x.0) rows x.0 x.1)

-- the tables after all changes of a changeset, one at a time, or its first conflict
abbrev pub with_rows : TableState → Result Rows Conflict → Result TableState Conflict
with_rows tables (Ok rows) = Ok (record tables { rows = rows })
with_rows tables (Err conflict) = Err conflict

abbrev pub single : TableState → List Section → Result TableState Conflict
single tables sections = with_rows tables
    (single_from tables.schema tables.kept (changes_of sections) 0 tables.rows)
