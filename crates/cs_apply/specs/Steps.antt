-- The steps of `apply`: one edit of a place, one change, and the changes of one section.
use Rattle.std.specs.Prelude.{◌≡◌, ℕ, zero, suc, ◌+◌, ◌-◌, ◌^◌, ◌≤◌, min, Bool, true, false}
use Rattle.std.specs.Prelude.{◌&&◌, ◌==◌, if◌then◌else◌}
use Rattle.std.specs.Prelude.{List, [], ◌∷◌, length, take, Option, None, Some, Result, Ok, Err}
use Rattle.std.specs.FinMap as map
use Rattle.cs_model.specs.declared.change.Change.{Change}
use Rattle.cs_model.specs.declared.value.Value.{Value}
use Rattle.cs_model.specs.declared.value.Field.{Field}
use Rattle.cs_model.specs.declared.value.Field.TheVariants.{Undefined, Is}
use Rattle.cs_model.specs.declared.row_key.RowKey.{RowKey}
use Rattle.cs_apply.specs.declared.conflict.Conflict.{Conflict as Conflicts}
use Rattle.cs_apply.specs.declared.places.UndoStep.{UndoStep}
use Rattle.cs_apply.specs.declared.places.Places.{Places}
use Rattle.cs_apply.specs.State.{Rows}
use Rattle.cs_apply.specs.Effect.{effect, same_value}
use Rattle.cs_apply.specs.Single.{next_or_conflict}

-- places as they are stored: keys, and the row of each or none
abbrev pub Entries : Type 0
Entries = List (RowKey × Option (List Value))

-- the places that have a row
abbrev pub FilledPlaces : Type 0
FilledPlaces = List (RowKey × List Value)

abbrev pub filled_with : RowKey → Option (List Value) → FilledPlaces → FilledPlaces
filled_with key None rows = rows
filled_with key (Some row) rows = (key, row) ∷ rows

abbrev pub filled : Entries → FilledPlaces
filled [] = []
filled (e ∷ es) = filled_with e.0 e.1 (filled es)

-- the finite map of them
abbrev pub rows_of : Entries → Rows
rows_of es = map.from_entries (filled es)

-- the rows that places hold
abbrev pub rows_in : Places → Rows
rows_in places = rows_of places.rows.entries

-- the rows with this row at a key, or with none there
abbrev pub put : Rows → RowKey → Option (List Value) → Rows
put rows key None = map.remove rows key
put rows key (Some row) = map.insert rows key row

-- the places with the row at this index replaced or cleared, if there is one
abbrev pub set_at : ℕ → Option (List Value) → Entries → Entries
set_at place row [] = []
set_at zero row (e ∷ es) = (e.0, row) ∷ es
set_at (suc place) row (e ∷ es) = e ∷ set_at place row es

-- the places after the steps are undone, the last of them first
abbrev pub undone : List UndoStep → Entries → Entries
undone [] es = es
undone (step ∷ log) es = set_at step.place step.back (undone log es)

-- whether a field is undefined or equals another
abbrev pub field_agrees : Field → Field → Bool
field_agrees Undefined value = true
field_agrees (Is old) Undefined = false
field_agrees (Is old) (Is value) = same_value old value

-- the same for the columns outside the key of a record and a row's record
abbrev pub fields_agree : List ℕ → List Field → List Field → Bool
fields_agree [] fields values = true
fields_agree (flag ∷ flags) [] values = true
fields_agree (flag ∷ flags) (field ∷ fields) [] = false
fields_agree (flag ∷ flags) (field ∷ fields) (value ∷ values) =
    if flag == 0 then field_agrees field value
    && fields_agree flags fields values else fields_agree flags fields values

-- a record's field if it has a value, or the row's
abbrev pub chosen : Option Field → Field → Field
chosen None value = value
chosen (Some Undefined) value = value
chosen (Some (Is new)) value = Is new

-- a row's record with the record's values in place of its own
abbrev pub merged : List Field → List Field → List Field
merged fields [] = []
merged [] (value ∷ values) = chosen None value ∷ merged [] values
merged (field ∷ fields) (value ∷ values) = chosen (Some field) value ∷ merged fields values

-- The approximate number of empty places after one step, and after all: one more for a step that
-- took a row out of its place, and one less for a step that found its place empty. A row that
-- replaces another counts as taken out.
abbrev pub empty_with : ℕ → Option (List Value) → ℕ
empty_with empty None = empty - 1
empty_with empty (Some back) = min (empty + 1) (2 ^ 64 - 1)

abbrev pub empty_after : ℕ → List UndoStep → ℕ
empty_after empty [] = empty
empty_after empty (step ∷ steps) = empty_after (empty_with empty step.back) steps

-- Undoing the log restores the old places, which precede the new ones.
pub record Back (old new : Places) : Type 0 where
  pub grows : length old.rows.entries ≤ length new.rows.entries
  pub back : (n : ℕ) → n ≤ length old.rows.entries → take n (undone new.log.items new.rows.entries)
      ≡ take n (undone old.log.items old.rows.entries)

-- the changes of one section of a compatible table, the first of them at this position
unfoldable pub section_from : ℕ → List ℕ → List Change → ℕ → Rows → Result Rows Conflicts
section_from table flags [] at rows = Ok rows
section_from table flags (change ∷ changes) at rows =
    next_or_conflict (λ next after. section_from table flags changes next after) at
    (effect table flags rows change)

-- what follows a section's changes, if none of them conflicts
abbrev pub carry : (Rows → Result Rows Conflicts) → Result Rows Conflicts → Result Rows Conflicts
carry rest (Ok rows) = rest rows
carry rest (Err conflict) = Err conflict
