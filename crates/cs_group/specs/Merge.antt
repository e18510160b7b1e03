-- Two changes of one row as one change. The second is made right after the first.
use Rattle.std.specs.Prelude.{ℕ, Bool, true, false, not, ◌&&◌, ◌==◌, if◌then◌else◌, List, [], ◌∷◌}
use Rattle.std.specs.Prelude.{Option, Some, None}
use Rattle.std.specs.List.{list_any}
use Rattle.cs_model.specs.declared.value.Field.{Field}
use Rattle.cs_model.specs.declared.value.Field.TheVariants.{Undefined, Is}
use Rattle.cs_model.specs.declared.change.Op.{Op}
use Rattle.cs_model.specs.declared.change.Op.TheVariants.{Insert, Update, Delete}
use Rattle.cs_model.specs.declared.change.Change.{Change}
use Rattle.cs_model.specs.PackedChanges.{change_of}
use Rattle.cs_model.specs.Rule.{is_defined}
use Rattle.cs_apply.specs.Effect.{same_value}

-- ---- records

-- a field, or the other one if it is undefined
abbrev pub field_or : Field → Field → Field
field_or Undefined other = other
field_or (Is value) other = Is value

-- a record, with another's fields where its own are undefined
abbrev pub record_or : List Field → List Field → List Field
record_or [] others = []
record_or (field ∷ fields) [] = []
record_or (field ∷ fields) (other ∷ others) = field_or field other ∷ record_or fields others

-- fields are equal if both are undefined or both have the same value
abbrev pub equal_fields : Field → Field → Bool
equal_fields Undefined Undefined = true
equal_fields Undefined (Is new) = false
equal_fields (Is old) Undefined = false
equal_fields (Is old) (Is new) = same_value old new

-- ---- an UPDATE with the columns that it changes

-- A column's old and new field, if the UPDATE changes the column. Outside the key both are
-- undefined if they are equal; a key column keeps its old value and has no new one.
abbrev pub old_if_changed : ℕ → Field → Field → Field
old_if_changed flag old new = if flag == 0 && equal_fields old new then Undefined else old

abbrev pub new_if_changed : ℕ → Field → Field → Field
new_if_changed flag old new = if flag == 0 && not (equal_fields old new) then new else Undefined

-- a field for each column, made of its key flag and its fields in two records
abbrev pub by_column : (ℕ → Field → Field → Field) → List ℕ → List Field → List Field → List Field
by_column make [] before after = []
by_column make (flag ∷ flags) [] after = []
by_column make (flag ∷ flags) (old ∷ before) [] = []
by_column make (flag ∷ flags) (old ∷ before) (new ∷ after) =
    make flag old new ∷ by_column make flags before after

abbrev pub olds_changed : List ℕ → List Field → List Field → List Field
olds_changed flags before after = by_column old_if_changed flags before after

abbrev pub news_changed : List ℕ → List Field → List Field → List Field
news_changed flags before after = by_column new_if_changed flags before after

-- the UPDATE between these records, or none if no column is left
abbrev pub update_between : List ℕ → Bool → List Field → List Field → Option Change
update_between flags indirect before after =
    if list_any is_defined (news_changed flags before after)
    then Some (change_of Update indirect (olds_changed flags before after)
    (news_changed flags before after))
    else None

-- ---- one change

-- a change of a row that has none: an UPDATE with the columns that it changes, any other as it is
abbrev pub only_change_by : Op → List ℕ → Change → Option Change
only_change_by Insert flags new = Some new
only_change_by Update flags new = update_between flags new.indirect new.before new.after
only_change_by Delete flags new = Some new

abbrev pub only_change : List ℕ → Change → Option Change
only_change flags new = only_change_by new.op flags new

-- ---- two changes, row by row of the table in docs/proof/DEFINITIONS.md

-- a merged change is indirect if both are
abbrev pub both_indirect : Change → Change → Bool
both_indirect there new = there.indirect && new.indirect

-- INSERT, then UPDATE: an INSERT with the updated values
abbrev pub insert_update : Change → Change → Option Change
insert_update there new =
    Some (change_of Insert (both_indirect there new) [] (record_or new.after there.after))

-- UPDATE, then UPDATE: the first one's old values, and the second one's new values
abbrev pub update_update : List ℕ → Change → Change → Option Change
update_update flags there new =
    update_between flags (both_indirect there new) (record_or there.before new.before)
    (record_or new.after there.after)

-- UPDATE, then DELETE: a DELETE of the row before both
abbrev pub update_delete : Change → Change → Option Change
update_delete there new =
    Some (change_of Delete (both_indirect there new) (record_or there.before new.before) [])

-- DELETE, then INSERT: an UPDATE from the deleted row to the inserted one
abbrev pub delete_insert : List ℕ → Change → Change → Option Change
delete_insert flags there new =
    update_between flags (both_indirect there new) there.before new.after

-- The change into which two changes of one row merge, or none. INSERT, then DELETE is none. A
-- second one that can't come after the first is ignored.
abbrev pub two_changes_by : Op → Op → List ℕ → Change → Change → Option Change
two_changes_by Insert Insert flags there new = Some there
two_changes_by Insert Update flags there new = insert_update there new
two_changes_by Insert Delete flags there new = None
two_changes_by Update Insert flags there new = Some there
two_changes_by Update Update flags there new = update_update flags there new
two_changes_by Update Delete flags there new = update_delete there new
two_changes_by Delete Insert flags there new = delete_insert flags there new
two_changes_by Delete Update flags there new = Some there
two_changes_by Delete Delete flags there new = Some there

abbrev pub two_changes : List ℕ → Change → Change → Option Change
two_changes flags there new = two_changes_by there.op new.op flags there new

-- what a row's change becomes by one more change of the row
abbrev pub with_change : List ℕ → Option Change → Change → Option Change
with_change flags None new = only_change flags new
with_change flags (Some there) new = two_changes flags there new
