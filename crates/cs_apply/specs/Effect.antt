-- The effect of one change on the rows, or the kind of its conflict.
use Rattle.std.specs.Prelude.{ℕ, Bool, true, false, ◌&&◌, ◌==◌, if◌then◌else◌, List, [], ◌∷◌}
use Rattle.std.specs.Prelude.{Option, Some, None, Result, Ok, Err}
use Rattle.std.specs.Ordering.{int_eq}
use Rattle.std.specs.FinMap as map
use Rattle.cs_model.specs.declared.value.Value.{Value}
use Rattle.cs_model.specs.declared.value.Value.TheVariants.{Integer, Text, Blob, Null}
use Rattle.cs_model.specs.declared.value.Field.{Field}
use Rattle.cs_model.specs.declared.value.Field.TheVariants.{Undefined, Is}
use Rattle.cs_model.specs.declared.change.Op.{Op}
use Rattle.cs_model.specs.declared.change.Op.TheVariants.{Insert, Update, Delete}
use Rattle.cs_model.specs.declared.change.Change.{Change}
use Rattle.cs_model.specs.declared.row_key.RowKey.{RowKey}
use Rattle.cs_model.specs.Schema.{same_bytes}
use Rattle.cs_model.specs.Key.{key_of}
use Rattle.cs_model.specs.Row.{values_of}
use Rattle.cs_apply.specs.declared.conflict.ConflictKind.{ConflictKind}
use Rattle.cs_apply.specs.declared.conflict.ConflictKind.TheVariants.{Data, NotFound, Conflict}
use Rattle.cs_apply.specs.State.{Rows}

-- values are equal if their types and bytes are
abbrev pub same_value : Value → Value → Bool
same_value (Integer a) (Integer b) = int_eq a b
same_value (Integer a) (Text b) = false
same_value (Integer a) (Blob b) = false
same_value (Integer a) Null = false
same_value (Text a) (Integer b) = false
same_value (Text a) (Text b) = same_bytes a b
same_value (Text a) (Blob b) = false
same_value (Text a) Null = false
same_value (Blob a) (Integer b) = false
same_value (Blob a) (Text b) = false
same_value (Blob a) (Blob b) = same_bytes a b
same_value (Blob a) Null = false
same_value Null (Integer b) = false
same_value Null (Text b) = false
same_value Null (Blob b) = false
same_value Null Null = true

-- whether a field is undefined or equals the row's value
abbrev pub agrees : Field → Value → Bool
agrees Undefined value = true
agrees (Is old) value = same_value old value

-- whether each field is undefined or equals the row's value
abbrev pub all_agree : List Field → List Value → Bool
all_agree [] row = true
all_agree (field ∷ fields) [] = false
all_agree (field ∷ fields) (value ∷ row) = agrees field value && all_agree fields row

-- the same, without the key columns
abbrev pub rest_agrees : List ℕ → List Field → List Value → Bool
rest_agrees [] fields row = true
rest_agrees (flag ∷ flags) [] row = true
rest_agrees (flag ∷ flags) (field ∷ fields) [] = false
rest_agrees (flag ∷ flags) (field ∷ fields) (value ∷ row) =
    if flag == 0 then agrees field value && rest_agrees flags fields row else rest_agrees flags
    fields row

-- the row with the new record's values in place of its own
abbrev pub updated_field : Field → Value → Value
updated_field Undefined value = value
updated_field (Is new) value = new

abbrev pub updated : List Field → List Value → List Value
updated [] row = row
updated (field ∷ fields) [] = []
updated (field ∷ fields) (value ∷ row) = updated_field field value ∷ updated fields row

-- INSERT: the row must not exist.
abbrev pub inserted : Rows → RowKey → List Value → Option (List Value) → Result Rows ConflictKind
inserted rows key new None = Ok (map.insert rows key new)
inserted rows key new (Some row) = Err Conflict

-- DELETE: the row must exist and equal the old record.
abbrev pub deleted : Rows → RowKey → List Field → Option (List Value) → Result Rows ConflictKind
deleted rows key before None = Err NotFound
deleted rows key before (Some row) =
    if all_agree before row then Ok (map.remove rows key) else Err Data

-- UPDATE: the row must exist and agree with the old record outside the key.
abbrev pub changed : Rows → RowKey → List ℕ → List Field → List Field → Option (List Value)
    → Result Rows ConflictKind
changed rows key flags before after None = Err NotFound
changed rows key flags before after (Some row) =
    if rest_agrees flags before row then Ok (map.insert rows key (updated after row)) else Err Data

-- A change of the table with this index and these key flags: the rows after it, or the kind of its
-- conflict.
abbrev pub effect_by : Op → Rows → RowKey → List ℕ → List Field → List Field
    → Result Rows ConflictKind
effect_by Insert rows key flags before after =
    inserted rows key (values_of after) (map.get rows key)
effect_by Update rows key flags before after =
    changed rows key flags before after (map.get rows key)
effect_by Delete rows key flags before after = deleted rows key before (map.get rows key)

abbrev pub effect : ℕ → List ℕ → Rows → Change → Result Rows ConflictKind
effect table flags rows change =
    effect_by change.op rows (key_of table flags change) flags change.before change.after
