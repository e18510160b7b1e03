-- The row of a key after a change, or the kind of its conflict.
use Rattle.std.specs.Prelude.{ℕ, List, Option, Some, None, Result, Ok, Err, if◌then◌else◌}
use Rattle.cs_model.specs.declared.change.Change.{Change}
use Rattle.cs_model.specs.declared.change.Op.{Op}
use Rattle.cs_model.specs.declared.change.Op.TheVariants.{Insert, Update, Delete}
use Rattle.cs_model.specs.declared.value.Field.{Field}
use Rattle.cs_model.specs.declared.value.Value.{Value}
use Rattle.cs_model.specs.Row.{values_of}
use Rattle.cs_apply.specs.declared.conflict.ConflictKind.{ConflictKind}
use Rattle.cs_apply.specs.declared.conflict.ConflictKind.TheVariants.{Data, NotFound, Conflict}
use Rattle.cs_apply.specs.Effect.{all_agree, rest_agrees, updated}

-- the row that a key has, or none, or the kind of a conflict
abbrev pub RowOrKind : Type 0
RowOrKind = Result (Option (List Value)) ConflictKind

-- An operation with these key flags and records on the row that the key has, or on none.
abbrev pub row_after_op : Op → List ℕ → List Field → List Field → Option (List Value) → RowOrKind
row_after_op Insert flags before after None = Ok (Some (values_of after))
row_after_op Insert flags before after (Some row) = Err Conflict
row_after_op Update flags before after None = Err NotFound
row_after_op Update flags before after (Some row) =
    if rest_agrees flags before row then Ok (Some (updated after row)) else Err Data
row_after_op Delete flags before after None = Err NotFound
row_after_op Delete flags before after (Some row) =
    if all_agree before row then Ok None else Err Data

abbrev pub row_after : List ℕ → Change → Option (List Value) → RowOrKind
row_after flags change row = row_after_op change.op flags change.before change.after row
