-- A change has its effect on the row of its key, and on that row alone.
use Rattle.std.proofs.Common.{◌≡◌, ℕ, Bool, true, false, cond, List, Option, Some, None, Result, Ok, Err}
use Rattle.std.proofs.Common.{refl}
use Rattle.std.specs.FinMap as map
use Rattle.cs_model.specs.declared.value.Field.{Field}
use Rattle.cs_model.specs.declared.value.Value.{Value}
use Rattle.cs_model.specs.declared.change.Op.{Op}
use Rattle.cs_model.specs.declared.change.Op.TheVariants.{Insert, Update, Delete}
use Rattle.cs_model.specs.declared.row_key.RowKey.{RowKey}
use Rattle.cs_model.specs.Row.{values_of}
use Rattle.cs_apply.specs.declared.conflict.ConflictKind.{ConflictKind}
use Rattle.cs_apply.specs.declared.conflict.ConflictKind.TheVariants.{Data}
use Rattle.cs_apply.specs.Effect.{all_agree, rest_agrees, updated, effect_by, inserted, changed, deleted}
use Rattle.cs_apply.specs.RowAfter.{RowOrKind, row_after_op}
use Rattle.cs_apply.specs.State.{Rows}
use Rattle.cs_apply.specs.Steps.{put}

-- the rows with this row at the key, or the conflict
abbrev pub put_or_kind : Rows → RowKey → RowOrKind → Result Rows ConflictKind
put_or_kind rows key (Ok row) = Ok (put rows key row)
put_or_kind rows key (Err kind) = Err kind

put_if : (b : Bool) (rows : Rows) (key : RowKey) (row : Option (List Value)) (kind : ConflictKind)
    → cond b (Ok (put rows key row)) (Err kind) ≡ put_or_kind rows key (cond b (Ok row) (Err kind))
put_if true rows key row kind = refl
put_if false rows key row kind = refl

insert_placed : (rows : Rows) (key : RowKey) (flags : List ℕ) (before after : List Field) (there : Option (List Value))
    → inserted rows key (values_of after) there ≡ put_or_kind rows key (row_after_op Insert flags before after there)
insert_placed rows key flags before after None = refl
insert_placed rows key flags before after (Some row) = refl

update_placed : (rows : Rows) (key : RowKey) (flags : List ℕ) (before after : List Field) (there : Option (List Value))
    → changed rows key flags before after there ≡ put_or_kind rows key (row_after_op Update flags before after there)
update_placed rows key flags before after None = refl
update_placed rows key flags before after (Some row) =
    put_if (rest_agrees flags before row) rows key (Some (updated after row)) Data

delete_placed : (rows : Rows) (key : RowKey) (flags : List ℕ) (before after : List Field) (there : Option (List Value))
    → deleted rows key before there ≡ put_or_kind rows key (row_after_op Delete flags before after there)
delete_placed rows key flags before after None = refl
delete_placed rows key flags before after (Some row) = put_if (all_agree before row) rows key None Data

pub effect_is : (op : Op) (rows : Rows) (key : RowKey) (flags : List ℕ) (before after : List Field)
    → effect_by op rows key flags before after
    ≡ put_or_kind rows key (row_after_op op flags before after (map.get rows key))
effect_is Insert rows key flags before after = insert_placed rows key flags before after (map.get rows key)
effect_is Update rows key flags before after = update_placed rows key flags before after (map.get rows key)
effect_is Delete rows key flags before after = delete_placed rows key flags before after (map.get rows key)
