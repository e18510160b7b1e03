-- One change and one row: the inverse of the change takes the row back.
use Rattle.std.proofs.Common.{◌≡◌, ◌∙◌, ℕ, Bool, true, false, cond, eqb, List, [], ◌∷◌, Option, Some}
use Rattle.std.proofs.Common.{None, refl, ap, sym}
use Rattle.std.proofs.lemmas.Bool.{and_parts, and_from, false≢true}
use Rattle.std.proofs.lemmas.Bool.Decides.{Decides-int_eq}
use Rattle.std.proofs.lemmas.Option.{cond_some, none-some}
use Rattle.std.specs.Prelude.{◌&&◌}
use Rattle.std.specs.Cmp.Lexicographic.{nat_list_eq_equiv}
use Rattle.cs_model.specs.declared.value.Value.{Value}
use Rattle.cs_model.specs.declared.value.Value.TheVariants.{Integer, Text, Blob, Null}
use Rattle.cs_model.specs.declared.value.Field.{Field}
use Rattle.cs_model.specs.declared.value.Field.TheVariants.{Undefined, Is}
use Rattle.cs_model.specs.declared.change.Op.{Op}
use Rattle.cs_model.specs.declared.change.Op.TheVariants.{Insert, Update, Delete}
use Rattle.cs_model.specs.declared.change.Change.{Change}
use Rattle.cs_model.specs.Changeset.{AreRecords}
use Rattle.cs_model.specs.PackedChanges.{change_of}
use Rattle.cs_model.specs.Row.{values_of}
use Rattle.cs_apply.specs.Effect.{agrees, all_agree, rest_agrees, same_value, updated, updated_field}
use Rattle.cs_apply.proofs.rows_by_key.Columns.{value_is}
use Rattle.cs_group.proofs.one_row.Effects.{Row, on_change, on_row}
use Rattle.cs_group.proofs.one_row.Merging.{IsValidChange}
use Rattle.cs_group.proofs.one_row.RowLaw.{IsLongRow}
use Rattle.cs_group.proofs.one_row.Turning.{IsLong, others_agree}
use Rattle.cs_group.proofs.one_row.Valid.{IsRowRecord, IsOldRecord, IsNewRecord, ObeysRule, new_at, row_at}
use Rattle.cs_invert.specs.Inverse.{inverse_by, inverse_change, inverse_new, inverse_old}

-- ---- the record of a row

same_value_itself : (a : Value) → same_value a a ≡ true
same_value_itself (Integer n) = (Decides-int_eq n n).1 refl
same_value_itself (Text bytes) = nat_list_eq_equiv.refl bytes
same_value_itself (Blob bytes) = nat_list_eq_equiv.refl bytes
same_value_itself Null = refl

row_has_values : (outside : Bool) → ObeysRule (row_at outside) Undefined → ⊥
row_has_values true f = false≢true f.1
row_has_values false f = false≢true f.1

-- it agrees with the row that it makes
values_agree : (flags : List ℕ) (fields : List Field) → IsRowRecord flags fields
    → all_agree fields (values_of fields) ≡ true
values_agree [] [] r = refl
values_agree [] (field ∷ fields) r = elim r [ ]
values_agree (flag ∷ flags) [] r = elim r [ ]
values_agree (flag ∷ flags) (Undefined ∷ fields) r = absurd (row_has_values (eqb flag 0) (r.0, r.1))
values_agree (flag ∷ flags) (Is value ∷ fields) r = and_from (same_value value value)
    (all_agree fields (values_of fields)) (same_value_itself value) (values_agree flags fields r.2)

-- it makes the row that it agrees with
agreed_values : (flags : List ℕ) (fields : List Field) (row : Row) → IsRowRecord flags fields → IsLong flags row
    → all_agree fields row ≡ true → values_of fields ≡ row
agreed_values [] [] [] r l a = refl
agreed_values [] [] (value ∷ row) r l a = absurd cc
agreed_values [] (field ∷ fields) row r l a = elim r [ ]
agreed_values (flag ∷ flags) [] row r l a = elim r [ ]
agreed_values (flag ∷ flags) (field ∷ fields) [] r l a = absurd cc
agreed_values (flag ∷ flags) (Undefined ∷ fields) (value ∷ row) r l a = absurd (row_has_values (eqb flag 0) (r.0, r.1))
agreed_values (flag ∷ flags) (Is old ∷ fields) (value ∷ row) r l a =
    let parts = and_parts (same_value old value) (all_agree fields row) a in λ i.
    value_is old value parts.0 i ∷ agreed_values flags fields row r.2 (cc l) parts.1 i

-- ---- the columns of an UPDATE

-- the updated value agrees with the new field
new_agrees : (new : Field) (value : Value) → agrees new (updated_field new value) ≡ true
new_agrees Undefined value = refl
new_agrees (Is new) value = same_value_itself new

back_agrees_column : (outside : Bool) (old new : Field) (value : Value) (rest : Bool) → rest ≡ true
    → cond outside (agrees (cond outside new old) (updated_field new value) && rest) rest ≡ true
back_agrees_column true old new value rest r = and_from (agrees new (updated_field new value)) rest
    (new_agrees new value) r
back_agrees_column false old new value rest r = r

back_agrees : (flags : List ℕ) (before after : List Field) (row : Row) → IsLong flags row
    → rest_agrees flags (inverse_old flags before after) (updated after row) ≡ true
back_agrees [] before after row l = refl
back_agrees (flag ∷ flags) [] after row l = refl
back_agrees (flag ∷ flags) (old ∷ before) [] row l = refl
back_agrees (flag ∷ flags) (old ∷ before) (new ∷ after) [] l = absurd cc
back_agrees (flag ∷ flags) (old ∷ before) (new ∷ after) (value ∷ row) l =
    back_agrees_column (eqb flag 0) old new value
    (rest_agrees flags (inverse_old flags before after) (updated after row))
    (back_agrees flags before after row (cc l))

-- the old value comes back
back_column : (outside : Bool) (old new : Field) (value : Value) (rest : Bool) → ObeysRule (new_at outside old) new
    → cond outside (agrees old value && rest) rest ≡ true
    → updated_field (cond outside old new) (updated_field new value) ≡ value
back_column true Undefined Undefined value rest n a = refl
back_column true Undefined (Is new) value rest n a = absurd (false≢true n.1)
back_column true (Is old) new value rest n a = value_is old value (and_parts (same_value old value) rest a).0
back_column false old Undefined value rest n a = refl
back_column false old (Is new) value rest n a = absurd (false≢true n.1)

back_row : (flags : List ℕ) (before after : List Field) (row : Row) → IsOldRecord flags before
    → IsNewRecord flags before after → IsLong flags row → rest_agrees flags before row ≡ true
    → updated (inverse_new flags before after) (updated after row) ≡ row
back_row [] [] [] row o n l a = refl
back_row [] [] (new ∷ after) row o n l a = elim n [ ]
back_row [] (old ∷ before) after row o n l a = elim o [ ]
back_row (flag ∷ flags) [] after row o n l a = elim o [ ]
back_row (flag ∷ flags) (old ∷ before) [] row o n l a = elim n [ ]
back_row (flag ∷ flags) (old ∷ before) (new ∷ after) [] o n l a = absurd cc
back_row (flag ∷ flags) (old ∷ before) (new ∷ after) (value ∷ row) o n l a = λ i.
    back_column (eqb flag 0) old new value (rest_agrees flags before row) (n.0, n.1) a i
    ∷ back_row flags before after row o.2 n.2 (cc l)
    (others_agree (eqb flag 0) (agrees old value) (rest_agrees flags before row) a) i

-- ---- the change

by_back : (op : Op) (flags : List ℕ) (indirect : Bool) (before after : List Field) (row next : Option Row)
    → AreRecords flags op before after → IsLongRow flags row → on_row op flags before after row ≡ Some next
    → on_change flags (inverse_by op flags (change_of op indirect before after)) next ≡ Some row
by_back Insert flags indirect before after None next r l e =
    let is : Some (values_of after) ≡ next = cc e in
    ap (λ (n : Option Row). on_row Delete flags after before n) (sym is)
    ∙ ap (λ (b : Bool). cond b (Some None) None) (values_agree flags after r.1)
by_back Insert flags indirect before after (Some row) next r l e = absurd (none-some next e)
by_back Update flags indirect before after None next r l e = absurd (none-some next e)
by_back Update flags indirect before after (Some row) next r l e =
    let f = cond_some (rest_agrees flags before row) (Some (updated after row)) next e in
    ap (λ (n : Option Row). on_row Update flags (inverse_old flags before after) (inverse_new flags before after) n)
    (sym f.1)
    ∙ ap (λ (b : Bool). cond b (Some (Some (updated (inverse_new flags before after) (updated after row)))) None)
    (back_agrees flags before after row l)
    ∙ ap (λ (v : Row). Some (Some v)) (back_row flags before after row r.0 r.1 l f.0)
by_back Delete flags indirect before after None next r l e = absurd (none-some next e)
by_back Delete flags indirect before after (Some row) next r l e =
    let f = cond_some (all_agree before row) None next e in
    ap (λ (n : Option Row). on_row Insert flags after before n) (sym f.1)
    ∙ ap (λ (v : Row). Some (Some v)) (agreed_values flags before row r.0 l f.0)

pub one_back : (flags : List ℕ) (change : Change) (row next : Option Row) → IsValidChange flags change
    → IsLongRow flags row
    → on_change flags change row ≡ Some next → on_change flags (inverse_change flags change) next ≡ Some row
one_back flags change row next r l e =
    by_back change.op flags change.indirect change.before change.after row next r l e
