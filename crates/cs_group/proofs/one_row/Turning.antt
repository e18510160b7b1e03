-- Which two records turn a row into which other one.
use Rattle.std.proofs.Common.{◌≡◌, ◌∙◌, ℕ, Bool, true, false, cond, eqb, List, [], ◌∷◌, length, refl, ap, sym}
use Rattle.std.proofs.lemmas.Bool.{and_parts, and_from, false≢true}
use Rattle.std.specs.Prelude.{◌&&◌}
use Rattle.cs_model.specs.declared.value.Value.{Value}
use Rattle.cs_model.specs.declared.value.Field.{Field}
use Rattle.cs_model.specs.declared.value.Field.TheVariants.{Undefined, Is}
use Rattle.cs_model.specs.KeyBytes.{key_fields}
use Rattle.cs_model.specs.Row.{values_of}
use Rattle.cs_apply.specs.Effect.{agrees, all_agree, rest_agrees, updated_field, updated}
use Rattle.cs_apply.proofs.rows_by_key.Columns.{value_is}
use Rattle.cs_group.specs.Merge.{field_or, record_or}
use Rattle.cs_group.proofs.one_row.Valid.{IsRowRecord, IsOldRecord, IsNewRecord, ObeysRule, row_at, new_at, key_at}
use Rattle.cs_group.proofs.one_row.Effects.{Row, Turns, TurnsAt}

-- the row has one value for each column
abbrev pub IsLong : List ℕ → Row → Type 0
IsLong flags row = length row ≡ length flags

-- ---- an UPDATE

update_at : (outside : Bool) (old new : Field) (value : Value) (rest : Bool) → ObeysRule (new_at outside old) new
    → cond outside (agrees old value && rest) rest ≡ true → TurnsAt outside old new value (updated_field new value)
update_at true old new value rest n a = ((and_parts (agrees old value) rest a).0, refl)
update_at false old Undefined value rest n a = refl
update_at false old (Is new) value rest n a = absurd (false≢true n.1)

-- what the columns behind agree with
pub others_agree : (outside first rest : Bool) → cond outside (first && rest) rest ≡ true → rest ≡ true
others_agree true first rest a = (and_parts first rest a).1
others_agree false first rest a = a

pub update_turns : (flags : List ℕ) (before after : List Field) (row : Row) → IsOldRecord flags before
    → IsNewRecord flags before after
    → IsLong flags row → rest_agrees flags before row ≡ true → Turns flags before after row (updated after row)
update_turns [] [] [] [] o n l a = tt
update_turns [] [] [] (value ∷ row) o n l a = absurd cc
update_turns [] [] (new ∷ after) row o n l a = elim n [ ]
update_turns [] (old ∷ before) after row o n l a = elim o [ ]
update_turns (flag ∷ flags) [] after row o n l a = elim o [ ]
update_turns (flag ∷ flags) (old ∷ before) [] row o n l a = elim n [ ]
update_turns (flag ∷ flags) (old ∷ before) (new ∷ after) [] o n l a = absurd cc
update_turns (flag ∷ flags) (old ∷ before) (new ∷ after) (value ∷ row) o n l a = (
  update_at (eqb flag 0) old new value (rest_agrees flags before row) (n.0, n.1) a,
  update_turns flags before after row o.2 n.2 (cc l)
      (others_agree (eqb flag 0) (agrees old value) (rest_agrees flags before row) a),
)

-- ---- two UPDATEs

field_twice : (new newer : Field) (value : Value) → updated_field (field_or newer new) value
    ≡ updated_field newer (updated_field new value)
field_twice new Undefined value = refl
field_twice new (Is newer) value = refl

agrees_first : (old new later : Field) (value : Value) → ObeysRule (new_at true old) new → agrees old value ≡ true
    → agrees later (updated_field new value) ≡ true → agrees (field_or old later) value ≡ true
agrees_first (Is old) new later value n a b = a
agrees_first Undefined Undefined later value n a b = b
agrees_first Undefined (Is new) later value n a b = absurd (false≢true n.1)

updates_at : (outside : Bool) (old new later newer : Field) (value : Value) (rest more : Bool)
    → ObeysRule (new_at outside old) new
    → ObeysRule (new_at outside later) newer → cond outside (agrees old value && rest) rest ≡ true
    → cond outside (agrees later (updated_field new value) && more) more ≡ true
    → TurnsAt outside (field_or old later) (field_or newer new) value (updated_field newer (updated_field new value))
updates_at true old new later newer value rest more n m a b = (
  agrees_first old new later value n (and_parts (agrees old value) rest a).0
      (and_parts (agrees later (updated_field new value)) more b).0,
  field_twice new newer value,
)
updates_at false old (Is new) later newer value rest more n m a b = absurd (false≢true n.1)
updates_at false old Undefined later (Is newer) value rest more n m a b = absurd (false≢true m.1)
updates_at false old Undefined later Undefined value rest more n m a b = refl

pub updates_turn : (flags : List ℕ) (before after later newer : List Field) (row : Row) → IsOldRecord flags before
    → IsNewRecord flags before after → IsOldRecord flags later → IsNewRecord flags later newer → IsLong flags row
    → rest_agrees flags before row ≡ true → rest_agrees flags later (updated after row) ≡ true
    → Turns flags (record_or before later) (record_or newer after) row (updated newer (updated after row))
updates_turn [] [] [] [] [] [] o n p m l a b = tt
updates_turn [] [] [] [] [] (value ∷ row) o n p m l a b = absurd cc
updates_turn [] [] [] [] (newer ∷ newers) row o n p m l a b = elim m [ ]
updates_turn [] [] [] (later ∷ laters) newers row o n p m l a b = elim p [ ]
updates_turn [] [] (new ∷ after) laters newers row o n p m l a b = elim n [ ]
updates_turn [] (old ∷ before) after laters newers row o n p m l a b = elim o [ ]
updates_turn (flag ∷ flags) [] after laters newers row o n p m l a b = elim o [ ]
updates_turn (flag ∷ flags) (old ∷ before) [] laters newers row o n p m l a b = elim n [ ]
updates_turn (flag ∷ flags) (old ∷ before) (new ∷ after) [] newers row o n p m l a b = elim p [ ]
updates_turn (flag ∷ flags) (old ∷ before) (new ∷ after) (later ∷ laters) [] row o n p m l a b = elim m [ ]
updates_turn (flag ∷ flags) (old ∷ before) (new ∷ after) (later ∷ laters) (newer ∷ newers) [] o n p m l a b = absurd cc
updates_turn (flag ∷ flags) (old ∷ before) (new ∷ after) (later ∷ laters) (newer ∷ newers) (value ∷ row) o n p m l a
    b = (
      updates_at (eqb flag 0) old new later newer value (rest_agrees flags before row)
          (rest_agrees flags laters (updated after row)) (n.0, n.1) (m.0, m.1) a b,
      updates_turn flags before after laters newers row o.2 n.2 p.2 m.2 (cc l)
          (others_agree (eqb flag 0) (agrees old value) (rest_agrees flags before row) a)
          (others_agree (eqb flag 0) (agrees later (updated_field new value))
          (rest_agrees flags laters (updated after row))
          b),
    )

-- ---- DELETE, then INSERT

-- the keys begin alike, and go on alike
key_heads : (one other : Field) (rest others : List Field) → one ∷ rest ≡ other ∷ others → (one ≡ other)
    × (rest ≡ others)
key_heads one other rest others e = (cc e, cc e)

rows_at : (outside : Bool) (old : Field) (new : Value) (value : Value) (rest others : List Field)
    → ObeysRule (row_at outside) old
    → agrees old value ≡ true → key_at outside old rest ≡ key_at outside (Is new) others
    → TurnsAt outside old (Is new) value new
rows_at true old new value rest others o a k = (a, refl)
rows_at false Undefined new value rest others o a k = absurd (false≢true o.1)
rows_at false (Is old) new value rest others o a k =
    let same : Is old ≡ Is new = (key_heads (Is old) (Is new) rest others k).0 in sym (value_is old value a) ∙ cc same

pub rest_keys : (outside : Bool) (one other : Field) (rest others : List Field) → key_at outside one rest
    ≡ key_at outside other others
    → rest ≡ others
rest_keys true one other rest others k = k
rest_keys false one other rest others k = (key_heads one other rest others k).1

no_undefined : (outside : Bool) → ObeysRule (row_at outside) Undefined → ⊥
no_undefined true f = false≢true f.1
no_undefined false f = false≢true f.1

pub rows_turn : (flags : List ℕ) (before after : List Field) (row : Row) → IsRowRecord flags before
    → IsRowRecord flags after
    → IsLong flags row → all_agree before row ≡ true → key_fields flags before ≡ key_fields flags after
    → Turns flags before after row (values_of after)
rows_turn [] [] [] [] o n l a k = tt
rows_turn [] [] [] (value ∷ row) o n l a k = absurd cc
rows_turn [] [] (new ∷ after) row o n l a k = elim n [ ]
rows_turn [] (old ∷ before) after row o n l a k = elim o [ ]
rows_turn (flag ∷ flags) [] after row o n l a k = elim o [ ]
rows_turn (flag ∷ flags) (old ∷ before) [] row o n l a k = elim n [ ]
rows_turn (flag ∷ flags) (old ∷ before) (new ∷ after) [] o n l a k = absurd cc
rows_turn (flag ∷ flags) (old ∷ before) (Undefined ∷ after) (value ∷ row) o n l a k =
    absurd (no_undefined (eqb flag 0) (n.0, n.1))
rows_turn (flag ∷ flags) (old ∷ before) (Is new ∷ after) (value ∷ row) o n l a k =
    let agree = and_parts (agrees old value) (all_agree before row) a in (
      rows_at (eqb flag 0) old new value (key_fields flags before) (key_fields flags after) (o.0, o.1) agree.0 k,
      rows_turn flags before after row o.2 n.2 (cc l) agree.1
          (rest_keys (eqb flag 0) old (Is new) (key_fields flags before) (key_fields flags after) k),
    )

-- ---- INSERT, then UPDATE

pub updated_values : (flags : List ℕ) (old new there : List Field) → IsOldRecord flags old → IsNewRecord flags old new
    → IsRowRecord flags there
    → values_of (record_or new there) ≡ updated new (values_of there)
updated_values [] [] [] [] o n t = refl
updated_values [] [] [] (there ∷ theres) o n t = elim t [ ]
updated_values [] [] (new ∷ news) theres o n t = elim n [ ]
updated_values [] (old ∷ olds) news theres o n t = elim o [ ]
updated_values (flag ∷ flags) [] news theres o n t = elim o [ ]
updated_values (flag ∷ flags) (old ∷ olds) [] theres o n t = elim n [ ]
updated_values (flag ∷ flags) (old ∷ olds) (new ∷ news) [] o n t = elim t [ ]
updated_values (flag ∷ flags) (old ∷ olds) (new ∷ news) (Undefined ∷ theres) o n t = absurd
    (no_undefined (eqb flag 0) (t.0, t.1))
updated_values (flag ∷ flags) (old ∷ olds) (Undefined ∷ news) (Is there ∷ theres) o n t =
    ap (λ (r : Row). there ∷ r) (updated_values flags olds news theres o.2 n.2 t.2)
updated_values (flag ∷ flags) (old ∷ olds) (Is new ∷ news) (Is there ∷ theres) o n t =
    ap (λ (r : Row). new ∷ r) (updated_values flags olds news theres o.2 n.2 t.2)

-- ---- UPDATE, then DELETE

deleted_at : (outside : Bool) (old new other : Field) (value : Value) (rest others : List Field) (more : Bool)
    → ObeysRule (new_at outside old) new → cond outside (agrees old value && more) more ≡ true
    → agrees other (updated_field new value) ≡ true
    → key_at outside old rest ≡ key_at outside other others → agrees (field_or old other) value ≡ true
deleted_at outside Undefined Undefined other value rest others more n a b k = b
deleted_at true Undefined (Is new) other value rest others more n a b k = absurd (false≢true n.1)
deleted_at true (Is old) new other value rest others more n a b k = (and_parts (agrees (Is old) value) more a).0
deleted_at false old (Is new) other value rest others more n a b k = absurd (false≢true n.1)
deleted_at false (Is old) Undefined other value rest others more n a b k =
    ap (λ (f : Field). agrees f value) (key_heads (Is old) other rest others k).0 ∙ b

pub deleted_agrees : (flags : List ℕ) (before after other : List Field) (row : Row) → IsOldRecord flags before
    → IsNewRecord flags before after
    → IsRowRecord flags other → IsLong flags row → rest_agrees flags before row ≡ true
    → all_agree other (updated after row)
    ≡ true
    → key_fields flags before ≡ key_fields flags other → all_agree (record_or before other) row ≡ true
deleted_agrees [] [] after other row o n p l a b k = refl
deleted_agrees [] (old ∷ before) after other row o n p l a b k = elim o [ ]
deleted_agrees (flag ∷ flags) [] after other row o n p l a b k = elim o [ ]
deleted_agrees (flag ∷ flags) (old ∷ before) [] other row o n p l a b k = elim n [ ]
deleted_agrees (flag ∷ flags) (old ∷ before) (new ∷ after) [] row o n p l a b k = elim p [ ]
deleted_agrees (flag ∷ flags) (old ∷ before) (new ∷ after) (other ∷ others) [] o n p l a b k = absurd cc
deleted_agrees (flag ∷ flags) (old ∷ before) (new ∷ after) (other ∷ others) (value ∷ row) o n p l a b k =
    let agree = and_parts (agrees other (updated_field new value)) (all_agree others (updated after row)) b in
    and_from (agrees (field_or old other) value) (all_agree (record_or before others) row)
    (deleted_at (eqb flag 0) old new other value (key_fields flags before) (key_fields flags others)
    (rest_agrees flags before row) (n.0, n.1) a agree.0 k)
    (deleted_agrees flags before after others row o.2 n.2 p.2 (cc l)
    (others_agree (eqb flag 0) (agrees old value) (rest_agrees flags before row) a) agree.1
    (rest_keys (eqb flag 0) old other (key_fields flags before) (key_fields flags others) k))
