-- An UPDATE between two records is an UPDATE of the same row.
use Rattle.std.proofs.Common.{◌≡◌, ℕ, Bool, true, false, cond, eqb, List, [], ◌∷◌, refl, ap}
use Rattle.std.proofs.lemmas.Bool.{false≢true}
use Rattle.std.specs.Prelude.{not, ◌&&◌}
use Rattle.cs_model.specs.declared.value.Field.{Field}
use Rattle.cs_model.specs.declared.value.Field.TheVariants.{Undefined, Is}
use Rattle.cs_model.specs.Changeset.{Obeys}
use Rattle.cs_model.specs.KeyBytes.{key_fields}
use Rattle.cs_model.specs.Rule.{Rule, Open, PairedWith}
use Rattle.cs_group.specs.Merge.{field_or, record_or, equal_fields, olds_changed, news_changed}
use Rattle.cs_group.proofs.one_row.Valid.{IsRowRecord, IsOldRecord, IsNewRecord, ObeysRule, row_at, old_at, new_at}
use Rattle.cs_group.proofs.one_row.Valid.{AreByColumn, by_columns, by_flag, key_at, news_by_column}

-- Outside the key the new field is defined where the old one is; in the key it may be anything.
abbrev pair_at : Bool → Field → Rule
pair_at outside old = cond outside (PairedWith old) Open

abbrev pair_rules : List ℕ → List Field → List Rule
pair_rules [] before = []
pair_rules (flag ∷ flags) [] = []
pair_rules (flag ∷ flags) (old ∷ before) = pair_at (eqb flag 0) old ∷ pair_rules flags before

abbrev pub IsPaired : List ℕ → List Field → List Field → Type 0
IsPaired flags before after = Obeys (pair_rules flags before) after

pairs_by_column : AreByColumn pair_rules pair_at
pairs_by_column = record { none = refl; more = λ flag flags old before. refl }

abbrev pub old_left : Bool → Bool → Field → Field
old_left outside same old = cond (outside && same) Undefined old

abbrev pub new_left : Bool → Bool → Field → Field
new_left outside same new = cond (outside && not same) new Undefined

-- ---- the old record

old_left_column : (outside same : Bool) (old : Field) → ObeysRule (old_at outside) old
    → ObeysRule (old_at outside) (old_left outside same old)
old_left_column true true old o = (tt, refl)
old_left_column true false old o = o
old_left_column false same old o = o

pub olds_are_old : (flags : List ℕ) (before after : List Field) → IsOldRecord flags before → IsPaired flags before after
    → IsOldRecord flags (olds_changed flags before after)
olds_are_old = by_columns old_at pairs_by_column (λ fs olds news. IsOldRecord fs (olds_changed fs olds news)) tt
    (λ flag fs old new olds news o n rest.
    let column = old_left_column (eqb flag 0) (equal_fields old new) old o in (column.0, column.1, rest))

-- ---- the new record

new_left_column : (outside same : Bool) (old new : Field) → ObeysRule (pair_at outside old) new
    → ObeysRule (new_at outside (old_left outside same old)) (new_left outside same new)
new_left_column true true old new n = (tt, refl)
new_left_column true false old new n = n
new_left_column false same old new n = (tt, refl)

pub news_are_new : (flags : List ℕ) (before after : List Field) → IsOldRecord flags before → IsPaired flags before after
    → IsNewRecord flags (olds_changed flags before after) (news_changed flags before after)
news_are_new =
    by_columns old_at pairs_by_column
    (λ fs olds news. IsNewRecord fs (olds_changed fs olds news) (news_changed fs olds news)) tt
    (λ flag fs old new olds news o n rest.
    let column = new_left_column (eqb flag 0) (equal_fields old new) old new n in (column.0, column.1, rest))

-- ---- the key

key_column : (outside same : Bool) (old : Field) (rest others : List Field) → rest ≡ others
    → key_at outside (old_left outside same old) rest ≡ key_at outside old others
key_column true same old rest others is = is
key_column false same old rest others is = ap (λ (fs : List Field). old ∷ fs) is

pub olds_key : (flags : List ℕ) (before after : List Field) → IsOldRecord flags before → IsPaired flags before after
    → key_fields flags (olds_changed flags before after) ≡ key_fields flags before
olds_key = by_columns old_at pairs_by_column
    (λ fs olds news. key_fields fs (olds_changed fs olds news) ≡ key_fields fs olds) refl
    (λ flag fs old new olds news o n.
    key_column (eqb flag 0) (equal_fields old new) old (key_fields fs (olds_changed fs olds news)) (key_fields fs olds))

-- ---- which records pair

-- those of an UPDATE
update_column : (outside : Bool) (old new : Field) → ObeysRule (new_at outside old) new
    → ObeysRule (pair_at outside old) new
update_column true old new n = n
update_column false old new n = (n.0, refl)

pub update_pairs : (flags : List ℕ) (before after : List Field) → IsOldRecord flags before
    → IsNewRecord flags before after
    → IsPaired flags before after
update_pairs = by_columns old_at news_by_column IsPaired tt
    (λ flag fs old new olds news o n rest.
    let column = update_column (eqb flag 0) old new n in (column.0, column.1, rest))

-- those of two rows
rows_column : (outside : Bool) (old new : Field) → ObeysRule (row_at outside) old → ObeysRule (row_at outside) new
    → ObeysRule (pair_at outside old) new
rows_column true Undefined new o n = absurd (cc o.1)
rows_column true (Is value) new o n = n
rows_column false old new o n = (n.0, refl)

pub rows_pair : (flags : List ℕ) (before after : List Field) → IsRowRecord flags before → IsRowRecord flags after
    → IsPaired flags before after
rows_pair = by_columns row_at (by_flag row_at) IsPaired tt
    (λ flag fs old new olds news o n rest.
    let column = rows_column (eqb flag 0) old new o n in (column.0, column.1, rest))

-- those of two UPDATEs, the first old values and the last new ones
updates_column : (outside : Bool) (old new later newer : Field) → ObeysRule (new_at outside old) new
    → ObeysRule (new_at outside later) newer
    → ObeysRule (pair_at outside (field_or old later)) (field_or newer new)
updates_column true Undefined (Is value) later newer n m = absurd (false≢true n.1)
updates_column true Undefined Undefined (Is old) Undefined n m = absurd (false≢true m.1)
updates_column true Undefined Undefined Undefined Undefined n m = n
updates_column true Undefined Undefined (Is old) (Is value) n m = m
updates_column true Undefined Undefined Undefined (Is value) n m = m
updates_column true (Is old) new later Undefined n m = n
updates_column true (Is old) new later (Is value) n m = (m.0, refl)
updates_column false old new later Undefined n m = (n.0, refl)
updates_column false old new later (Is value) n m = (m.0, refl)

pub updates_pair : (flags : List ℕ) (before after later newer : List Field) → IsOldRecord flags before
    → IsNewRecord flags before after
    → IsOldRecord flags later → IsNewRecord flags later newer
    → IsPaired flags (record_or before later) (record_or newer after)
updates_pair [] [] [] [] [] o n p m = tt
updates_pair [] [] [] [] (newer ∷ newers) o n p m = elim m [ ]
updates_pair [] [] [] (later ∷ laters) newers o n p m = elim p [ ]
updates_pair [] [] (new ∷ after) laters newers o n p m = elim n [ ]
updates_pair [] (old ∷ before) after laters newers o n p m = elim o [ ]
updates_pair (flag ∷ flags) [] after laters newers o n p m = elim o [ ]
updates_pair (flag ∷ flags) (old ∷ before) [] laters newers o n p m = elim n [ ]
updates_pair (flag ∷ flags) (old ∷ before) (new ∷ after) [] newers o n p m = elim p [ ]
updates_pair (flag ∷ flags) (old ∷ before) (new ∷ after) (later ∷ laters) [] o n p m = elim m [ ]
updates_pair (flag ∷ flags) (old ∷ before) (new ∷ after) (later ∷ laters) (newer ∷ newers) o n p m =
    let column = updates_column (eqb flag 0) old new later newer (n.0, n.1) (m.0, m.1) in
    (column.0, column.1, updates_pair flags before after laters newers o.2 n.2 p.2 m.2)
