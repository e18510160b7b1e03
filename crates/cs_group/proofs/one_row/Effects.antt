-- The effect on one row: what changes come to has the effect that they have one after another.
use Rattle.std.proofs.Common.{◌≡◌, ◌∙◌, ℕ, suc, Bool, true, false, cond, eqb, List, [], ◌∷◌, length, Option}
use Rattle.std.proofs.Common.{Some, None, refl, ap, sym}
use Rattle.std.proofs.lemmas.Bool.{and_from, false≢true}
use Rattle.std.specs.Prelude.{◌&&◌}
use Rattle.std.specs.List.{list_any}
use Rattle.cs_model.specs.declared.value.Value.{Value}
use Rattle.cs_model.specs.declared.value.Field.{Field}
use Rattle.cs_model.specs.declared.value.Field.TheVariants.{Undefined, Is}
use Rattle.cs_model.specs.declared.change.Op.{Op}
use Rattle.cs_model.specs.declared.change.Op.TheVariants.{Insert, Update, Delete}
use Rattle.cs_model.specs.declared.change.Change.{Change}
use Rattle.cs_model.specs.PackedChanges.{change_of}
use Rattle.cs_model.specs.Row.{values_of}
use Rattle.cs_model.specs.Rule.{is_defined}
use Rattle.cs_apply.specs.Effect.{agrees, all_agree, rest_agrees, updated_field, updated}
use Rattle.cs_apply.proofs.rows_by_key.Columns.{value_is}
use Rattle.cs_group.specs.Merge.{equal_fields, olds_changed, news_changed, update_between}
use Rattle.cs_group.proofs.one_row.Between.{old_left, new_left}

abbrev pub Row : Type 0
Row = List Value

-- ---- the effect of a change on a row or on none; none if it conflicts

abbrev pub on_row : Op → List ℕ → List Field → List Field → Option Row → Option (Option Row)
on_row Insert flags before after None = Some (Some (values_of after))
on_row Insert flags before after (Some row) = None
on_row Update flags before after None = None
on_row Update flags before after (Some row) = cond (rest_agrees flags before row) (Some (Some (updated after row))) None
on_row Delete flags before after None = None
on_row Delete flags before after (Some row) = cond (all_agree before row) (Some None) None

abbrev pub on_change : List ℕ → Change → Option Row → Option (Option Row)
on_change flags change row = on_row change.op flags change.before change.after row

-- the effect of a change, or of none
abbrev pub on_option : List ℕ → Option Change → Option Row → Option (Option Row)
on_option flags None row = Some row
on_option flags (Some change) row = on_change flags change row

-- ---- an UPDATE from a row to another one

abbrev pub TurnsAt : Bool → Field → Field → Value → Value → Type 0
TurnsAt true old new value target = (agrees old value ≡ true) × (updated_field new value ≡ target)
TurnsAt false old new value target = value ≡ target

-- the two records say how this row becomes that one
abbrev pub Turns : List ℕ → List Field → List Field → Row → Row → Type 0
Turns [] [] [] [] [] = Unit {0}
Turns [] [] [] [] (target ∷ targets) = ⊥
Turns [] [] [] (value ∷ row) targets = ⊥
Turns [] [] (new ∷ after) row targets = ⊥
Turns [] (old ∷ before) after row targets = ⊥
Turns (flag ∷ flags) [] after row targets = ⊥
Turns (flag ∷ flags) (old ∷ before) [] row targets = ⊥
Turns (flag ∷ flags) (old ∷ before) (new ∷ after) [] targets = ⊥
Turns (flag ∷ flags) (old ∷ before) (new ∷ after) (value ∷ row) [] = ⊥
Turns (flag ∷ flags) (old ∷ before) (new ∷ after) (value ∷ row) (target ∷ targets) =
    TurnsAt (eqb flag 0) old new value target × Turns flags before after row targets

-- What holds of no column, and of one column more, holds of records that turn one row into another.
by_turns : (P : List ℕ → List Field → List Field → Row → Row → Type 0) → P [] [] [] [] []
    → ((flag : ℕ) (flags : List ℕ) (old new : Field) (before after : List Field) (value target : Value)
    (row targets : Row) → TurnsAt (eqb flag 0) old new value target → P flags before after row targets
    → P (flag ∷ flags) (old ∷ before) (new ∷ after) (value ∷ row) (target ∷ targets))
    → (flags : List ℕ) (before after : List Field) (row targets : Row) → Turns flags before after row targets
    → P flags before after row targets
by_turns P none more [] [] [] [] [] t = none
by_turns P none more [] [] [] [] (target ∷ targets) t = elim t [ ]
by_turns P none more [] [] [] (value ∷ row) targets t = elim t [ ]
by_turns P none more [] [] (new ∷ after) row targets t = elim t [ ]
by_turns P none more [] (old ∷ before) after row targets t = elim t [ ]
by_turns P none more (flag ∷ flags) [] after row targets t = elim t [ ]
by_turns P none more (flag ∷ flags) (old ∷ before) [] row targets t = elim t [ ]
by_turns P none more (flag ∷ flags) (old ∷ before) (new ∷ after) [] targets t = elim t [ ]
by_turns P none more (flag ∷ flags) (old ∷ before) (new ∷ after) (value ∷ row) [] t = elim t [ ]
by_turns P none more (flag ∷ flags) (old ∷ before) (new ∷ after) (value ∷ row) (target ∷ targets) t =
    more flag flags old new before after value target row targets t.0
    (by_turns P none more flags before after row targets t.1)

-- the columns that it changes agree with the row
agrees_column : (outside same : Bool) (old new : Field) (value target : Value) (rest : Bool)
    → TurnsAt outside old new value target
    → rest ≡ true → cond outside (agrees (old_left outside same old) value && rest) rest ≡ true
agrees_column true true old new value target rest t r = r
agrees_column true false old new value target rest t r = and_from (agrees old value) rest t.0 r
agrees_column false same old new value target rest t r = r

pub turned_agrees : (flags : List ℕ) (before after : List Field) (row targets : Row)
    → Turns flags before after row targets
    → rest_agrees flags (olds_changed flags before after) row ≡ true
turned_agrees [] before after row targets t = refl
turned_agrees (flag ∷ flags) [] after row targets t = refl
turned_agrees (flag ∷ flags) (old ∷ before) [] row targets t = refl
turned_agrees (flag ∷ flags) (old ∷ before) (new ∷ after) [] targets t = elim t [ ]
turned_agrees (flag ∷ flags) (old ∷ before) (new ∷ after) (value ∷ row) [] t = elim t [ ]
turned_agrees (flag ∷ flags) (old ∷ before) (new ∷ after) (value ∷ row) (target ∷ targets) t =
    agrees_column (eqb flag 0) (equal_fields old new) old new value target
    (rest_agrees flags (olds_changed flags before after) row) t.0 (turned_agrees flags before after row targets t.1)

-- a column that it doesn't change has that value already
same_column : (old new : Field) (value target : Value) → equal_fields old new ≡ true → agrees old value ≡ true
    → updated_field new value ≡ target → value ≡ target
same_column Undefined Undefined value target s a u = u
same_column Undefined (Is new) value target s a u = absurd (false≢true s)
same_column (Is old) Undefined value target s a u = u
same_column (Is old) (Is new) value target s a u = sym (value_is old value a) ∙ value_is old new s ∙ u

turned_column : (outside same : Bool) (old new : Field) (value target : Value) → equal_fields old new ≡ same
    → TurnsAt outside old new value target → updated_field (new_left outside same new) value ≡ target
turned_column true true old new value target s t = same_column old new value target s t.0 t.1
turned_column true false old new value target s t = t.1
turned_column false same old new value target s t = t

pub turned_row : (flags : List ℕ) (before after : List Field) (row targets : Row) → Turns flags before after row targets
    → updated (news_changed flags before after) row ≡ targets
turned_row = by_turns (λ fs olds news row targets. updated (news_changed fs olds news) row ≡ targets) refl
    (λ flag fs old new olds news value target row targets t rest i.
    turned_column (eqb flag 0) (equal_fields old new) old new value target refl t i ∷ rest i)

-- a record that says nothing changes nothing
pub quiet_row : (fields : List Field) (row : Row) → length fields ≡ length row → list_any is_defined fields ≡ false
    → updated fields row ≡ row
quiet_row [] row long d = refl
quiet_row (field ∷ fields) [] long d = absurd cc
quiet_row (Is new ∷ fields) (value ∷ row) long d = absurd (false≢true (sym d))
quiet_row (Undefined ∷ fields) (value ∷ row) long d =
    ap (λ (r : Row). value ∷ r) (quiet_row fields row (cc long) d)

-- ---- an UPDATE between two records

turned_long : (flags : List ℕ) (before after : List Field) (row targets : Row) → Turns flags before after row targets
    → length (news_changed flags before after) ≡ length row
turned_long = by_turns (λ fs olds news row targets. length (news_changed fs olds news) ≡ length row) refl
    (λ flag fs old new olds news value target row targets t rest. ap suc rest)

if_some : (flags : List ℕ) (indirect some : Bool) (before after : List Field) (row targets : Row)
    → Turns flags before after row targets → list_any is_defined (news_changed flags before after) ≡ some
    → on_option flags (cond some (Some (change_of Update indirect (olds_changed flags before after)
    (news_changed flags before after))) None) (Some row) ≡ Some (Some targets)
if_some flags indirect true before after row targets t d =
    ap (λ b. cond b (Some (Some (updated (news_changed flags before after) row))) None)
    (turned_agrees flags before after row targets t)
    ∙ ap (λ (r : Row). Some (Some r)) (turned_row flags before after row targets t)
if_some flags indirect false before after row targets t d =
    ap (λ (r : Row). Some (Some r)) (sym (quiet_row (news_changed flags before after) row
    (turned_long flags before after row targets t) d)
    ∙ turned_row flags before after row targets t)

-- it turns the row into that one, also where it is nothing
pub between_turns : (flags : List ℕ) (indirect : Bool) (before after : List Field) (row targets : Row)
    → Turns flags before after row targets
    → on_option flags (update_between flags indirect before after) (Some row) ≡ Some (Some targets)
between_turns flags indirect before after row targets t =
    if_some flags indirect (list_any is_defined (news_changed flags before after)) before after row targets t refl
