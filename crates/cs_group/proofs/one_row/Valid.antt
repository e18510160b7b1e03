-- What changes of a row come to is a change of that row. Each lemma is of one column first, whose flag is tested
-- once (`outside`: not a key column), and then of all columns.
use Rattle.std.proofs.Common.{◌≡◌, ℕ, Bool, true, false, cond, eqb, List, [], ◌∷◌, map, refl, ap, subst}
use Rattle.std.proofs.lemmas.Bool.{false≢true}
use Rattle.cs_model.specs.declared.value.Field.{Field}
use Rattle.cs_model.specs.declared.value.Field.TheVariants.{Undefined, Is}
use Rattle.cs_model.specs.Changeset.{Obeys, IsField}
use Rattle.cs_model.specs.KeyBytes.{key_fields}
use Rattle.cs_model.specs.Rule.{Rule, Key, Given, Open, Blank, PairedWith, meets, row_rule, old_rule, new_rules}
use Rattle.cs_group.specs.Merge.{field_or, record_or}

-- the record of a row, and the two records of an UPDATE
abbrev pub IsRowRecord : List ℕ → List Field → Type 0
IsRowRecord flags fields = Obeys (map row_rule flags) fields

abbrev pub IsOldRecord : List ℕ → List Field → Type 0
IsOldRecord flags before = Obeys (map old_rule flags) before

abbrev pub IsNewRecord : List ℕ → List Field → List Field → Type 0
IsNewRecord flags before after = Obeys (new_rules flags before) after

-- a field follows this rule
abbrev pub ObeysRule : Rule → Field → Type 0
ObeysRule rule field = IsField field × (meets rule field ≡ true)

abbrev pub row_at : Bool → Rule
row_at outside = cond outside Given Key

abbrev pub old_at : Bool → Rule
old_at outside = cond outside Open Key

abbrev pub new_at : Bool → Field → Rule
new_at outside old = cond outside (PairedWith old) Blank

-- the key's fields, with one more column in front
abbrev pub key_at : Bool → Field → List Field → List Field
key_at outside field rest = cond outside rest (field ∷ rest)

-- ---- two records, one column after another

-- the record follows a rule that the column's flag gives
abbrev pub ObeysFlags : (Bool → Rule) → List ℕ → List Field → Type 0
ObeysFlags at flags fields = Obeys (map (λ flag. at (eqb flag 0)) flags) fields

-- These rules of a record are one for each column, by its flag and by its field in the record before.
pub record AreByColumn (second : List ℕ → List Field → List Rule) (at : Bool → Field → Rule) : Type 0 where
  pub none : second [] [] ≡ []
  pub more : (flag : ℕ) (flags : List ℕ) (old : Field) (before : List Field)
      → second (flag ∷ flags) (old ∷ before) ≡ at (eqb flag 0) old ∷ second flags before

pub by_flag : (at : Bool → Rule)
    → AreByColumn (λ flags before. map (λ flag. at (eqb flag 0)) flags) (λ outside old. at outside)
by_flag at = record { none = refl; more = λ flag flags old before. refl }

pub news_by_column : AreByColumn new_rules new_at
news_by_column = record { none = refl; more = λ flag flags old before. refl }

-- What holds of no column, and of one column more, holds of two records that follow such rules.
pub by_columns : (first : Bool → Rule) {second : List ℕ → List Field → List Rule} {at : Bool → Field → Rule}
    → AreByColumn second at → (P : List ℕ → List Field → List Field → Type 0) → P [] [] []
    → ((flag : ℕ) (flags : List ℕ) (old new : Field) (before after : List Field) → ObeysRule (first (eqb flag 0)) old
    → ObeysRule (at (eqb flag 0) old) new → P flags before after → P (flag ∷ flags) (old ∷ before) (new ∷ after))
    → (flags : List ℕ) (before after : List Field) → ObeysFlags first flags before
    → Obeys (second flags before) after → P flags before after
by_columns first are P none more [] [] [] o n = none
by_columns first are P none more [] [] (new ∷ after) o n =
    absurd (subst (λ (rs : List Rule). Obeys rs (new ∷ after)) are.none n)
by_columns first are P none more [] (old ∷ before) after o n = absurd o
by_columns first are P none more (flag ∷ flags) [] after o n = absurd o
by_columns first are P none more (flag ∷ flags) (old ∷ before) [] o n =
    absurd (subst (λ (rs : List Rule). Obeys rs []) (are.more flag flags old before) n)
by_columns first are P none more (flag ∷ flags) (old ∷ before) (new ∷ after) o n =
    let m = subst (λ (rs : List Rule). Obeys rs (new ∷ after)) (are.more flag flags old before) n in
    more flag flags old new before after (o.0, o.1) (m.0, m.1)
    (by_columns first are P none more flags before after o.2 m.2)

-- ---- INSERT, then UPDATE

updated_column : (outside : Bool) (old new there : Field) → ObeysRule (new_at outside old) new
    → ObeysRule (row_at outside) there
    → ObeysRule (row_at outside) (field_or new there)
updated_column outside old Undefined there n t = t
updated_column true old (Is value) there n t = (n.0, refl)
updated_column false old (Is value) there n t = absurd (false≢true n.1)

pub updated_row : (flags : List ℕ) (old new there : List Field) → IsOldRecord flags old → IsNewRecord flags old new
    → IsRowRecord flags there
    → IsRowRecord flags (record_or new there)
updated_row flags old new there o n t =
    by_columns old_at news_by_column
    (λ fs olds news. (theres : List Field) → IsRowRecord fs theres → IsRowRecord fs (record_or news theres))
    (λ theres t. tt) more flags old new o n there t
  where
    more : (flag : ℕ) (flags : List ℕ) (old new : Field) (olds news : List Field) → ObeysRule (old_at (eqb flag 0)) old
        → ObeysRule (new_at (eqb flag 0) old) new
        → ((theres : List Field) → IsRowRecord flags theres → IsRowRecord flags (record_or news theres))
        → (theres : List Field) → IsRowRecord (flag ∷ flags) theres
        → IsRowRecord (flag ∷ flags) (record_or (new ∷ news) theres)
    more flag flags old new olds news o n rest [] t = absurd t
    more flag flags old new olds news o n rest (there ∷ theres) t =
        let column = updated_column (eqb flag 0) old new there n (t.0, t.1) in
        (column.0, column.1, rest theres t.2)

updated_key_column : (outside : Bool) (old new there : Field) (rest others : List Field)
    → ObeysRule (new_at outside old) new
    → rest ≡ others → key_at outside (field_or new there) rest ≡ key_at outside there others
updated_key_column true old new there rest others n same = same
updated_key_column false old Undefined there rest others n same = ap (λ (fs : List Field). there ∷ fs) same
updated_key_column false old (Is value) there rest others n same = absurd (false≢true n.1)

pub updated_key : (flags : List ℕ) (old new there : List Field) → IsOldRecord flags old → IsNewRecord flags old new
    → IsRowRecord flags there
    → key_fields flags (record_or new there) ≡ key_fields flags there
updated_key [] old new there o n t = refl
updated_key (flag ∷ flags) [] new there o n t = elim o [ ]
updated_key (flag ∷ flags) (old ∷ olds) [] there o n t = elim n [ ]
updated_key (flag ∷ flags) (old ∷ olds) (new ∷ news) [] o n t = elim t [ ]
updated_key (flag ∷ flags) (old ∷ olds) (new ∷ news) (there ∷ theres) o n t =
    updated_key_column (eqb flag 0) old new there (key_fields flags (record_or news theres)) (key_fields flags theres)
    (n.0, n.1)
    (updated_key flags olds news theres o.2 n.2 t.2)

-- ---- an old record with another's fields where its own are undefined

-- it follows the other's rules if it does so in each column
or_follows : (at : Bool → Rule)
    → ((outside : Bool) (old other : Field) → ObeysRule (old_at outside) old → ObeysRule (at outside) other
    → ObeysRule (at outside) (field_or old other))
    → (flags : List ℕ) (old other : List Field) → IsOldRecord flags old → ObeysFlags at flags other
    → ObeysFlags at flags (record_or old other)
or_follows at column =
    by_columns old_at (by_flag at) (λ fs olds others. ObeysFlags at fs (record_or olds others)) tt
    (λ flag fs old other olds others o p rest. let one = column (eqb flag 0) old other o p in (one.0, one.1, rest))

old_or_column : (outside : Bool) (old other : Field) → ObeysRule (old_at outside) old → ObeysRule (old_at outside) other
    → ObeysRule (old_at outside) (field_or old other)
old_or_column outside Undefined other o p = p
old_or_column outside (Is value) other o p = o

pub old_or : (flags : List ℕ) (old other : List Field) → IsOldRecord flags old → IsOldRecord flags other
    → IsOldRecord flags (record_or old other)
old_or = or_follows old_at old_or_column

-- its own key, since it has one
old_key_column : (outside : Bool) (old other : Field) (rest others : List Field) → ObeysRule (old_at outside) old → rest
    ≡ others
    → key_at outside (field_or old other) rest ≡ key_at outside old others
old_key_column true old other rest others o same = same
old_key_column false Undefined other rest others o same = absurd (false≢true o.1)
old_key_column false (Is value) other rest others o same = ap (λ (fs : List Field). Is value ∷ fs) same

pub old_or_key : (flags : List ℕ) (old other : List Field) → IsOldRecord flags old → IsOldRecord flags other
    → key_fields flags (record_or old other) ≡ key_fields flags old
old_or_key = by_columns old_at (by_flag old_at)
    (λ fs olds others. key_fields fs (record_or olds others) ≡ key_fields fs olds) refl
    (λ flag fs old other olds others o p.
    old_key_column (eqb flag 0) old other (key_fields fs (record_or olds others)) (key_fields fs olds) o)

-- a row's record is an old record
row_is_old_column : (outside : Bool) (field : Field) → ObeysRule (row_at outside) field
    → ObeysRule (old_at outside) field
row_is_old_column true field f = (f.0, refl)
row_is_old_column false field f = f

pub row_is_old : (flags : List ℕ) (fields : List Field) → IsRowRecord flags fields → IsOldRecord flags fields
row_is_old [] [] f = tt
row_is_old [] (field ∷ fields) f = elim f [ ]
row_is_old (flag ∷ flags) [] f = elim f [ ]
row_is_old (flag ∷ flags) (field ∷ fields) f =
    let column = row_is_old_column (eqb flag 0) field (f.0, f.1) in (column.0, column.1, row_is_old flags fields f.2)

-- ---- UPDATE, then DELETE

deleted_column : (outside : Bool) (old other : Field) → ObeysRule (old_at outside) old
    → ObeysRule (row_at outside) other
    → ObeysRule (row_at outside) (field_or old other)
deleted_column outside Undefined other o p = p
deleted_column true (Is value) other o p = (o.0, refl)
deleted_column false (Is value) other o p = o

pub deleted_row : (flags : List ℕ) (old other : List Field) → IsOldRecord flags old → IsRowRecord flags other
    → IsRowRecord flags (record_or old other)
deleted_row = or_follows row_at deleted_column
