-- The inverse of a changeset is a changeset, of the same rows. Each lemma is of one column first, whose flag is
-- tested once (`outside`: not a key column), and then of all columns.
use Rattle.std.proofs.Common.{◌≡◌, ℕ, Bool, true, false, cond, eqb, List, [], ◌∷◌, map, refl, ap}
use Rattle.std.specs.List.{flat_map}
use Rattle.cs_model.specs.declared.value.Field.{Field}
use Rattle.cs_model.specs.declared.value.Field.TheVariants.{Undefined, Is}
use Rattle.cs_model.specs.declared.change.Op.{Op}
use Rattle.cs_model.specs.declared.change.Op.TheVariants.{Insert, Update, Delete}
use Rattle.cs_model.specs.declared.change.Change.{Change}
use Rattle.cs_model.specs.Changeset.{AreRecords, IsChangeset}
use Rattle.cs_model.specs.FieldBytes.{field_bytes}
use Rattle.cs_model.specs.KeyBytes.{key_fields, key_record}
use Rattle.cs_model.specs.PackedChanges.{change_of}
use Rattle.cs_model.specs.Section.{Section}
use Rattle.cs_group.proofs.one_row.Merging.{IsValidChange, key_in}
use Rattle.cs_group.proofs.one_row.Through.{AreValidChanges}
use Rattle.cs_group.proofs.one_row.Valid.{IsOldRecord, IsNewRecord, ObeysRule, old_at, new_at, key_at}
use Rattle.cs_group.proofs.one_row.Valid.{by_columns, news_by_column}
use Rattle.cs_group.specs.Group.{changed_row}
use Rattle.cs_invert.specs.Inverse.{inverse, inverse_by, inverse_change, inverse_new, inverse_old}

-- ---- the old record

inverse_old_column : (outside : Bool) (old new : Field) → ObeysRule (old_at outside) old
    → ObeysRule (new_at outside old) new → ObeysRule (old_at outside) (cond outside new old)
inverse_old_column true old new o n = (n.0, refl)
inverse_old_column false old new o n = o

olds_fit : (flags : List ℕ) (before after : List Field) → IsOldRecord flags before → IsNewRecord flags before after
    → IsOldRecord flags (inverse_old flags before after)
olds_fit = by_columns old_at news_by_column (λ fs olds news. IsOldRecord fs (inverse_old fs olds news)) tt
    (λ flag fs old new olds news o n rest.
    let column = inverse_old_column (eqb flag 0) old new o n in (column.0, column.1, rest))

-- ---- the new record

inverse_new_column : (outside : Bool) (old new : Field) → ObeysRule (old_at outside) old
    → ObeysRule (new_at outside old) new → ObeysRule (new_at outside (cond outside new old)) (cond outside old new)
inverse_new_column true Undefined Undefined o n = (o.0, refl)
inverse_new_column true Undefined (Is new) o n = absurd (cc n.1)
inverse_new_column true (Is old) Undefined o n = absurd (cc n.1)
inverse_new_column true (Is old) (Is new) o n = (o.0, refl)
inverse_new_column false old new o n = n

news_fit : (flags : List ℕ) (before after : List Field) → IsOldRecord flags before → IsNewRecord flags before after
    → IsNewRecord flags (inverse_old flags before after) (inverse_new flags before after)
news_fit =
    by_columns old_at news_by_column
    (λ fs olds news. IsNewRecord fs (inverse_old fs olds news) (inverse_new fs olds news)) tt
    (λ flag fs old new olds news o n rest.
    let column = inverse_new_column (eqb flag 0) old new o n in (column.0, column.1, rest))

-- ---- the key

inverse_key_column : (outside : Bool) (old new : Field) (rest others : List Field) → rest ≡ others
    → key_at outside (cond outside new old) rest ≡ key_at outside old others
inverse_key_column true old new rest others is = is
inverse_key_column false old new rest others is = ap (λ (fs : List Field). old ∷ fs) is

inverse_key : (flags : List ℕ) (before after : List Field) → IsOldRecord flags before → IsNewRecord flags before after
    → key_fields flags (inverse_old flags before after) ≡ key_fields flags before
inverse_key = by_columns old_at news_by_column
    (λ fs olds news. key_fields fs (inverse_old fs olds news) ≡ key_fields fs olds) refl
    (λ flag fs old new olds news o n.
    inverse_key_column (eqb flag 0) old new (key_fields fs (inverse_old fs olds news)) (key_fields fs olds))

-- ---- one change

by_fits : (op : Op) (flags : List ℕ) (indirect : Bool) (before after : List Field) → AreRecords flags op before after
    → IsValidChange flags (inverse_by op flags (change_of op indirect before after))
by_fits Insert flags indirect before after r = (r.1, r.0)
by_fits Update flags indirect before after r =
    (olds_fit flags before after r.0 r.1, news_fit flags before after r.0 r.1)
by_fits Delete flags indirect before after r = (r.1, r.0)

pub inverse_fits : (flags : List ℕ) (change : Change) → IsValidChange flags change
    → IsValidChange flags (inverse_change flags change)
inverse_fits flags change r = by_fits change.op flags change.indirect change.before change.after r

by_key : (op : Op) (flags : List ℕ) (indirect : Bool) (before after : List Field) → AreRecords flags op before after
    → key_in flags (inverse_by op flags (change_of op indirect before after))
    ≡ key_fields flags (key_record op before after)
by_key Insert flags indirect before after r = refl
by_key Update flags indirect before after r = inverse_key flags before after r.0 r.1
by_key Delete flags indirect before after r = refl

-- it is of the same row
pub inverse_row : (flags : List ℕ) (change : Change) → IsValidChange flags change
    → changed_row flags (inverse_change flags change) ≡ changed_row flags change
inverse_row flags change r = ap (λ (fs : List Field). flat_map field_bytes fs)
    (by_key change.op flags change.indirect change.before change.after r)

-- ---- changesets

pub inverses_fit : (flags : List ℕ) (changes : List Change) → AreValidChanges flags changes
    → AreValidChanges flags (map (inverse_change flags) changes)
inverses_fit flags [] is = tt
inverses_fit flags (change ∷ changes) is = (inverse_fits flags change is.0, inverses_fit flags changes is.1)

pub inverse_is_changeset : (sections : List Section) → IsChangeset sections → IsChangeset (inverse sections)
inverse_is_changeset [] is = tt
inverse_is_changeset (section ∷ sections) is =
    ((is.0.0, inverses_fit section.shape.flags section.changes is.0.1), inverse_is_changeset sections is.1)
