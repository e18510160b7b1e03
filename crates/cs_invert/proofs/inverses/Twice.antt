-- The inverse of the inverse of a changeset is the changeset.
use Rattle.std.proofs.Common.{◌≡◌, ℕ, Bool, true, false, cond, eqb, List, [], ◌∷◌, map, refl}
use Rattle.cs_model.specs.declared.value.Field.{Field}
use Rattle.cs_model.specs.declared.change.Op.{Op}
use Rattle.cs_model.specs.declared.change.Op.TheVariants.{Insert, Update, Delete}
use Rattle.cs_model.specs.declared.change.Change.{Change}
use Rattle.cs_model.specs.Changeset.{AreRecords, IsChangeset}
use Rattle.cs_model.specs.PackedChanges.{change_of}
use Rattle.cs_model.specs.Section.{Section}
use Rattle.cs_group.proofs.one_row.Merging.{IsValidChange}
use Rattle.cs_group.proofs.one_row.Through.{AreValidChanges}
use Rattle.cs_group.proofs.one_row.Valid.{IsOldRecord, IsNewRecord}
use Rattle.cs_invert.specs.Inverse.{inverse, inverse_by, inverse_change, inverse_new, inverse_old}

-- ---- the columns of an UPDATE

first_again : (outside : Bool) (one other : Field) → cond outside (cond outside one other) (cond outside other one)
    ≡ one
first_again true one other = refl
first_again false one other = refl

olds_again : (flags : List ℕ) (before after : List Field) → IsOldRecord flags before → IsNewRecord flags before after
    → inverse_old flags (inverse_old flags before after) (inverse_new flags before after) ≡ before
olds_again [] [] after o n = refl
olds_again [] (old ∷ before) after o n = elim o [ ]
olds_again (flag ∷ flags) [] after o n = elim o [ ]
olds_again (flag ∷ flags) (old ∷ before) [] o n = elim n [ ]
olds_again (flag ∷ flags) (old ∷ before) (new ∷ after) o n = λ i.
    first_again (eqb flag 0) old new i ∷ olds_again flags before after o.2 n.2 i

news_again : (flags : List ℕ) (before after : List Field) → IsOldRecord flags before → IsNewRecord flags before after
    → inverse_new flags (inverse_old flags before after) (inverse_new flags before after) ≡ after
news_again [] [] [] o n = refl
news_again [] [] (new ∷ after) o n = elim n [ ]
news_again [] (old ∷ before) after o n = elim o [ ]
news_again (flag ∷ flags) [] after o n = elim o [ ]
news_again (flag ∷ flags) (old ∷ before) [] o n = elim n [ ]
news_again (flag ∷ flags) (old ∷ before) (new ∷ after) o n = λ i.
    first_again (eqb flag 0) new old i ∷ news_again flags before after o.2 n.2 i

-- ---- changes and sections

by_again : (op : Op) (flags : List ℕ) (indirect : Bool) (before after : List Field) → AreRecords flags op before after
    → inverse_change flags (inverse_by op flags (change_of op indirect before after))
    ≡ change_of op indirect before after
by_again Insert flags indirect before after r = refl
by_again Update flags indirect before after r = λ i. change_of Update indirect (olds_again flags before after r.0 r.1 i)
    (news_again flags before after r.0 r.1 i)
by_again Delete flags indirect before after r = refl

change_twice : (flags : List ℕ) (change : Change) → IsValidChange flags change
    → inverse_change flags (inverse_change flags change) ≡ change
change_twice flags change r = by_again change.op flags change.indirect change.before change.after r

changes_twice : (flags : List ℕ) (changes : List Change) → AreValidChanges flags changes
    → map (inverse_change flags) (map (inverse_change flags) changes) ≡ changes
changes_twice flags [] is = refl
changes_twice flags (change ∷ changes) is = λ i. change_twice flags change is.0 i ∷ changes_twice flags changes is.1 i

pub inverse_again : (sections : List Section) → IsChangeset sections → inverse (inverse sections) ≡ sections
inverse_again [] is = refl
inverse_again (section ∷ sections) is = λ i.
    record { shape = section.shape; changes = changes_twice section.shape.flags section.changes is.0.1 i }
    ∷ inverse_again sections is.1 i
