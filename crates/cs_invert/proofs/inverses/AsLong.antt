-- An inverse's bytes are as many as its changeset's.
use Rattle.std.proofs.Common.{◌≡◌, ◌∙◌, ℕ, suc, ◌+◌, Bool, true, false, cond, eqb, List, [], ◌∷◌, ◌++◌, length, map, refl, ap}
use Rattle.std.proofs.Common.{arith}
use Rattle.std.proofs.lemmas.List.{length-append, length-map}
use Rattle.std.specs.Prelude.{nat_lt}
use Rattle.cs_model.specs.declared.shape.Shape.{Shape}
use Rattle.cs_model.proofs.packing.FitLaws.{change_fits}
use Rattle.cs_model.specs.declared.change.Change.{Change}
use Rattle.cs_model.specs.declared.change.Op.{Op}
use Rattle.cs_model.specs.declared.change.Op.TheVariants.{Insert, Update, Delete}
use Rattle.cs_model.specs.declared.value.Field.{Field}
use Rattle.cs_model.specs.Changeset.{IsChangeset}
use Rattle.cs_model.specs.FieldBytes.{field_bytes}
use Rattle.cs_model.specs.Packed.{packed}
use Rattle.cs_model.specs.PackedChanges.{Long, change_bytes, change_of, changes_bytes}
use Rattle.cs_model.specs.Section.{Section}
use Rattle.cs_model.specs.SectionText.{header_text, section_text, sections_text}
use Rattle.cs_write.proofs.forms.OwnForm.{form_owns, own_form}
use Rattle.cs_write.specs.Canon.{canon}
use Rattle.cs_write.specs.Own.{AreOwn}
use Rattle.cs_group.proofs.one_row.Merging.{IsValidChange}
use Rattle.cs_group.proofs.one_row.Through.{AreValidChanges}
use Rattle.cs_invert.specs.Inverse.{inverse, inverse_by, inverse_change, inverse_new, inverse_old}

-- the new record is the old one with the two records exchanged
pub new_is_old : (flags : List ℕ) (before after : List Field) → inverse_new flags before after
    ≡ inverse_old flags after before
new_is_old [] before after = refl
new_is_old (flag ∷ flags) [] [] = refl
new_is_old (flag ∷ flags) [] (new ∷ after) = refl
new_is_old (flag ∷ flags) (old ∷ before) [] = refl
new_is_old (flag ∷ flags) (old ∷ before) (new ∷ after) =
    ap (λ (fs : List Field). cond (eqb flag 0) old new ∷ fs) (new_is_old flags before after)

-- ---- the records of an UPDATE

column_as_long : (outside : Bool) (old new : Field)
    → length (field_bytes (cond outside new old)) + length (field_bytes (cond outside old new))
    ≡ length (field_bytes old) + length (field_bytes new)
column_as_long true old new = omega arith
column_as_long false old new = refl

records_as_long : (flags : List ℕ) (before after : List Field) → length before ≡ length flags
    → length after ≡ length flags
    → length (packed (inverse_old flags before after)) + length (packed (inverse_old flags after before))
    ≡ length (packed before) + length (packed after)
records_as_long [] [] [] b a = refl
records_as_long [] [] (new ∷ after) b a = absurd (cc a)
records_as_long [] (old ∷ before) after b a = absurd (cc b)
records_as_long (flag ∷ flags) [] after b a = absurd (cc b)
records_as_long (flag ∷ flags) (old ∷ before) [] b a = absurd (cc a)
records_as_long (flag ∷ flags) (old ∷ before) (new ∷ after) b a =
    let outside = eqb flag 0 in
    omega (
      arith,
      column_as_long outside old new,
      records_as_long flags before after (omega (arith, b)) (omega (arith, a)),
      length-append (field_bytes (cond outside new old)) (packed (inverse_old flags before after)),
      length-append (field_bytes (cond outside old new)) (packed (inverse_old flags after before)),
      length-append (field_bytes old) (packed before),
      length-append (field_bytes new) (packed after),
    )

-- ---- one change

exchanged_long : (a b : List ℕ) → length (a ++ b) ≡ length (b ++ a)
exchanged_long a b = omega (arith, length-append a b, length-append b a)

by_as_long : (op : Op) (flags : List ℕ) (indirect : Bool) (before after : List Field) → Long (length flags) op before after
    → length (change_bytes (inverse_by op flags (change_of op indirect before after)))
    ≡ length (change_bytes (change_of op indirect before after))
by_as_long Insert flags indirect before after long = ap (λ n. suc (suc n)) (exchanged_long (packed after) (packed before))
by_as_long Update flags indirect before after long =
    let old = inverse_old flags before after in
    let new = inverse_new flags before after in
    let exchanged : length (packed new) ≡ length (packed (inverse_old flags after before)) =
    ap (λ (fs : List Field). length (packed fs)) (new_is_old flags before after) in
    omega (
      arith,
      exchanged,
      records_as_long flags before after long.0 long.1,
      length-append (packed old) (packed new),
      length-append (packed before) (packed after),
    )
by_as_long Delete flags indirect before after long = ap (λ n. suc (suc n)) (exchanged_long (packed after) (packed before))

pub change_as_long : (flags : List ℕ) (change : Change) → IsValidChange flags change
    → length (change_bytes (inverse_change flags change)) ≡ length (change_bytes change)
change_as_long flags change is = by_as_long change.op flags change.indirect change.before change.after
    (change_fits (record { name = []; flags = flags }) change is).long

-- ---- changesets

pub changes_as_long : (flags : List ℕ) (changes : List Change) → AreValidChanges flags changes
    → length (changes_bytes (map (inverse_change flags) changes)) ≡ length (changes_bytes changes)
changes_as_long flags [] is = refl
changes_as_long flags (change ∷ changes) is =
    omega (
      arith,
      change_as_long flags change is.0,
      changes_as_long flags changes is.1,
      length-append (change_bytes (inverse_change flags change)) (changes_bytes (map (inverse_change flags) changes)),
      length-append (change_bytes change) (changes_bytes changes),
    )

pub sections_as_long : (sections : List Section) → IsChangeset sections
    → length (sections_text (inverse sections)) ≡ length (sections_text sections)
sections_as_long [] is = refl
sections_as_long (section ∷ sections) is =
    let inverted = map (inverse_change section.shape.flags) section.changes in
    let header = header_text section.shape in
    omega (
      arith,
      changes_as_long section.shape.flags section.changes is.0.1,
      sections_as_long sections is.1,
      length-append (header ++ changes_bytes inverted) (sections_text (inverse sections)),
      length-append header (changes_bytes inverted),
      length-append (section_text section) (sections_text sections),
      length-append header (changes_bytes section.changes),
    )

-- ---- the canonical form

own_inverse : (earlier : List Shape) (sections : List Section) → AreOwn earlier sections
    → AreOwn earlier (inverse sections)
own_inverse earlier [] own = tt
own_inverse earlier (section ∷ sections) own = (
  ap (nat_lt 0) (length-map section.changes (inverse_change section.shape.flags)) ∙ own.0,
  own.1,
  own_inverse (earlier ++ section.shape ∷ []) sections own.2,
)

-- the inverse of a canonical form is one
pub form_inverse : (sections : List Section) → canon sections ≡ sections → canon (inverse sections) ≡ inverse sections
form_inverse sections is = own_form (inverse sections) (own_inverse [] sections (form_owns sections is))
