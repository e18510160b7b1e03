-- Sections that agree on shapes: none clashes with another, and a schema admits only such.
use Rattle.std.proofs.Common.{◌≡◌, ◌∙◌, ℕ, zero, suc, Bool, true, false, cond, not, ◌||◌, List, [], ◌∷◌, ◌++◌, Some}
use Rattle.std.proofs.Common.{None, length, refl, sym, ap, subst}
use Rattle.std.proofs.lemmas.List.{append_assoc}
use Rattle.std.proofs.lemmas.Option.{none-some}
use Rattle.std.specs.Cmp.Lexicographic.{same_text}
use Rattle.std.specs.List.{AllByRecursion}
use Rattle.std.specs.Prelude.{◌&&◌, option_map, slice_get}
use Rattle.cs_model.specs.Changeset.{AgreeOnShapes}
use Rattle.cs_model.specs.declared.shape.Shape.{Shape}
use Rattle.cs_model.specs.Schema.{IsSchema, refusal_of, same_bytes, same_shape}
use Rattle.cs_model.specs.Section.{Section}
use Rattle.cs_group.specs.Group.{clashes, differs_from, first_clash}
use Rattle.cs_group.proofs.all_tables.Tables.{same_itself}
use Rattle.cs_group.proofs.schemas.Admitting.{HasItsTable, all_have_tables, one_of_name}

-- ---- places of a list

pub all_from_places : (P : Section → Type 0) (sections : List Section)
    → ((i : ℕ) (section : Section) → slice_get sections i ≡ Some section → P section) → AllByRecursion P sections
all_from_places P [] each = tt
all_from_places P (section ∷ rest) each = (each 0 section refl, all_from_places P rest (λ i. each (suc i)))

pub holds_at : (P : Section → Type 0) (sections : List Section) (i : ℕ) (section : Section)
    → AllByRecursion P sections → slice_get sections i ≡ Some section → P section
holds_at P [] i section all found = absurd (none-some section found)
holds_at P (first ∷ rest) zero section all found = let same : first ≡ section = cc in subst P same all.0
holds_at P (first ∷ rest) (suc i) section all found = holds_at P rest i section all.1 found

front_get : (front rest : List Section) (i : ℕ) (section : Section) → slice_get front i ≡ Some section
    → slice_get (front ++ rest) i ≡ Some section
front_get [] rest i section found = absurd (none-some section found)
front_get (first ∷ front) rest zero section found = found
front_get (first ∷ front) rest (suc i) section found = front_get front rest i section found

seam_get : (front rest : List Section) (section : Section)
    → slice_get (front ++ section ∷ rest) (length front) ≡ Some section
seam_get [] rest section = refl
seam_get (first ∷ front) rest section = seam_get front rest section

-- ---- none clashes

-- an earlier section of the section's name has its shape
abbrev SameOfName : Section → Section → Type 0
SameOfName section earlier = earlier.shape.name ≡ section.shape.name → earlier.shape ≡ section.shape

none_differs : (section earlier : Section) → SameOfName section earlier → differs_from section earlier ≡ false
none_differs section earlier same = by (same_bytes earlier.shape.name section.shape.name) refl
  where
    by : (b : Bool) → same_bytes earlier.shape.name section.shape.name ≡ b
        → (b && not (same_shape earlier.shape section.shape)) ≡ false
    by false is = refl
    by true is = ap (λ s. not (same_shape s section.shape))
        (same (same_text earlier.shape.name section.shape.name (sym is)))
        ∙ ap not (same_itself section.shape)

all_alike : (section : Section) (earlier : List Section) → AllByRecursion (SameOfName section) earlier
    → clashes earlier section ≡ false
all_alike section [] same = refl
all_alike section (first ∷ earlier) same =
    ap (λ b. b || clashes earlier section) (none_differs section first same.0) ∙ all_alike section earlier same.1

agreeing_from : (earlier more : List Section) → AgreeOnShapes (earlier ++ more) → first_clash earlier more ≡ None
agreeing_from earlier [] agree = refl
agreeing_from earlier (section ∷ more) agree =
    ap (λ b. cond b (Some 0) (option_map suc (first_clash (earlier ++ section ∷ []) more)))
    (all_alike section earlier (all_from_places (SameOfName section) earlier (λ i first found.
    agree i (length earlier) first section (front_get earlier (section ∷ more) i first found)
    (seam_get earlier more section))))
    ∙ ap (option_map suc) (agreeing_from (earlier ++ section ∷ []) more
    (subst AgreeOnShapes (sym (append_assoc earlier (section ∷ []) more)) agree))

pub agreeing_apart : (sections : List Section) → AgreeOnShapes sections → first_clash [] sections ≡ None
agreeing_apart sections agree = agreeing_from [] sections agree

-- ---- what a schema admits

pub admitted_agreeing : (tables : List Shape) (sections : List Section) → IsSchema tables
    → refusal_of tables sections ≡ None → AgreeOnShapes sections
admitted_agreeing tables sections valid admitted i j one other at_one at_other same =
    let all = all_have_tables tables sections admitted in
    one_of_name [] tables one.shape other.shape valid (holds_at (HasItsTable tables) sections i one all at_one)
    (holds_at (HasItsTable tables) sections j other all at_other) same
