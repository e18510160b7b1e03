-- The law of one row, for lists: what a list comes to has the effect on the row that the list has.
use Rattle.std.proofs.Common.{◌≡◌, ◌∙◌, ℕ, Bool, true, false, cond, eqb, List, [], ◌∷◌, length, Option, Some}
use Rattle.std.proofs.Common.{None, refl, ap, sym}
use Rattle.std.proofs.lemmas.Option.{none-some}
use Rattle.std.specs.List.{AllByRecursion, flat_map}
use Rattle.std.specs.Cmp.Lexicographic.{same_text}
use Rattle.cs_model.specs.declared.value.Field.{Field}
use Rattle.cs_model.specs.declared.change.Op.{Op}
use Rattle.cs_model.specs.declared.change.Op.TheVariants.{Insert, Update, Delete}
use Rattle.cs_model.specs.declared.change.Change.{Change}
use Rattle.cs_model.specs.declared.shape.Shape.{Shape}
use Rattle.cs_model.specs.Changeset.{IsChange}
use Rattle.cs_model.specs.FieldBytes.{field_bytes}
use Rattle.cs_model.specs.KeyBytes.{key_fields, key_record}
use Rattle.cs_model.specs.Packed.{Fits, packed, unpacked}
use Rattle.cs_model.specs.PackedChanges.{Fit}
use Rattle.cs_group.specs.Group.{changed_row, left_of, combined}
use Rattle.cs_group.specs.Merge.{only_change, two_changes, with_change}
use Rattle.cs_group.proofs.one_row.Merging.{IsValidChange, IsValidOfRow, key_in, alone_is, merged_is}
use Rattle.cs_group.proofs.one_row.Effects.{Row, on_change, on_option}
use Rattle.cs_group.proofs.one_row.RowLaw.{IsLongRow, alone_has_effect, two_have_effect}
use Rattle.cs_group.proofs.one_row.Through.{AreValidChanges, of_row, mine, as_list, mine_combined}

-- ---- two laws of cs_model, for whoever has them

-- `fields_again` and `changes_fit`
pub record Packing : Type 0 where
  pub again : (fields : List Field) → AllByRecursion Fits fields → unpacked (packed fields) ≡ fields
  pub fit : (shape : Shape) (change : Change) → IsChange shape change → Fit (length shape.flags) change

-- ---- rows with the same key bytes

keys_fit : (flags : List ℕ) (fields : List Field) → AllByRecursion Fits fields
    → AllByRecursion Fits (key_fields flags fields)
keys_fit [] fields f = tt
keys_fit (flag ∷ flags) [] f = tt
keys_fit (flag ∷ flags) (field ∷ fields) f = go (eqb flag 0) (keys_fit flags fields f.1)
  where
    go : (b : Bool) → AllByRecursion Fits (key_fields flags fields)
        → AllByRecursion Fits (cond b (key_fields flags fields) (field ∷ key_fields flags fields))
    go true k = k
    go false k = (f.0, k)

key_fits : Packing → (flags : List ℕ) (change : Change) → IsValidChange flags change
    → AllByRecursion Fits (key_in flags change)
key_fits packing flags change is =
    let fit = packing.fit (record { name = []; flags = flags }) change is in
    go change.op fit.before fit.after
  where
    go : (op : Op) → AllByRecursion Fits change.before → AllByRecursion Fits change.after
        → AllByRecursion Fits (key_fields flags (key_record op change.before change.after))
    go Insert b a = keys_fit flags change.after a
    go Update b a = keys_fit flags change.before b
    go Delete b a = keys_fit flags change.before b

same_keys : Packing → (flags : List ℕ) (one other : Change) → IsValidChange flags one → IsValidChange flags other
    → changed_row flags one ≡ changed_row flags other → key_in flags one ≡ key_in flags other
same_keys packing flags one other is also e = sym (packing.again (key_in flags one) (key_fits packing flags one is))
    ∙ ap unpacked e ∙ packing.again (key_in flags other) (key_fits packing flags other also)

-- ---- a list's effect on the row

abbrev pub and_then : Option (Option Row) → (Option Row → Option (Option Row)) → Option (Option Row)
and_then None rest = None
and_then (Some row) rest = rest row

abbrev pub on_list : List ℕ → List Change → Option Row → Option (Option Row)
on_list flags [] row = Some row
on_list flags (change ∷ changes) row = and_then (on_change flags change row) (on_list flags changes)

pub then_found : (one : Option (Option Row)) (rest : Option Row → Option (Option Row)) (next : Option Row)
    → and_then one rest ≡ Some next
    → (mid : Option Row) × (one ≡ Some mid) × (rest mid ≡ Some next)
then_found None rest next e = absurd (none-some next e)
then_found (Some mid) rest next e = (mid, refl, e)

-- ---- what is left has that effect

-- what is there is of the row
abbrev pub IsThere : List ℕ → List ℕ → Option Change → Type 0
IsThere flags row None = Unit {0}
IsThere flags row (Some there) = IsValidChange flags there × (changed_row flags there ≡ row)

there_by_key : (flags row : List ℕ) (key : List Field) (there : Option Change) → IsValidOfRow flags key there
    → flat_map field_bytes key ≡ row → IsThere flags row there
there_by_key flags row key None o e = tt
there_by_key flags row key (Some there) o e = (o.0, ap (λ (fs : List Field). flat_map field_bytes fs) o.1 ∙ e)

step_there : (flags row : List ℕ) (there : Option Change) (change : Change) → IsThere flags row there
    → IsValidChange flags change
    → changed_row flags change ≡ row → IsThere flags row (with_change flags there change)
step_there flags row None change t o e = there_by_key flags row (key_in flags change) (only_change flags change)
    (alone_is flags change o) e
step_there flags row (Some there) change t o e =
    there_by_key flags row (key_in flags there) (two_changes flags there change) (merged_is flags there change t.0 o)
    t.1

step_effect : Packing → (flags row : List ℕ) (there : Option Change) (change : Change) (first mid next : Option Row)
    → IsThere flags row there → IsValidChange flags change → changed_row flags change ≡ row → IsLongRow flags first
    → on_option flags there first ≡ Some mid → on_change flags change mid ≡ Some next
    → on_option flags (with_change flags there change) first ≡ Some next
step_effect packing flags row None change first mid next t o e l one two =
    let is : first ≡ mid = cc one in
    alone_has_effect flags change first next o l (ap (λ (r : Option Row). on_change flags change r) is ∙ two)
step_effect packing flags row (Some there) change first mid next t o e l one two =
    two_have_effect flags there change first mid next t.0 o (same_keys packing flags there change t.0 o (t.1 ∙ sym e)) l
    one two

pub left_has_effect : Packing → (flags row : List ℕ) (there : Option Change) (changes : List Change)
    (first mid next : Option Row)
    → IsThere flags row there → AreValidChanges flags changes → IsLongRow flags first → on_option flags there first
    ≡ Some mid
    → on_list flags (mine flags row changes) mid ≡ Some next → on_option flags (left_of flags row there changes) first
    ≡ Some next
left_has_effect packing flags row there [] first mid next t o l one two = one ∙ two
left_has_effect packing flags row there (change ∷ changes) first mid next t o l one two =
    go (of_row flags row change) refl
    (λ other at is one two. left_has_effect packing flags row other changes first at next is o.1 l one two) two
  where
    go : (b : Bool) → of_row flags row change ≡ b
        → ((other : Option Change) (at : Option Row) → IsThere flags row other → on_option flags other first ≡ Some at
        → on_list flags (mine flags row changes) at ≡ Some next
        → on_option flags (left_of flags row other changes) first ≡ Some next)
        → on_list flags (cond b (change ∷ mine flags row changes) (mine flags row changes)) mid ≡ Some next
        → on_option flags (cond b (left_of flags row (with_change flags there change) changes)
        (left_of flags row there changes)) first ≡ Some next
    go false e again rest = again there mid t one rest
    go true e again rest =
        let f = then_found (on_change flags change mid) (on_list flags (mine flags row changes)) next rest in
        let is : changed_row flags change ≡ row = same_text (changed_row flags change) row (sym e) in
        again (with_change flags there change) f.0 (step_there flags row there change t o.0 is)
        (step_effect packing flags row there change first mid f.0 t o.0 is l one f.1) f.2

-- ---- the law

on_listed : (flags : List ℕ) (there : Option Change) (row : Option Row) → on_list flags (as_list there) row
    ≡ on_option flags there row
on_listed flags None row = refl
on_listed flags (Some there) row = go (on_change flags there row)
  where
    go : (one : Option (Option Row)) → and_then one (λ r. Some r) ≡ one
    go None = refl
    go (Some next) = refl

pub combined_has_effect : Packing → (flags row : List ℕ) (changes : List Change) (first next : Option Row)
    → AreValidChanges flags changes
    → IsLongRow flags first → on_list flags (mine flags row changes) first ≡ Some next
    → on_list flags (mine flags row (combined flags changes)) first ≡ Some next
combined_has_effect packing flags row changes first next o l e =
    ap (λ (cs : List Change). on_list flags cs first) (mine_combined flags row changes o)
    ∙ on_listed flags (left_of flags row None changes) first
    ∙ left_has_effect packing flags row None changes first first next tt o l refl e
