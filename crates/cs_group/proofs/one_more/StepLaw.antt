-- What changes come to with one change more: the change of the same row turns where it stands, or a new one goes last.
use Rattle.std.proofs.Common.{◌≡◌, ◌∙◌, ℕ, Bool, true, false, cond, List, [], ◌∷◌, ◌++◌, Option, Some, None}
use Rattle.std.proofs.Common.{refl, ap, sym, subst, append_assoc}
use Rattle.std.proofs.lemmas.List.{append-nil}
use Rattle.std.specs.List.{flat_map}
use Rattle.cs_model.specs.declared.change.Change.{Change}
use Rattle.cs_model.specs.declared.value.Field.{Field}
use Rattle.cs_model.specs.FieldBytes.{field_bytes}
use Rattle.cs_model.specs.Schema.{same_bytes}
use Rattle.cs_group.specs.Group.{changed_row, left_of, lasts_through, begun_by, begun_at, combined_after, combined}
use Rattle.cs_group.specs.Merge.{only_change, two_changes}
use Rattle.cs_group.proofs.one_row.Merging.{IsValidOfRow, key_in, alone_is}
use Rattle.cs_group.proofs.one_row.Through.{AreValidChanges, as_list, kept_merged}

-- a change of the result, with one change more
abbrev pub turned_by : List ℕ → Change → Change → List Change
turned_by flags new there = cond (same_bytes (changed_row flags new) (changed_row flags there))
    (as_list (two_changes flags there new)) (there ∷ [])

-- ---- what lasts through one change more

if_same : (same : Bool) (x y : Option Change) (both : Option Change → Option Change) (u v : Option Change)
    → u ≡ both x → v ≡ both y → cond same u v ≡ both (cond same x y)
if_same true x y both u v h k = h
if_same false x y both u v h k = k

lasts_more : (flags row : List ℕ) (there : Option Change) (after : List Change) (new : Change)
    → lasts_through flags row there (after ++ new ∷ [])
    ≡ lasts_through flags row (lasts_through flags row there after) (new ∷ [])
lasts_more flags row None after new = refl
lasts_more flags row (Some there) [] new = refl
lasts_more flags row (Some there) (change ∷ after) new =
    if_same (same_bytes (changed_row flags change) row) (lasts_through flags row (two_changes flags there change) after)
    (lasts_through flags row (Some there) after) (λ kept. lasts_through flags row kept (new ∷ []))
    (lasts_through flags row (two_changes flags there change) (after ++ new ∷ []))
    (lasts_through flags row (Some there) (after ++ new ∷ []))
    (lasts_more flags row (two_changes flags there change) after new) (lasts_more flags row (Some there) after new)

lasts_to_end : (flags row : List ℕ) (there : Option Change) → lasts_through flags row there [] ≡ there
lasts_to_end flags row None = refl
lasts_to_end flags row (Some there) = refl

-- ---- one place of the result

-- changes with the same key fields are of one row
pub one_row : (flags : List ℕ) (key : List Field) (change : Change) → IsValidOfRow flags key (Some change)
    → changed_row flags change ≡ flat_map field_bytes key
one_row flags key change valid = ap (flat_map field_bytes) valid.1

pub begun_alone : (there : Option Change) → begun_by None there ≡ as_list there
begun_alone None = refl
begun_alone (Some there) = refl

turns_if : (same : Bool) (flags row : List ℕ) (kept : Change) (next : Option Change)
    → begun_by None (cond same (lasts_through flags row next []) (Some kept))
    ≡ cond same (as_list next) (kept ∷ []) ++ []
turns_if true flags row kept next = ap (begun_by None) (lasts_to_end flags row next) ∙ begun_alone next
    ∙ sym (append-nil (as_list next))
turns_if false flags row kept next = refl

begun_more : (flags row : List ℕ) (left kept : Option Change) (new : Change)
    → ((change : Change) → kept ≡ Some change → changed_row flags change ≡ row)
    → begun_by left (lasts_through flags row kept (new ∷ [])) ≡ flat_map (turned_by flags new) (begun_by left kept)
begun_more flags row (Some left) None new mine = refl
begun_more flags row (Some left) (Some kept) new mine = refl
begun_more flags row None None new mine = refl
begun_more flags row None (Some kept) new mine =
    turns_if (same_bytes (changed_row flags new) row) flags row kept (two_changes flags kept new)
    ∙ ap (λ r. cond (same_bytes (changed_row flags new) r) (as_list (two_changes flags kept new)) (kept ∷ []) ++ [])
    (sym (mine kept refl))

-- ---- all places

pub flat_map_both : {A B : Type 0} (f : A → List B) (xs ys : List A)
    → flat_map f (xs ++ ys) ≡ flat_map f xs ++ flat_map f ys
flat_map_both f [] ys = refl
flat_map_both f (x ∷ xs) ys = ap (λ zs. f x ++ zs) (flat_map_both f xs ys)
    ∙ sym (append_assoc (f x) (flat_map f xs) (flat_map f ys))

pub lasting_row : (flags : List ℕ) (change : Change) (after : List Change) → AreValidChanges flags (change ∷ after)
    → (kept : Change)
    → lasts_through flags (changed_row flags change) (only_change flags change) after ≡ Some kept
    → changed_row flags kept ≡ changed_row flags change
lasting_row flags change after valid kept is =
    one_row flags (key_in flags change) kept (subst (IsValidOfRow flags (key_in flags change)) is
    (kept_merged flags (changed_row flags change) (key_in flags change) (only_change flags change) after
    (alone_is flags change valid.0) valid.1))

more_after : (flags : List ℕ) (before after : List Change) (new : Change) → AreValidChanges flags after
    → combined_after flags before (after ++ new ∷ [])
    ≡ flat_map (turned_by flags new) (combined_after flags before after)
    ++ combined_after flags (before ++ after) (new ∷ [])
more_after flags before [] new valid = ap (λ b. combined_after flags b (new ∷ [])) (sym (append-nil before))
more_after flags before (change ∷ after) new valid = joined (more_after flags (before ++ change ∷ []) after new valid.1)
  where
    row : List ℕ
    row = changed_row flags change

    here : List Change
    here = begun_at flags before change after

    later : List Change
    later = combined_after flags (before ++ change ∷ []) after

    begun_here : begun_at flags before change (after ++ new ∷ []) ≡ flat_map (turned_by flags new) here
    begun_here = ap (begun_by (left_of flags row None before)) (lasts_more flags row
        (only_change flags change) after new)
        ∙ begun_more flags row (left_of flags row None before)
        (lasts_through flags row (only_change flags change) after) new (lasting_row flags change after valid)

    joined : combined_after flags (before ++ change ∷ []) (after ++ new ∷ [])
        ≡ flat_map (turned_by flags new) later ++ combined_after flags ((before ++ change ∷ []) ++ after) (new ∷ [])
        → begun_at flags before change (after ++ new ∷ []) ++ combined_after flags (before ++ change ∷ []) (after
        ++ new ∷ [])
        ≡ flat_map (turned_by flags new) (here ++ later) ++ combined_after flags (before ++ change ∷ after) (new ∷ [])
    joined more =
        (λ i. begun_here i ++ more i)
        ∙ ap (λ b. flat_map (turned_by flags new) here
        ++ (flat_map (turned_by flags new) later ++ combined_after flags b (new ∷ []))) (append_assoc before
        (change ∷ []) after)
        ∙ sym (append_assoc (flat_map (turned_by flags new) here) (flat_map (turned_by flags new) later)
        (combined_after flags (before ++ change ∷ after) (new ∷ [])))
        ∙ ap (λ xs. xs ++ combined_after flags (before ++ change ∷ after) (new ∷ []))
        (sym (flat_map_both (turned_by flags new) here later))

-- the step law
pub combined_more : (flags : List ℕ) (changes : List Change) (new : Change) → AreValidChanges flags changes
    → combined flags (changes ++ new ∷ [])
    ≡ flat_map (turned_by flags new) (combined flags changes)
    ++ begun_by (left_of flags (changed_row flags new) None changes) (only_change flags new)
combined_more flags changes new valid = more_after flags [] changes new valid
    ∙ ap (λ xs. flat_map (turned_by flags new) (combined flags changes) ++ xs)
    (append-nil (begun_at flags changes new [])
    ∙ ap (begun_by (left_of flags (changed_row flags new) None changes))
    (lasts_to_end flags (changed_row flags new) (only_change flags new)))
