-- A list of changes, seen from one row: what they come to is what the row's own changes come to.
use Rattle.std.proofs.Common.{◌≡◌, ◌∙◌, ℕ, Bool, true, false, cond, List, [], ◌∷◌, ◌++◌, Option, Some, None}
use Rattle.std.proofs.Common.{refl, ap, sym}
use Rattle.std.proofs.lemmas.Option.{none-some}
use Rattle.std.proofs.lemmas.List.Elements.{filter-append}
use Rattle.std.specs.Prelude.{filter}
use Rattle.std.specs.List.{flat_map, AllByRecursion}
use Rattle.std.specs.Cmp.Lexicographic.{same_text}
use Rattle.cs_model.specs.declared.value.Field.{Field}
use Rattle.cs_model.specs.declared.change.Change.{Change}
use Rattle.cs_model.specs.FieldBytes.{field_bytes}
use Rattle.cs_model.specs.Schema.{same_bytes}
use Rattle.cs_group.specs.Group.{changed_row, left_of, lasts_through, begun_by, begun_at, combined_after, combined}
use Rattle.cs_group.specs.Merge.{only_change, two_changes, with_change}
use Rattle.cs_group.proofs.one_row.Merging.{IsValidChange, IsValidOfRow, key_in, alone_is, merged_is}

-- the changes of this row
abbrev pub of_row : List ℕ → List ℕ → Change → Bool
of_row flags row change = same_bytes (changed_row flags change) row

abbrev pub mine : List ℕ → List ℕ → List Change → List Change
mine flags row changes = filter (of_row flags row) changes

abbrev pub AreValidChanges : List ℕ → List Change → Type 0
AreValidChanges flags changes = AllByRecursion (IsValidChange flags) changes

-- a list of a change or none
abbrev pub as_list : Option Change → List Change
as_list None = []
as_list (Some change) = change ∷ []

-- ---- a change of the row at the end

if_of_row : (flags row : List ℕ) (b : Bool) (one other : Option Change) (before : List Change) (change : Change)
    (x y : Option Change)
    → x ≡ left_of flags row one (change ∷ []) → y ≡ left_of flags row other (change ∷ [])
    → cond b x y ≡ left_of flags row (cond b one other) (change ∷ [])
if_of_row flags row true one other before change x y h k = h
if_of_row flags row false one other before change x y h k = k

pub left_more : (flags row : List ℕ) (there : Option Change) (before : List Change) (change : Change)
    → left_of flags row there (before ++ change ∷ [])
    ≡ left_of flags row (left_of flags row there before) (change ∷ [])
left_more flags row there [] change = refl
left_more flags row there (c ∷ before) change = if_of_row flags row (same_bytes (changed_row flags c) row)
    (left_of flags row (with_change flags there c) before) (left_of flags row there before) before change
    (left_of flags row (with_change flags there c) (before ++ change ∷ []))
    (left_of flags row there (before ++ change ∷ []))
    (left_more flags row (with_change flags there c) before change) (left_more flags row there before change)

-- ---- a change that stays

pub kept_merged : (flags row : List ℕ) (key : List Field) (there : Option Change) (changes : List Change)
    → IsValidOfRow flags key there
    → AreValidChanges flags changes → IsValidOfRow flags key (lasts_through flags row there changes)
kept_merged flags row key None changes t c = tt
kept_merged flags row key (Some there) [] t c = t
kept_merged flags row key (Some there) (change ∷ changes) t c =
    both (same_bytes (changed_row flags change) row) (lasts_through flags row (two_changes flags there change) changes)
    (lasts_through flags row (Some there) changes)
    (kept_merged flags row key (two_changes flags there change) changes
    (same_key (two_changes flags there change) (merged_is flags there change t.0 c.0) t.1) c.1)
    (kept_merged flags row key (Some there) changes t c.1)
  where
    both : (b : Bool) (x y : Option Change) → IsValidOfRow flags key x → IsValidOfRow flags key y
        → IsValidOfRow flags key (cond b x y)
    both true x y h k = h
    both false x y h k = k

    same_key : {other : List Field} (x : Option Change) → IsValidOfRow flags other x → other ≡ key
        → IsValidOfRow flags key x
    same_key None h e = tt
    same_key (Some x) h e = (h.0, h.1 ∙ e)

-- what stays is what is left
kept_is_left : (flags row : List ℕ) (there : Option Change) (changes : List Change) (kept : Change)
    → lasts_through flags row there changes ≡ Some kept → left_of flags row there changes ≡ Some kept
kept_is_left flags row None changes kept e = absurd (none-some kept e)
kept_is_left flags row (Some there) [] kept e = e
kept_is_left flags row (Some there) (change ∷ changes) kept e = go (same_bytes (changed_row flags change) row)
    (lasts_through flags row (two_changes flags there change) changes) (lasts_through flags row (Some there) changes)
    (left_of flags row (two_changes flags there change) changes) (left_of flags row (Some there) changes)
    (kept_is_left flags row (two_changes flags there change) changes kept)
    (kept_is_left flags row (Some there) changes kept)
    e
  where
    go : (b : Bool) (x y z w : Option Change) → (x ≡ Some kept → z ≡ Some kept) → (y ≡ Some kept → w ≡ Some kept)
        → cond b x y ≡ Some kept → cond b z w ≡ Some kept
    go true x y z w h k e = h e
    go false x y z w h k e = k e

-- ---- what stands in the result for the row

-- what is left of the row, where what is there doesn't stay
abbrev unless_kept : Option Change → Option Change → List Change
unless_kept None left = as_list left
unless_kept (Some kept) left = []

-- the row's changes of the result behind a place, by what is left of the row there
abbrev pub rest_by : List ℕ → List ℕ → Option Change → List Change → List Change
rest_by flags row None after = as_list (left_of flags row None after)
rest_by flags row (Some there) after =
    unless_kept (lasts_through flags row (Some there) after) (left_of flags row (Some there) after)

followed : (flags row : List ℕ) (there : Option Change) (after : List Change) → rest_by flags row there after
    ≡ unless_kept (lasts_through flags row there after) (left_of flags row there after)
followed flags row None after = refl
followed flags row (Some there) after = refl

-- a row that comes from none
comes_from_none : (flags row : List ℕ) (there : Option Change) (after : List Change)
    → ((kept : Change) → lasts_through flags row there after ≡ Some kept → of_row flags row kept ≡ true)
    → mine flags row (begun_by None (lasts_through flags row there after)) ++ rest_by flags row there after
    ≡ as_list (left_of flags row there after)
comes_from_none flags row None after of = refl
comes_from_none flags row (Some there) after of = go (lasts_through flags row (Some there) after) refl
  where
    go : (kept : Option Change) → lasts_through flags row (Some there) after ≡ kept
        → mine flags row (begun_by None kept) ++ unless_kept kept (left_of flags row (Some there) after)
        ≡ as_list (left_of flags row (Some there) after)
    go None e = refl
    go (Some kept) e = ap (λ (b : Bool). cond b (kept ∷ []) [] ++ []) (of kept e)
        ∙ ap as_list (sym (kept_is_left flags row (Some there) after kept e))

-- ---- one change more

-- what stays of a change is of its row
kept_row : (flags row : List ℕ) (change : Change) (after : List Change) (kept : Change) → IsValidChange flags change
    → AreValidChanges flags after
    → lasts_through flags row (only_change flags change) after ≡ Some kept → changed_row flags kept
    ≡ changed_row flags change
kept_row flags row change after kept o os e = ap (λ (fs : List Field). flat_map field_bytes fs)
    (of_kept (lasts_through flags row (only_change flags change) after)
    (kept_merged flags row (key_in flags change) (only_change flags change) after (alone_is flags change o) os) e)
  where
    of_kept : (x : Option Change) → IsValidOfRow flags (key_in flags change) x → x ≡ Some kept → key_in flags kept
        ≡ key_in flags change
    of_kept None h e = absurd (none-some kept e)
    of_kept (Some x) h e = let is : kept ≡ x = cc (sym e) in ap (λ (y : Change). key_in flags y) is ∙ h.1

of_other : (flags row : List ℕ) (change : Change) (there left : Option Change)
    → ((kept : Change) → left ≡ Some kept → changed_row flags kept ≡ changed_row flags change) → of_row flags row change
    ≡ false
    → mine flags row (begun_by there left) ≡ []
of_other flags row change None None of e = refl
of_other flags row change None (Some kept) of e =
    ap (λ (b : Bool). cond b (kept ∷ []) []) (ap (λ (r : List ℕ). same_bytes r row) (of kept refl) ∙ e)
of_other flags row change (Some there) left of e = refl

-- a change of another row
passed : (flags row : List ℕ) (there : Option Change) (change : Change) (after : List Change) → of_row flags row change
    ≡ false
    → rest_by flags row there after ≡ rest_by flags row there (change ∷ after)
passed flags row None change after e = ap as_list
    (sym (ap (λ (b : Bool). cond b (left_of flags row (only_change flags change) after) (left_of flags row None after))
    e))
passed flags row (Some there) change after e = sym (ap (λ (b : Bool). unless_kept
    (cond b (lasts_through flags row (two_changes flags there change) after)
    (lasts_through flags row (Some there) after))
    (cond b (left_of flags row (two_changes flags there change) after) (left_of flags row (Some there) after))) e)

-- a change of the row
met : (flags row : List ℕ) (there : Option Change) (change : Change) (after : List Change) → of_row flags row change
    ≡ true
    → ((kept : Change) → lasts_through flags row (only_change flags change) after ≡ Some kept → of_row flags row kept
    ≡ true)
    → mine flags row (begun_by there (lasts_through flags row (only_change flags change) after))
    ++ rest_by flags row (with_change flags there change) after
    ≡ rest_by flags row there (change ∷ after)
met flags row None change after e of = comes_from_none flags row (only_change flags change) after of ∙ ap as_list
    (sym (ap (λ (b : Bool). cond b (left_of flags row (only_change flags change) after) (left_of flags row None after))
    e))
met flags row (Some there) change after e of = followed flags row (two_changes flags there change) after
    ∙ sym (ap (λ (b : Bool). unless_kept
    (cond b (lasts_through flags row (two_changes flags there change) after)
    (lasts_through flags row (Some there) after))
    (cond b (left_of flags row (two_changes flags there change) after) (left_of flags row (Some there) after))) e)

one_change_more : (flags row : List ℕ) (before : List Change) (change : Change) (after : List Change)
    → IsValidChange flags change
    → AreValidChanges flags after → (b : Bool) → of_row flags row change ≡ b
    → mine flags row (begun_at flags before change after)
    ++ rest_by flags row (left_of flags row (left_of flags row None before) (change ∷ [])) after
    ≡ rest_by flags row (left_of flags row None before) (change ∷ after)
one_change_more flags row before change after o os true e =
    let is : changed_row flags change ≡ row = same_text (changed_row flags change) row (sym e) in
    let of : (kept : Change) → lasts_through flags row (only_change flags change) after ≡ Some kept
    → of_row flags row kept
    ≡ true =
    λ kept k. ap (λ (r : List ℕ). same_bytes r row) (kept_row flags row change after kept o os k) ∙ e in
    ap (λ (r : List ℕ). mine flags row (begun_by (left_of flags r None before)
    (lasts_through flags r (only_change flags change) after))
    ++ rest_by flags row (left_of flags row (left_of flags row None before) (change ∷ [])) after) is
    ∙ ap (λ (b : Bool). mine flags row (begun_by (left_of flags row None before)
    (lasts_through flags row (only_change flags change) after))
    ++ rest_by flags row (cond b (with_change flags (left_of flags row None before) change)
    (left_of flags row None before)) after) e
    ∙ met flags row (left_of flags row None before) change after e of
one_change_more flags row before change after o os false e =
    ap (λ (xs : List Change). xs ++ rest_by flags row (left_of flags row (left_of flags row None before) (change ∷ []))
    after)
    (of_other flags row change (left_of flags (changed_row flags change) None before)
    (lasts_through flags (changed_row flags change) (only_change flags change) after)
    (λ kept k. kept_row flags (changed_row flags change) change after kept o os k) e)
    ∙ ap (λ (b : Bool). rest_by flags row
    (cond b (with_change flags (left_of flags row None before) change) (left_of flags row None before)) after) e
    ∙ passed flags row (left_of flags row None before) change after e

-- ---- all changes

nothing_after : (flags row : List ℕ) (there : Option Change) → rest_by flags row there [] ≡ []
nothing_after flags row None = refl
nothing_after flags row (Some there) = refl

mine_after : (flags row : List ℕ) (before after : List Change) → AreValidChanges flags after
    → mine flags row (combined_after flags before after) ≡ rest_by flags row (left_of flags row None before) after
mine_after flags row before [] o = sym (nothing_after flags row (left_of flags row None before))
mine_after flags row before (change ∷ after) o =
    filter-append (of_row flags row) (begun_at flags before change after)
    (combined_after flags (before ++ change ∷ []) after)
    ∙ ap (λ (xs : List Change). mine flags row (begun_at flags before change after) ++ xs)
    (mine_after flags row (before ++ change ∷ []) after o.1
    ∙ ap (λ (s : Option Change). rest_by flags row s after) (left_more flags row None before change))
    ∙ one_change_more flags row before change after o.0 o.1 (of_row flags row change) refl

-- a row has at most one change in the result: what its changes come to
pub mine_combined : (flags row : List ℕ) (changes : List Change) → AreValidChanges flags changes
    → mine flags row (combined flags changes) ≡ as_list (left_of flags row None changes)
mine_combined flags row changes o = mine_after flags row [] changes o
