-- One more change of a row: the slots hold what all changes come to.
use Rattle.std.proofs.Common.{◌≡◌, ◌∙◌, ℕ, zero, suc, Bool, true, false, cond, List, [], ◌∷◌, ◌++◌, length}
use Rattle.std.proofs.Common.{Option, Some, None, slice_get, refl, ap, sym, subst, arith, length-append}
use Rattle.std.proofs.Common.{◌⊎◌, inl, inr}
use Rattle.std.proofs.Math.Nat.{suc-ne-zero}
use Rattle.std.proofs.lemmas.List.{append-nil}
use Rattle.std.proofs.lemmas.Option.{none-some}
use Rattle.std.specs.Cmp.Lexicographic.{same_text, nat_list_eq_equiv}
use Rattle.std.specs.List.{flat_map}
use Rattle.std.specs.Prelude.{filter}
use Rattle.cs_model.specs.declared.change.Change.{Change}
use Rattle.cs_model.specs.declared.value.Field.{Field}
use Rattle.cs_model.specs.Schema.{same_bytes}
use Rattle.cs_group.specs.Group.{changed_row, left_of, begun_by, combined}
use Rattle.cs_group.specs.Merge.{only_change, two_changes}
use Rattle.cs_group.specs.Table.{Slots, slot_changes, put_at, there_at, met_at, met_by, HoldSlots}
use Rattle.cs_group.proofs.one_row.Merging.{IsValidChange, IsValidOfRow, key_in, alone_is, merged_is}
use Rattle.cs_group.proofs.one_more.Slots.{Holding, held_more, held_same, held_put, slot_of, held_of, there_is, nothing_there}
use Rattle.cs_group.proofs.one_more.Slots.{put_same, put_other, more_is, past_end}
use Rattle.cs_group.proofs.one_more.StepLaw.{turned_by, combined_more, one_row, begun_alone}
use Rattle.cs_group.proofs.one_row.Through.{AreValidChanges, as_list, of_row, mine_combined}

-- ---- places and rows

same_place : (p q : ℕ) → (p ≡ q) ⊎ (p ≡ q → ⊥)
same_place zero zero = inl refl
same_place zero (suc q) = inr (λ e. suc-ne-zero q (sym e))
same_place (suc p) zero = inr (suc-ne-zero p)
same_place (suc p) (suc q) = elim (same_place p q) [
  | inl e ↦ inl (ap suc e)
  | inr other ↦ inr (λ e. other cc)
]

one_place : (x : Option ℕ) (p q : ℕ) → x ≡ Some p → x ≡ Some q → p ≡ q
one_place x p q e d = let both : Some p ≡ Some q = sym e ∙ d in cc

is_row : (row other : List ℕ) → same_bytes row other ≡ true → row ≡ other
is_row row other e = same_text row other (sym e)

-- what a change comes to is a change of its row, and valid
valid_row : (flags : List ℕ) (key : List Field) (x : Option Change) (change : Change) → IsValidOfRow flags key x
    → x ≡ Some change → IsValidOfRow flags key (Some change)
valid_row flags key x change valid is = subst (IsValidOfRow flags key) is valid

-- a place that no change meets has no change
unmet : (slots : Slots) (place : ℕ) → met_at slots (Some place) ≡ None → there_at slots place ≡ None
unmet slots place e = by (there_at slots place) e
  where
    by : (there : Option Change) → met_by there place ≡ None → there ≡ None
    by None e = refl
    by (Some there) e = absurd (none-some _ (sym e))

-- a place that a change meets is the one, and its slot has a change
pub met_is : (slots : Slots) (at : Option ℕ) (place : ℕ) → met_at slots at ≡ Some place
    → (at ≡ Some place) × ((there : Change) × (there_at slots place ≡ Some there))
met_is slots None place e = absurd (none-some _ e)
met_is slots (Some p) place e = by (there_at slots p) refl e
  where
    by : (there : Option Change) → there_at slots p ≡ there → met_by there p ≡ Some place
        → (Some p ≡ Some place) × ((found : Change) × (there_at slots place ≡ Some found))
    by None is e = absurd (none-some _ e)
    by (Some there) is e = (e, (there, ap (there_at slots) (sym (same e)) ∙ is))
      where
        same : Some p ≡ Some place → p ≡ place
        same e = cc

-- put_at keeps the number of slots
length_put : (slots : Slots) (at : ℕ) (x : Option Change) → length (put_at at x slots) ≡ length slots
length_put [] at x = refl
length_put (slot ∷ slots) zero x = refl
length_put (slot ∷ slots) (suc at) x = ap suc (length_put slots at x)

-- a row's place once one row's place is set
set_place : (same : Bool) (next : ℕ) (old : Option ℕ) (place : ℕ) → cond same (Some next) old ≡ Some place
    → ((same ≡ true) × (next ≡ place)) ⊎ ((same ≡ false) × (old ≡ Some place))
set_place true next old place e = inl (refl, cc)
set_place false next old place e = inr (refl, e)

module _ (flags : List ℕ) (at : List ℕ → Option ℕ) (slots : Slots) (changes : List Change) (new : Change)
    (valid : AreValidChanges flags changes) (fits : IsValidChange flags new) (holds : HoldSlots flags at slots changes)
  where
    abbrev pub row : List ℕ
    row = changed_row flags new

    -- ---- a change that meets another

    module _ (place : ℕ) (there : Change) (here : Holding slots place there) (is_at : at row ≡ Some place) where
      abbrev pub x : Option Change
      x = two_changes flags there new

      same_row : changed_row flags there ≡ row
      same_row = holds.found row place there is_at here

      merged : IsValidOfRow flags (key_in flags there) x
      merged = merged_is flags there new (holds.valid place there here) fits

      turns : turned_by flags new there ≡ as_list x
      turns = ap (λ b. cond b (as_list x) (there ∷ []))
          (ap (same_bytes row) same_row ∙ nat_list_eq_equiv.refl row)

      stays_if : (p : ℕ) (change : Change) → Holding slots p change → (p ≡ place → ⊥) → (b : Bool)
          → same_bytes row (changed_row flags change) ≡ b
          → cond b (as_list (two_changes flags change new)) (change ∷ []) ≡ change ∷ []
      stays_if p change is other true e = absurd (other (one_place (at row) p place
          (ap at (is_row row (changed_row flags change) e) ∙ holds.kept p change is) is_at))
      stays_if p change is other false e = refl

      left_is : (left : Option Change) → filter (of_row flags row) (combined flags changes) ≡ as_list left
          → begun_by left (only_change flags new) ≡ []
      left_is None e = absurd (held_of (of_row flags row) slots place there here
          (ap (λ r. same_bytes r row) same_row ∙ nat_list_eq_equiv.refl row)
          (ap (filter (of_row flags row)) holds.listed ∙ e))
      left_is (Some left) e = refl

      pub met_listed : slot_changes (put_at place x slots) ≡ combined flags (changes ++ new ∷ [])
      met_listed = held_put (turned_by flags new) slots place there x here turns
          (λ p change is other. stays_if p change is other (same_bytes row (changed_row flags change)) refl)
          ∙ ap (flat_map (turned_by flags new)) holds.listed
          ∙ sym (append-nil (flat_map (turned_by flags new) (combined flags changes)))
          ∙ ap (λ xs. flat_map (turned_by flags new) (combined flags changes) ++ xs)
          (sym (left_is (left_of flags row None changes) (mine_combined flags row changes valid)))
          ∙ sym (combined_more flags changes new valid)

      -- a change that stands in a slot now is the merged one, or was there before
      now_is : (p : ℕ) (change : Change) → Holding (put_at place x slots) p change
          → ((p ≡ place) × (x ≡ Some change)) ⊎ (Holding slots p change)
      now_is p change is = elim (same_place p place) [
        | inl e ↦ inl (
          e,
          one_slot (sym (put_same slots place there x here)
              ∙ ap (slice_get (put_at place x slots)) (sym e) ∙ is),
        )
        | inr other ↦ inr (sym (put_other slots place p x other) ∙ is)
      ]
        where
          one_slot : Some x ≡ Some (Some change) → x ≡ Some change
          one_slot e = cc

      merged_row : (change : Change) → x ≡ Some change → changed_row flags change ≡ changed_row flags there
      merged_row change e = one_row flags (key_in flags there) change (valid_row flags _ x change merged e)

      pub met : HoldSlots flags at (put_at place x slots) (changes ++ new ∷ [])
      met = record {
        listed = met_listed;
        found = λ other p change is here_now. elim (now_is p change here_now) [
          | inl e ↦ merged_row change e.1 ∙ holds.found other place there (is ∙ ap Some e.0) here
          | inr old ↦ holds.found other p change is old
        ];
        kept = λ p change here_now. elim (now_is p change here_now) [
          | inl e ↦ ap at (merged_row change e.1) ∙ holds.kept place there here ∙ ap Some (sym e.0)
          | inr old ↦ holds.kept p change old
        ];
        bound = λ other p is. omega (arith, length_put slots place x, holds.bound other p is);
        valid = λ p change here_now. elim (now_is p change here_now) [
          | inl e ↦ (valid_row flags _ x change merged e.1).0
          | inr old ↦ holds.valid p change old
        ];
      }

    -- ---- a change that meets none

    module _ (none : met_at slots (at row) ≡ None) where
      -- no slot has a change of the row
      absent : (p : ℕ) (change : Change) → Holding slots p change → row ≡ changed_row flags change → ⊥
      absent p change is same = nothing_there slots p change
          (unmet slots p (ap (met_at slots) (sym (ap at same ∙ holds.kept p change is)) ∙ none)) is

      stays_if_none : (p : ℕ) (change : Change) → Holding slots p change → (b : Bool)
          → same_bytes row (changed_row flags change) ≡ b
          → cond b (as_list (two_changes flags change new)) (change ∷ []) ≡ change ∷ []
      stays_if_none p change is true e = absurd (absent p change is (is_row row (changed_row flags change) e))
      stays_if_none p change is false e = refl

      left_none : (left : Option Change) → filter (of_row flags row) (combined flags changes) ≡ as_list left
          → left ≡ None
      left_none None e = refl
      left_none (Some left) e =
          let found = slot_of (of_row flags row) slots left [] (ap (filter (of_row flags row)) holds.listed ∙ e) in
          absurd (absent found.0 left found.1 (sym (is_row (changed_row flags left) row found.2)))

      alone_listed : slot_changes slots ++ as_list (only_change flags new) ≡ combined flags (changes ++ new ∷ [])
      alone_listed = ap (λ xs. xs ++ as_list (only_change flags new))
          (sym (held_same (turned_by flags new) slots
          (λ p change is. stays_if_none p change is (same_bytes row (changed_row flags change)) refl))
          ∙ ap (flat_map (turned_by flags new)) holds.listed)
          ∙ ap (λ xs. flat_map (turned_by flags new) (combined flags changes) ++ xs)
          (sym (begun_alone (only_change flags new))
          ∙ ap (λ left. begun_by left (only_change flags new))
          (sym (left_none (left_of flags row None changes) (mine_combined flags row changes valid))))
          ∙ sym (combined_more flags changes new valid)

      -- the change comes to nothing
      pub idle : only_change flags new ≡ None → HoldSlots flags at slots (changes ++ new ∷ [])
      idle nothing = record {
        listed = sym (append-nil (slot_changes slots)) ∙ ap (λ x. slot_changes slots ++ as_list x) (sym nothing)
            ∙ alone_listed;
        found = holds.found;
        kept = holds.kept;
        bound = holds.bound;
        valid = holds.valid;
      }

      -- the change takes a new slot
      module _ (first : Change) (only : only_change flags new ≡ Some first) (later : List ℕ → Option ℕ)
          (moved : (other : List ℕ) → later other ≡ cond (same_bytes row other) (Some (length slots)) (at other)) where
        alone : IsValidOfRow flags (key_in flags new) (Some first)
        alone = valid_row flags _ (only_change flags new) first (alone_is flags new fits) only

        first_row : changed_row flags first ≡ row
        first_row = one_row flags (key_in flags new) first alone

        later_row : later row ≡ Some (length slots)
        later_row = moved row ∙ ap (λ b. cond b (Some (length slots)) (at row)) (nat_list_eq_equiv.refl row)

        kept_before : (p : ℕ) (change : Change) → Holding slots p change → (b : Bool)
            → same_bytes row (changed_row flags change) ≡ b
            → cond b (Some (length slots)) (at (changed_row flags change)) ≡ Some p
        kept_before p change here true e = absurd (absent p change here (is_row row (changed_row flags change) e))
        kept_before p change here false e = holds.kept p change here

        not_bound : (other : List ℕ) → at other ≡ Some (length slots) → ⊥
        not_bound other e = omega (arith, holds.bound other (length slots) e)

        found_now : (other : List ℕ) (p : ℕ) (change : Change) → later other ≡ Some p
            → (Holding slots p change) ⊎ ((p ≡ length slots) × (first ≡ change))
            → ((same_bytes row other ≡ true) × (length slots ≡ p))
            ⊎ ((same_bytes row other ≡ false) × (at other ≡ Some p))
            → changed_row flags change ≡ other
        found_now other p change is (inl old) (inl e) = absurd (past_end slots p change (omega (arith, e.1)) old)
        found_now other p change is (inl old) (inr e) = holds.found other p change e.1 old
        found_now other p change is (inr last) (inl e) =
            ap (changed_row flags) (sym last.1) ∙ first_row ∙ is_row row other e.0
        found_now other p change is (inr last) (inr e) = absurd (not_bound other (e.1 ∙ ap Some last.0))

        pub begun : HoldSlots flags later (slots ++ Some first ∷ []) (changes ++ new ∷ [])
        begun = record {
          listed = held_more slots first ∙ ap (λ x. slot_changes slots ++ as_list x) (sym only) ∙ alone_listed;
          found = λ other p change is here. found_now other p change is (more_is slots p first change here)
              (set_place (same_bytes row other) (length slots) (at other) p (sym (moved other) ∙ is));
          kept = λ p change here. elim (more_is slots p first change here) [
            | inl old ↦ moved (changed_row flags change)
                ∙ kept_before p change old (same_bytes row (changed_row flags change)) refl
            | inr last ↦ ap later (ap (changed_row flags) (sym last.1) ∙ first_row) ∙ later_row ∙ ap Some (sym last.0)
          ];
          bound = λ other p is.
              elim (set_place (same_bytes row other) (length slots) (at other) p (sym (moved other) ∙ is)) [
                | inl e ↦ omega (arith, e.1, length-append slots (Some first ∷ []))
                | inr e ↦ omega (arith, length-append slots (Some first ∷ []), holds.bound other p e.1)
              ];
          valid = λ p change here. elim (more_is slots p first change here) [
            | inl old ↦ holds.valid p change old
            | inr last ↦ subst (IsValidChange flags) last.1 alone.0
          ];
        }

-- ---- every step

-- the slots once a change of a row is merged with another
pub slots_met : (flags : List ℕ) (at : List ℕ → Option ℕ) (slots after : Slots) (changes : List Change)
    (new : Change) (place : ℕ) (there : Change) → AreValidChanges flags changes → IsValidChange flags new
    → HoldSlots flags at slots changes → at (changed_row flags new) ≡ Some place
    → there_at slots place ≡ Some there → after ≡ put_at place (two_changes flags there new) slots
    → HoldSlots flags at after (changes ++ new ∷ [])
slots_met flags at slots after changes new place there valid fits holds is_at is turns =
    subst (λ s. HoldSlots flags at s (changes ++ new ∷ [])) (sym turns)
    (met flags at slots changes new valid fits holds place there (there_is slots place there is) is_at)
