-- Slots: what they hold, and what they hold once one is replaced or added.
use Rattle.std.proofs.Common.{◌≡◌, ◌∙◌, ℕ, zero, suc, Bool, true, false, cond, List, [], ◌∷◌, ◌++◌, length}
use Rattle.std.proofs.Common.{Option, Some, None, slice_get, refl, ap, sym, ◌≤◌, ◌⊎◌, inl, inr, true≢false, arith}
use Rattle.std.proofs.Math.Bridge.{no_suc-le-zero}
use Rattle.std.proofs.Math.Nat.{suc-ne-zero}
use Rattle.std.proofs.lemmas.Option.{none-some}
use Rattle.std.specs.List.{flat_map}
use Rattle.std.specs.Prelude.{filter}
use Rattle.cs_model.specs.declared.change.Change.{Change}
use Rattle.cs_group.specs.Table.{Slots, slot_changes, put_at, there_by, there_at}
use Rattle.cs_group.proofs.one_row.Through.{as_list}

-- a slot holds this change
abbrev pub Holding : Slots → ℕ → Change → Type 0
Holding slots place change = slice_get slots place ≡ Some (Some change)

-- ---- one more slot

pub held_more : (slots : Slots) (change : Change) → slot_changes (slots ++ Some change ∷ []) ≡ slot_changes slots
    ++ change ∷ []
held_more [] change = refl
held_more (None ∷ slots) change = held_more slots change
held_more (Some first ∷ slots) change = ap (λ xs. first ∷ xs) (held_more slots change)

-- ---- changes that turn into themselves

pub held_same : (f : Change → List Change) (slots : Slots)
    → ((place : ℕ) (change : Change) → Holding slots place change → f change ≡ change ∷ [])
    → flat_map f (slot_changes slots) ≡ slot_changes slots
held_same f [] same = refl
held_same f (None ∷ slots) same = held_same f slots (λ place change is. same (suc place) change is)
held_same f (Some first ∷ slots) same =
    (λ i. same zero first refl i ++ held_same f slots (λ place change is. same (suc place) change is) i)

-- ---- one slot replaced

held_first : (x : Option Change) (slots : Slots) → slot_changes (x ∷ slots) ≡ as_list x ++ slot_changes slots
held_first None slots = refl
held_first (Some x) slots = refl

pub held_put : (f : Change → List Change) (slots : Slots) (at : ℕ) (there : Change) (x : Option Change)
    → Holding slots at there → f there ≡ as_list x
    → ((place : ℕ) (change : Change) → Holding slots place change → (place ≡ at → ⊥) → f change ≡ change ∷ [])
    → slot_changes (put_at at x slots) ≡ flat_map f (slot_changes slots)
held_put f [] at there x here turns others = absurd (none-some _ here)
held_put f (slot ∷ slots) zero there x here turns others = first slot cc
  where
    after : flat_map f (slot_changes slots) ≡ slot_changes slots
    after = held_same f slots (λ place change is. others (suc place) change is (suc-ne-zero place))

    first : (slot : Option Change) → slot ≡ Some there → slot_changes (x ∷ slots)
        ≡ flat_map f (slot_changes (slot ∷ slots))
    first None e = absurd (none-some _ e)
    first (Some old) e =
        let same : old ≡ there = cc in
        held_first x slots ∙ sym (ap (λ xs. xs ++ flat_map f (slot_changes slots)) (ap f same ∙ turns)
        ∙ ap (λ xs. as_list x ++ xs) after)
held_put f (None ∷ slots) (suc at) there x here turns others =
    held_put f slots at there x here turns (λ place change is other. others (suc place) change is (λ e. other cc))
held_put f (Some first ∷ slots) (suc at) there x here turns others =
    ap (λ xs. first ∷ xs) (held_put f slots at there x here turns
    (λ place change is other. others (suc place) change is (λ e. other cc)))
    ∙ sym (ap (λ xs. xs ++ flat_map f (slot_changes slots)) (others zero first refl (λ e. suc-ne-zero at (sym e))))

-- ---- which changes slots hold

-- a change that is slot_changes stands in a slot
pub slot_of : (P : Change → Bool) (slots : Slots) (change : Change) (rest : List Change)
    → filter P (slot_changes slots) ≡ change ∷ rest → (place : ℕ) × Holding slots place change × (P change ≡ true)
slot_of P [] change rest e = absurd (none_first e)
  where
    none_first : [] ≡ change ∷ rest → ⊥
    none_first e = cc
slot_of P (None ∷ slots) change rest e =
    let found = slot_of P slots change rest e in
    (suc found.0, found.1, found.2)
slot_of P (Some first ∷ slots) change rest e = by (P first) refl e (slot_of P slots change rest)
  where
    by : (b : Bool) → P first ≡ b → cond b (first ∷ filter P (slot_changes slots)) (filter P (slot_changes slots))
        ≡ change ∷ rest
        → (filter P (slot_changes slots) ≡ change ∷ rest
        → (place : ℕ) × Holding slots place change × (P change ≡ true))
        → (place : ℕ) × Holding (Some first ∷ slots) place change × (P change ≡ true)
    by true p e later = let same : first ≡ change = cc in (zero, ap (λ c. Some (Some c)) same, sym (ap P same) ∙ p)
    by false p e later = let found = later e in (suc found.0, found.1, found.2)

-- a change that stands in a slot is slot_changes
pub held_of : (P : Change → Bool) (slots : Slots) (place : ℕ) (change : Change) → Holding slots place change
    → P change ≡ true → filter P (slot_changes slots) ≡ [] → ⊥
held_of P [] place change is p none = none-some _ is
held_of P (None ∷ slots) zero change is p none = absurd none_is
  where
    none_is : ⊥
    none_is = cc
held_of P (None ∷ slots) (suc place) change is p none = held_of P slots place change is p none
held_of P (Some first ∷ slots) zero change is p none = by (P first) refl none
  where
    by : (b : Bool) → P first ≡ b → cond b (first ∷ filter P (slot_changes slots)) (filter P (slot_changes slots))
        ≡ [] → ⊥
    by true q e = cc
    by false q e = let same : first ≡ change = cc in true≢false (sym p ∙ sym (ap P same) ∙ q)
held_of P (Some first ∷ slots) (suc place) change is p none = by (P first) none (held_of P slots place change is p)
  where
    by : (b : Bool) → cond b (first ∷ filter P (slot_changes slots)) (filter P (slot_changes slots)) ≡ []
        → (filter P (slot_changes slots) ≡ [] → ⊥) → ⊥
    by true e later = cc
    by false e later = later e

-- ---- the slot at a place

pub there_is : (slots : Slots) (place : ℕ) (change : Change) → there_at slots place ≡ Some change
    → Holding slots place change
there_is slots place change e = by (slice_get slots place) e
  where
    by : (r : Option (Option Change)) → there_by r ≡ Some change → r ≡ Some (Some change)
    by None e = absurd (none-some _ e)
    by (Some slot) e = ap Some e

pub nothing_there : (slots : Slots) (place : ℕ) (change : Change) → there_at slots place ≡ None
    → Holding slots place change → ⊥
nothing_there slots place change e is = none-some _ (sym e ∙ ap there_by is)

pub put_same : (slots : Slots) (at : ℕ) (there : Change) (x : Option Change) → Holding slots at there
    → slice_get (put_at at x slots) at ≡ Some x
put_same [] at there x here = absurd (none-some _ here)
put_same (slot ∷ slots) zero there x here = refl
put_same (slot ∷ slots) (suc at) there x here = put_same slots at there x here

pub put_other : (slots : Slots) (at place : ℕ) (x : Option Change) → (place ≡ at → ⊥)
    → slice_get (put_at at x slots) place ≡ slice_get slots place
put_other [] at place x other = refl
put_other (slot ∷ slots) zero zero x other = absurd (other refl)
put_other (slot ∷ slots) zero (suc place) x other = refl
put_other (slot ∷ slots) (suc at) zero x other = refl
put_other (slot ∷ slots) (suc at) (suc place) x other = put_other slots at place x (λ e. other (ap suc e))

-- a change in one more slot is the new one in the last, or an old one in its place
pub more_is : (slots : Slots) (place : ℕ) (new change : Change) → Holding (slots ++ Some new ∷ []) place change
    → (Holding slots place change) ⊎ ((place ≡ length slots) × (new ≡ change))
more_is [] zero new change is = inr (refl, cc)
more_is [] (suc place) new change is = absurd (none-some _ is)
more_is (slot ∷ slots) zero new change is = inl is
more_is (slot ∷ slots) (suc place) new change is = elim (more_is slots place new change is) [
  | inl old ↦ inl old
  | inr last ↦ inr (ap suc last.0, last.1)
]

-- slots end before a place that no list reaches
pub past_end : (slots : Slots) (place : ℕ) (change : Change) → length slots ≤ place → Holding slots place change → ⊥
past_end [] place change le is = none-some _ is
past_end (slot ∷ slots) zero change le is = absurd (no_suc-le-zero le)
past_end (slot ∷ slots) (suc place) change le is = past_end slots place change (omega arith) is
