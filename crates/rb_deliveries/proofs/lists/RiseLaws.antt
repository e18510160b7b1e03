-- Keys whose slots rise along a list: by their ranks, or by their deliveries' numbers.
use Rattle.std.proofs.Common.{◌≡◌, ℕ, ◌<◌, ◌||◌, Bool, true, false, not, cond, List, [], ◌∷◌, ◌++◌, map, get_or, eqb}
use Rattle.std.proofs.Common.{Option, None, sym, ap, subst, ◌∙◌, ◌⊎◌, inl, inr}
use Rattle.std.proofs.lemmas.Bool.Decides.{eqb_tells}
use Rattle.rb_deliveries.specs.declared.rank.Held.{Held}
use Rattle.rb_deliveries.specs.Queues.{earlier}
use Rattle.rb_deliveries.specs.Taken.{lists_key, held_or, number_of, rank_under, number_under, RisingRanks}
use Rattle.rb_deliveries.specs.Taken.{RisingNumbers}
use Rattle.rb_deliveries.proofs.lists.KeyLaws.{SetsSlot, keys_but, has_behind, has_first, has_later, left_key}
use Rattle.rb_deliveries.proofs.lists.KeyLaws.{pushed_key, key_same, all_keys, key_of_all}

-- keys of which each comes before all that follow it
abbrev pub KeysRise : (ℕ → ℕ → Type 0) → List ℕ → Type 0
KeysRise Before [] = Unit {0}
KeysRise Before (k ∷ keys) = ((other : ℕ) → lists_key other keys ≡ true → Before k other) × KeysRise Before keys

-- the first slot is in line before the second; it has the lesser number
abbrev pub SlotAhead : Option Held → Option Held → Type 0
SlotAhead s t = earlier (held_or s).rank (held_or t).rank ≡ true

abbrev pub IsLess : Option Held → Option Held → Type 0
IsLess s t = number_of (held_or s).span.status < number_of (held_or t).span.status

-- slots rise along a list
abbrev pub SlotsRise : (Option Held → Option Held → Type 0) → List (Option Held) → List ℕ → Type 0
SlotsRise Before slots = KeysRise (λ k other. Before (get_or slots k None) (get_or slots other None))

module _ (Before : ℕ → ℕ → Type 0) where
  keys_left : (key k : ℕ) (keys : List ℕ) → ((other : ℕ) → lists_key other keys ≡ true → Before k other) →
      (other : ℕ) → lists_key other (keys_but key keys) ≡ true → Before k other
  keys_left key k keys before other there = before other (left_key key other keys there).0

  pub rise_but : (key : ℕ) (keys : List ℕ) → KeysRise Before keys → KeysRise Before (keys_but key keys)
  rise_but key [] rises = tt
  rise_but key (k ∷ keys) rises =
      by_key (eqb key k) (keys_left key k keys rises.0) (rise_but key keys rises.1)
    where
      by_key : (b : Bool) → ((other : ℕ) → lists_key other (keys_but key keys) ≡ true → Before k other) →
          KeysRise Before (keys_but key keys) →
          KeysRise Before (cond (not b) (k ∷ keys_but key keys) (keys_but key keys))
      by_key true before rest = rest
      by_key false before rest = (before, rest)

  pub rise_more : (key : ℕ) (keys : List ℕ) → KeysRise Before keys →
      ((k : ℕ) → lists_key k keys ≡ true → Before k key) → KeysRise Before (keys ++ key ∷ [])
  rise_more key [] rises last = (λ other there. absurd cc, tt)
  rise_more key (k ∷ keys) rises last = (
    λ other there. by_where other (last k (has_first k keys)) (pushed_key key other keys there),
    rise_more key keys rises.1 (λ o there. last o (has_later o k keys there)),
  )
    where
      by_where : (other : ℕ) → Before k key → (key ≡ other) ⊎ (lists_key other keys ≡ true) → Before k other
      by_where other here (inl same) = subst (λ o. Before k o) same here
      by_where other here (inr there) = rises.0 other there

  pub rise_split : (front : List ℕ) (key : ℕ) (back : List ℕ) → KeysRise Before (front ++ key ∷ back) →
      (other : ℕ) → lists_key other back ≡ true → Before key other
  rise_split [] key back rises = rises.0
  rise_split (k ∷ front) key back rises = rise_split front key back rises.1

  pub rise_before : (front : List ℕ) (key : ℕ) (back : List ℕ) → KeysRise Before (front ++ key ∷ back) →
      (other : ℕ) → lists_key other front ≡ true → Before other key
  rise_before [] key back rises other there = absurd cc
  rise_before (k ∷ front) key back rises other there = elim (eqb_tells other k) [
    | inl same ↦
        subst (λ o. Before o key) (sym same.1) (rises.0 key (has_behind key front (key ∷ back) (has_first key back)))
    | inr differs ↦
        rise_before front key back rises.1 other (ap (λ b. b || lists_key other front) (sym differs.0) ∙ there)
  ]

pub rise_same : (Old New : ℕ → ℕ → Type 0) (keys : List ℕ) →
    ((k other : ℕ) → lists_key k keys ≡ true → lists_key other keys ≡ true → Old k other → New k other) →
    KeysRise Old keys → KeysRise New keys
rise_same Old New [] same rises = tt
rise_same Old New (k ∷ keys) same rises = (
  λ other there. same k other (has_first k keys) (has_later other k keys there) (rises.0 other there),
  rise_same Old New keys (λ j other here there. same j other (has_later j k keys here) (has_later other k keys there))
      rises.1,
)

-- ---- slots that change

module _ (Before : Option Held → Option Held → Type 0) (old new : List (Option Held)) (key : ℕ) (x : Option Held)
    (sets : SetsSlot key x old new) where
  other_slot : (k : ℕ) → eqb key k ≡ false → get_or new k None ≡ get_or old k None
  other_slot k apart = sets k ∙ ap (λ b. cond b x (get_or old k None)) apart

  own_slot : get_or new key None ≡ x
  own_slot = sets key ∙ ap (λ b. cond b x (get_or old key None)) (key_same key)

  -- without the key that changed
  pub rise_kept : (keys : List ℕ) → ((k : ℕ) → lists_key k keys ≡ true → eqb key k ≡ false) →
      SlotsRise Before old keys →
      SlotsRise Before new keys
  rise_kept keys apart rises =
      rise_same (λ k j. Before (get_or old k None) (get_or old j None))
      (λ k j. Before (get_or new k None) (get_or new j None)) keys
      (λ k j here there before. subst (λ s. Before s (get_or new j None)) (sym (other_slot k (apart k here)))
      (subst (λ s. Before (get_or old k None) s) (sym (other_slot j (apart j there))) before)) rises

  pub rise_gone : (keys : List ℕ) → SlotsRise Before old keys → SlotsRise Before new (keys_but key keys)
  rise_gone keys rises =
      rise_kept (keys_but key keys) (λ k there. (left_key key k keys there).1)
      (rise_but (λ k j. Before (get_or old k None) (get_or old j None)) key keys rises)

  -- with that key at the end
  pub rise_joined : (keys : List ℕ) → ((k : ℕ) → lists_key k keys ≡ true → eqb key k ≡ false) →
      SlotsRise Before old keys →
      ((k : ℕ) → lists_key k keys ≡ true → Before (get_or old k None) x) → SlotsRise Before new (keys ++ key ∷ [])
  rise_joined keys apart rises last =
      rise_more (λ k j. Before (get_or new k None) (get_or new j None)) key keys (rise_kept keys apart rises)
      (λ k there. subst (λ s. Before (get_or new k None) s) (sym own_slot)
      (subst (λ s. Before s x) (sym (other_slot k (apart k there))) (last k there)))

  pub rise_moved : (keys : List ℕ) → SlotsRise Before old keys →
      ((k : ℕ) → lists_key k keys ≡ true → Before (get_or old k None) x) →
      SlotsRise Before new (keys_but key keys ++ key ∷ [])
  rise_moved keys rises last =
      rise_joined (keys_but key keys) (λ k there. (left_key key k keys there).1)
      (rise_but (λ k j. Before (get_or old k None) (get_or old j None)) key keys rises)
      (λ k there. last k (left_key key k keys there).0)

-- ---- the two orders

module _ (slots : List (Option Held)) where
  pub ranks_rise : (keys : List ℕ) → RisingRanks (map (rank_under slots) keys) → SlotsRise SlotAhead slots keys
  ranks_rise [] rises = tt
  ranks_rise (k ∷ keys) rises = (
    λ other there. key_of_all (λ u. earlier (rank_under slots k) u ≡ true)
        (rank_under slots) keys other rises.0 there,
    ranks_rise keys rises.1,
  )

  pub rise_ranks : (keys : List ℕ) → SlotsRise SlotAhead slots keys → RisingRanks (map (rank_under slots) keys)
  rise_ranks [] rises = tt
  rise_ranks (k ∷ keys) rises = (
    all_keys (λ u. earlier (rank_under slots k) u ≡ true) (rank_under slots) keys rises.0,
    rise_ranks keys rises.1,
  )

  pub numbers_in_order : (keys : List ℕ) → RisingNumbers (map (number_under slots) keys) → SlotsRise IsLess slots keys
  numbers_in_order [] rises = tt
  numbers_in_order (k ∷ keys) rises = (
    λ other there. key_of_all (λ m. number_under slots k < m) (number_under slots) keys other rises.0 there,
    numbers_in_order keys rises.1,
  )

  pub in_order_numbers : (keys : List ℕ) → SlotsRise IsLess slots keys → RisingNumbers (map (number_under slots) keys)
  in_order_numbers [] rises = tt
  in_order_numbers (k ∷ keys) rises = (
    all_keys (λ m. number_under slots k < m) (number_under slots) keys rises.0,
    in_order_numbers keys rises.1,
  )
