-- What a search along a list finds, and that it is the search among the spans.
use Rattle.std.proofs.Common.{◌≡◌, ℕ, ◌||◌, Bool, true, false, cond, List, [], ◌∷◌, ◌++◌, map, get_or}
use Rattle.std.proofs.Common.{Option, Some, None, IsSome, option_map, find, refl, sym, ap, subst, ◌∙◌, inl, inr, ◌⊎◌}
use Rattle.std.proofs.lemmas.Bool.Decides.{eqb_tells}
use Rattle.rb_deliveries.specs.declared.span.Span.{Span}
use Rattle.rb_deliveries.specs.declared.span.Status.{Status}
use Rattle.rb_deliveries.specs.declared.rank.Held.{Held}
use Rattle.rb_deliveries.specs.Queues.{spans_of}
use Rattle.rb_deliveries.specs.Taken.{lists_key, held_under, held_or, slot_passes}
use Rattle.rb_deliveries.proofs.lists.KeyLaws.{has_first, has_later, pushed_key}
use Rattle.rb_deliveries.proofs.lists.WalkLaws.{IsWalk, walk_at}

-- none of these keys passes a test
abbrev pub NonePass : (ℕ → Bool) → List ℕ → Type 0
NonePass test keys = (key : ℕ) → lists_key key keys ≡ true → test key ≡ false

module _ (test : ℕ → Bool) where
  pub none_pass_more : (key : ℕ) → test key ≡ false → (keys : List ℕ) → NonePass test keys →
      NonePass test (keys ++ key ∷ [])
  none_pass_more key fails keys none other there = by_where (pushed_key key other keys there)
    where
      by_where : (key ≡ other) ⊎ (lists_key other keys ≡ true) → test other ≡ false
      by_where (inl same) = ap test (sym same) ∙ fails
      by_where (inr among) = none other among

  pub find_none : (keys : List ℕ) → NonePass test keys → find test keys ≡ None
  find_none [] none = refl
  find_none (k ∷ keys) none =
      ap (λ b. cond b (Some k) (find test keys)) (none k (has_first k keys))
      ∙ find_none keys (λ key there. none key (has_later key k keys there))

  pub find_at_key : (before : List ℕ) (key : ℕ) (after : List ℕ) → NonePass test before → test key ≡ true →
      find test (before ++ key ∷ after) ≡ Some key
  find_at_key [] key after none holds = ap (λ b. cond b (Some key) (find test after)) holds
  find_at_key (k ∷ before) key after none holds =
      ap (λ b. cond b (Some k) (find test (before ++ key ∷ after))) (none k (has_first k before))
      ∙ find_at_key before key after (λ q there. none q (has_later q k before there)) holds

  pub found_key : (keys : List ℕ) (key : ℕ) → find test keys ≡ Some key →
      (lists_key key keys ≡ true) × (test key ≡ true)
  found_key [] key is = absurd cc
  found_key (k ∷ keys) key is = by_test (test k) refl is (found_key keys key)
    where
      by_test : (b : Bool) → test k ≡ b → cond b (Some k) (find test keys) ≡ Some key →
          (find test keys ≡ Some key → (lists_key key keys ≡ true) × (test key ≡ true)) →
          (lists_key key (k ∷ keys) ≡ true) × (test key ≡ true)
      by_test true holds is later =
          let same : k ≡ key = cc in
          (subst (λ q. lists_key q (k ∷ keys) ≡ true) same (has_first k keys), ap test (sym same) ∙ holds)
      by_test false fails is later = let l = later is in (has_later key k keys l.0, l.1)

  pub found_none : (keys : List ℕ) → find test keys ≡ None → NonePass test keys
  found_none [] is key there = absurd cc
  found_none (k ∷ keys) is key there = by_test (test k) refl is (found_none keys)
    where
      by_test : (b : Bool) → test k ≡ b → cond b (Some k) (find test keys) ≡ None →
          (find test keys ≡ None → NonePass test keys) → test key ≡ false
      by_test true holds is later = absurd cc
      by_test false fails is later = elim (eqb_tells key k) [
        | inl same ↦ ap test same.1 ∙ fails
        | inr differs ↦ later is key (ap (λ b. b || lists_key key keys) (sym differs.0) ∙ there)
      ]

  -- the same keys, of which at most one passes
  pub find_either : (xs ys : List ℕ) → ((key : ℕ) → test key ≡ true → lists_key key xs ≡ lists_key key ys) →
      ((j k : ℕ) → lists_key j xs ≡ true → lists_key k xs ≡ true → test j ≡ true → test k ≡ true → j ≡ k) →
      find test xs ≡ find test ys
  find_either xs ys same once = by_found (find test xs) refl (find test ys) refl
    where
      by_found : (o : Option ℕ) → find test xs ≡ o → (p : Option ℕ) → find test ys ≡ p → find test xs ≡ find test ys
      by_found None none None nothing = none ∙ sym nothing
      by_found None none (Some k) is =
          let f = found_key ys k is in
          let clash : true ≡ false = sym f.1 ∙ found_none xs none k (same k f.1 ∙ f.0) in absurd cc
      by_found (Some j) is None none =
          let f = found_key xs j is in
          let clash : true ≡ false = sym f.1 ∙ found_none ys none j (sym (same j f.1) ∙ f.0) in absurd cc
      by_found (Some j) is (Some k) found =
          let f = found_key xs j is in
          let g = found_key ys k found in
          is ∙ ap (λ (q : ℕ). Some q) (once j k f.0 (same k g.1 ∙ g.0) f.1 g.1) ∙ sym found

  -- ---- along a walk

  pub walk_finds : (whole : List ℕ) (i : ℕ) (at : Option ℕ) (key : ℕ) → IsWalk (NonePass test) whole i at →
      at ≡ Some key → test key ≡ true → find test whole ≡ Some key
  walk_finds whole i at key walk is holds =
      let a = walk_at (NonePass test) whole i at key walk is in
      ap (find test) a.parts ∙ find_at_key a.before key a.after a.so_far holds

-- ---- among the spans

module _ (test : Status → Bool) (slots : List (Option Held)) where
  -- the span of a key's record
  abbrev pub span_under : Option ℕ → Option Span
  span_under = option_map (λ key. (held_under slots key).span)

  pub find_spans : (keys : List ℕ) → ((key : ℕ) → lists_key key keys ≡ true → slot_passes test slots key
      ≡ test (held_under slots key).span.status) →
      find (λ p. test p.status) (spans_of (map (held_under slots) keys)) ≡ span_under
      (find (slot_passes test slots) keys)
  find_spans [] alike = refl
  find_spans (k ∷ keys) alike =
      ap (λ b. cond b (Some (held_under slots k).span) (find (λ p. test p.status)
      (spans_of (map (held_under slots) keys))))
      (sym (alike k (has_first k keys)))
      ∙ by_test (slot_passes test slots k) (find_spans keys (λ key there. alike key (has_later key k keys there)))
    where
      by_test : (b : Bool) → find (λ p. test p.status) (spans_of (map (held_under slots) keys))
          ≡ span_under (find (slot_passes test slots) keys)
          → cond b (Some (held_under slots k).span) (find (λ p. test p.status) (spans_of (map (held_under slots) keys)))
          ≡ span_under (cond b (Some k) (find (slot_passes test slots) keys))
      by_test true rest = refl
      by_test false rest = rest

  -- a record that is there has the span
  pub span_there : (key : ℕ) (r : Option Span) → r ≡ option_map (λ h. h.span) (get_or slots key None) →
      IsSome (get_or slots key None) → r ≡ Some (held_under slots key).span
  span_there key r is some = is ∙ by_slot (get_or slots key None) some
    where
      by_slot : (slot : Option Held) → IsSome slot → option_map (λ h. h.span) slot ≡ Some (held_or slot).span
      by_slot None some = absurd cc
      by_slot (Some h) some = refl
