-- Which keys a list has after one of them leaves or joins, and what a slot has after one is set.
use Rattle.std.proofs.Common.{◌≡◌, ℕ, zero, suc, ◌<◌, ◌||◌, ◌&&◌, Bool, true, false, not, cond, filter, List, [], ◌∷◌}
use Rattle.std.proofs.Common.{◌++◌}
use Rattle.std.proofs.Common.{map, length, get_or, set, eqb, Option, None, IsSome, refl, sym, ap, subst, ◌∙◌}
use Rattle.std.proofs.Common.{◌⊎◌, inl, inr, arith}
use Rattle.std.specs.List.{AllByRecursion}
use Rattle.std.proofs.lemmas.Bool.Decides.{eqb_tells}
use Rattle.std.proofs.lemmas.List.{get_or-set_same, get_or-set_other}
use Rattle.std.proofs.lemmas.List.Folds.{list_any-append}
use Rattle.std.proofs.lemmas.Map.Views.{any-filter_same}
use Rattle.rb_deliveries.specs.Taken.{lists_key}

-- a list without a key
abbrev pub keys_but : ℕ → List ℕ → List ℕ
keys_but key = filter (λ other. not (eqb key other))

-- the slot of one key is this, and the others are what they were
abbrev pub SetsSlot : {X : Type 0} → ℕ → Option X → List (Option X) → List (Option X) → Type 0
SetsSlot key x old new = (other : ℕ) → get_or new other None ≡ cond (eqb key other) x (get_or old other None)

pub key_same : (key : ℕ) → eqb key key ≡ true
key_same key = elim (eqb_tells key key) [ inl same ↦ same.0 | inr differs ↦ absurd (differs.1 refl) ]

pub key_differs : (key other : ℕ) → (key ≡ other → ⊥) → eqb key other ≡ false
key_differs key other apart =
    elim (eqb_tells key other) [ inl same ↦ absurd (apart same.1) | inr differs ↦ differs.0 ]

pub or_else : (b : Bool) → (b || true) ≡ true
or_else true = refl
or_else false = refl

-- ---- what a list has

-- one key is there or not, and each other is as it is
pub has_as : (key : ℕ) (b : Bool) (keys : List ℕ) → lists_key key keys ≡ b → (other : ℕ) →
    lists_key other keys ≡ cond (eqb key other) b (lists_key other keys)
has_as key b keys is other =
    elim (eqb_tells key other) [
      | inl same ↦ ap (λ k. lists_key k keys) (sym same.1) ∙ is ∙ ap (λ t. cond t b (lists_key other keys)) (sym same.0)
      | inr differs ↦ ap (λ t. cond t b (lists_key other keys)) (sym differs.0)
    ]

pub has_but : (key other : ℕ) (keys : List ℕ) → lists_key other (keys_but key keys)
    ≡ cond (eqb key other) false (lists_key other keys)
has_but key other keys =
    any-filter_same (eqb other) (λ k. not (eqb key k)) (not (eqb key other))
    (λ k found. elim (eqb_tells other k) [
      | inl same ↦ ap (λ (o : ℕ). not (eqb key o)) (sym same.1)
      | inr differs ↦ absurd cc
    ]) keys
    ∙ by_key (eqb key other) (lists_key other keys)
  where
    by_key : (b c : Bool) → (not b && c) ≡ cond b false c
    by_key true c = refl
    by_key false c = refl

pub has_pushed : (key other : ℕ) (keys : List ℕ) → lists_key other (keys ++ key ∷ [])
    ≡ cond (eqb key other) true (lists_key other keys)
has_pushed key other keys =
    list_any-append (eqb other) keys (key ∷ [])
    ∙ elim (eqb_tells key other) [
      | inl same ↦
          ap (λ b. lists_key other keys || (b || false)) (subst (λ o. eqb o key ≡ true) same.1 (key_same key))
          ∙ or_else (lists_key other keys) ∙ ap (λ b. cond b true (lists_key other keys)) (sym same.0)
      | inr differs ↦
          ap (λ b. lists_key other keys || (b || false)) (key_differs other key (λ e. differs.1 (sym e)))
          ∙ or_none (lists_key other keys) ∙ ap (λ b. cond b true (lists_key other keys)) (sym differs.0)
    ]
  where
    or_none : (b : Bool) → (b || false) ≡ b
    or_none true = refl
    or_none false = refl

pub has_moved : (key other : ℕ) (keys : List ℕ) → lists_key other (keys_but key keys ++ key ∷ [])
    ≡ cond (eqb key other) true (lists_key other keys)
has_moved key other keys =
    has_pushed key other (keys_but key keys) ∙ ap (cond (eqb key other) true) (has_but key other keys)
    ∙ by_key (eqb key other) (lists_key other keys)
  where
    by_key : (b c : Bool) → cond b true (cond b false c) ≡ cond b true c
    by_key true c = refl
    by_key false c = refl

pub has_not_but : (key : ℕ) (keys : List ℕ) → lists_key key (keys_but key keys) ≡ false
has_not_but key keys = has_but key key keys ∙ ap (λ b. cond b false (lists_key key keys)) (key_same key)

-- what is left is another key that was there
pub left_key : (key other : ℕ) (keys : List ℕ) → lists_key other (keys_but key keys) ≡ true →
    (lists_key other keys ≡ true) × (eqb key other ≡ false)
left_key key other keys there = by_key (eqb key other) (sym (has_but key other keys) ∙ there)
  where
    by_key : (b : Bool) → cond b false (lists_key other keys) ≡ true → (lists_key other keys ≡ true) × (b ≡ false)
    by_key true is = absurd cc
    by_key false is = (is, refl)

pub pushed_key : (key other : ℕ) (keys : List ℕ) → lists_key other (keys ++ key ∷ []) ≡ true →
    (key ≡ other) ⊎ (lists_key other keys ≡ true)
pushed_key key other keys there =
    elim (eqb_tells key other) [
      | inl same ↦ inl same.1
      | inr differs ↦ inr (sym (has_pushed key other keys ∙ ap (λ b. cond b true (lists_key other keys)) differs.0)
          ∙ there)
    ]

-- a key that isn't there is none of those that are
pub not_this_key : (key : ℕ) (keys : List ℕ) → lists_key key keys ≡ false → (other : ℕ) → lists_key other keys ≡ true →
    eqb key other ≡ false
not_this_key key keys free other there =
    key_differs key other (λ same. let clash : false ≡ true = sym free ∙ ap (λ k. lists_key k keys) same ∙ there in
    absurd cc)

pub has_in_front : (key : ℕ) (xs ys : List ℕ) → lists_key key xs ≡ true → lists_key key (xs ++ ys) ≡ true
has_in_front key xs ys there = list_any-append (eqb key) xs ys ∙ ap (λ b. b || lists_key key ys) there

pub has_behind : (key : ℕ) (xs ys : List ℕ) → lists_key key ys ≡ true → lists_key key (xs ++ ys) ≡ true
has_behind key xs ys there =
    list_any-append (eqb key) xs ys ∙ ap (λ b. lists_key key xs || b) there ∙ or_else (lists_key key xs)

pub has_first : (key : ℕ) (keys : List ℕ) → lists_key key (key ∷ keys) ≡ true
has_first key keys = ap (λ b. b || lists_key key keys) (key_same key)

pub has_later : (key first : ℕ) (keys : List ℕ) → lists_key key keys ≡ true → lists_key key (first ∷ keys) ≡ true
has_later key first keys there = ap (λ b. eqb key first || b) there ∙ or_else (eqb key first)

-- ---- what is made of each key

module _ {X : Type 0} where
  pub map_keys : (f g : ℕ → X) (keys : List ℕ) → ((key : ℕ) → lists_key key keys ≡ true → f key ≡ g key) →
      map f keys ≡ map g keys
  map_keys f g [] same = refl
  map_keys f g (k ∷ keys) same =
      let head = same k (has_first k keys) in
      let rest = map_keys f g keys (λ key there. same key (has_later key k keys there)) in
      λ i. head i ∷ rest i

  pub all_keys : (P : X → Type 0) (f : ℕ → X) (keys : List ℕ) → ((key : ℕ) → lists_key key keys ≡ true → P (f key)) →
      AllByRecursion P (map f keys)
  all_keys P f [] holds = tt
  all_keys P f (k ∷ keys) holds =
      (holds k (has_first k keys), all_keys P f keys (λ key there. holds key (has_later key k keys there)))

  pub key_of_all : (P : X → Type 0) (f : ℕ → X) (keys : List ℕ) (key : ℕ) → AllByRecursion P (map f keys) →
      lists_key key keys ≡ true → P (f key)
  key_of_all P f [] key holds there = absurd cc
  key_of_all P f (k ∷ keys) key holds there =
      elim (eqb_tells key k) [
        | inl same ↦ subst (λ o. P (f o)) (sym same.1) holds.0
        | inr differs ↦ key_of_all P f keys key holds.1 (ap (λ b. b || lists_key key keys) (sym differs.0) ∙ there)
      ]

  pub map_through : (e : X → X) (g f : ℕ → X) (keys : List ℕ) →
      ((key : ℕ) → lists_key key keys ≡ true → e (g key) ≡ f key) →
      map e (map g keys) ≡ map f keys
  map_through e g f [] same = refl
  map_through e g f (k ∷ keys) same =
      let head = same k (has_first k keys) in
      let rest = map_through e g f keys (λ key there. same key (has_later key k keys there)) in
      λ i. head i ∷ rest i

  -- ---- slots

  pub slot_set : (slots : List (Option X)) (key : ℕ) (x : Option X) → key < length slots →
      SetsSlot key x slots (set slots key x)
  slot_set slots key x within other =
      elim (eqb_tells key other) [
        | inl same ↦
            subst (λ (o : ℕ). get_or (set slots key x) o None ≡ x) same.1 (get_or-set_same slots key x None within)
            ∙ ap (λ b. cond b x (get_or slots other None)) (sym same.0)
        | inr differs ↦
            get_or-set_other slots key other x None (λ e. differs.1 (sym e))
            ∙ ap (λ b. cond b x (get_or slots other None)) (sym differs.0)
      ]

  pub slot_within : (slots : List (Option X)) (key : ℕ) → IsSome (get_or slots key None) → key < length slots
  slot_within [] key some = absurd cc
  slot_within (s ∷ slots) zero some = omega arith
  slot_within (s ∷ slots) (suc key) some = let less = slot_within slots key some in omega (arith, less)
