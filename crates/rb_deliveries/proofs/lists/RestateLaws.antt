-- In spans that rise a number begins at most one, so what changes under its key changes that one alone.
use Rattle.std.proofs.Common.{◌≡◌, ℕ, suc, ◌≤◌, ◌||◌, Bool, true, false, not, cond, List, [], ◌∷◌, map}
use Rattle.std.proofs.Common.{eqb, eq-eqb, Option, refl, sym, ap, ◌∙◌, inl, inr, arith}
use Rattle.std.proofs.lemmas.Bool.Decides.{eqb_tells}
use Rattle.link_lists.specs.Lanes.{Lanes}
use Rattle.rb_deliveries.specs.declared.span.Status.{Status}
use Rattle.rb_deliveries.specs.declared.span.Status.TheVariants.{Ready, InFlight}
use Rattle.rb_deliveries.specs.declared.rank.Held.{Held}
use Rattle.rb_deliveries.specs.declared.rank.Rank.{Rank}
use Rattle.rb_deliveries.specs.Queues.{HeldRise, RiseSome, restated, stated, without_held}
use Rattle.rb_deliveries.specs.Taken.{GoesLast, IsKeyOf, NoSpanBegins, StandsLast, held_in, held_under, lists_key}
use Rattle.rb_deliveries.specs.Taken.{nth_list, with_state}
use Rattle.rb_deliveries.proofs.lists.KeyLaws.{has_first, has_later, keys_but, map_keys}
use Rattle.rb_deliveries.proofs.lists.BeginLaws.{begins_here, begins_key}

-- ---- one span

module _ (f : ℕ → Held) where
  pub begin_later : (low : ℕ) (keys : List ℕ) (next : ℕ) → HeldRise low (map f keys) next → (key : ℕ) →
      lists_key key keys ≡ true → low ≤ (f key).span.first
  begin_later low [] next rise key there = absurd cc
  begin_later low (k ∷ keys) next rise key there = elim (eqb_tells key k) [
    | inl same ↦ let e = ap (λ o. (f o).span.first) same.1 in omega (arith, e, rise.0)
    | inr differs ↦
        let later = begin_later (suc (f k).span.last) keys next rise.2 key
        (ap (λ b. b || lists_key key keys) (sym differs.0) ∙ there) in
        omega (arith, later, rise.0, rise.1)
  ]

  begin_once : (low : ℕ) (keys : List ℕ) (next : ℕ) → HeldRise low (map f keys) next → (j k : ℕ) →
      lists_key j keys ≡ true → lists_key k keys ≡ true → (f j).span.first ≡ (f k).span.first → j ≡ k
  begin_once low [] next rise j k here there same = absurd cc
  begin_once low (q ∷ keys) next rise j k here there same = elim (eqb_tells j q) [
    | inl first ↦ elim (eqb_tells k q) [
      | inl second ↦ first.1 ∙ sym second.1
      | inr other ↦
          let later = begin_later (suc (f q).span.last) keys next rise.2 k
          (ap (λ b. b || lists_key k keys) (sym other.0) ∙ there) in
          let e = ap (λ o. (f o).span.first) first.1 in
          absurd (omega (arith, later, rise.1, e, same))
    ]
    | inr apart ↦ elim (eqb_tells k q) [
      | inl second ↦
          let later = begin_later (suc (f q).span.last) keys next rise.2 j
          (ap (λ b. b || lists_key j keys) (sym apart.0) ∙ here) in
          let e = ap (λ o. (f o).span.first) second.1 in
          absurd (omega (arith, later, rise.1, e, same))
      | inr other ↦
          begin_once (suc (f q).span.last) keys next rise.2 j k (ap (λ b. b || lists_key j keys) (sym apart.0) ∙ here)
          (ap (λ b. b || lists_key k keys) (sym other.0) ∙ there) same
    ]
  ]

-- the key is the only one whose span begins with the number
module _ (lanes : Lanes Held) (first key : ℕ) (is : IsKeyOf lanes first key) (rising : RiseSome (held_in lanes)) where
  pub begins_one : (k : ℕ) → lists_key k (nth_list 0 lanes.second) ≡ true → begins_key lanes.slots first k ≡ eqb key k
  begins_one k there = elim (eqb_tells key k) [
    | inl same ↦
        ap (λ o. begins_key lanes.slots first o) (sym same.1)
        ∙ eq-eqb (held_under lanes.slots key).span.first first is.begins ∙ sym same.0
    | inr differs ↦ by_case (begins_key lanes.slots first k) refl (sym differs.0) differs.1
  ]
    where
      by_case : (b : Bool) → begins_key lanes.slots first k ≡ b → false ≡ eqb key k → (key ≡ k → ⊥) → b ≡ eqb key k
      by_case false fails apart differs = apart
      by_case true holds apart differs =
          absurd (differs (begin_once (held_under lanes.slots) rising.0
          (nth_list 0 lanes.second) rising.1 rising.2 key k
          is.there there (is.begins ∙ sym (begins_here lanes.slots first k holds))))

-- ---- what is made of all

-- where a key's record has this status and rank, its span is restated
pub restated_keys : (old new : List (Option Held)) (first key : ℕ) (status : Status) (rank : Rank) (all : List ℕ) →
    ((k : ℕ) → lists_key k all ≡ true → begins_key old first k ≡ eqb key k) →
    ((k : ℕ) → held_under new k ≡ cond (eqb key k) (with_state status rank (held_under old key)) (held_under old k)) →
    map (held_under new) all ≡ restated first status rank (map (held_under old) all)
restated_keys old new first key status rank all one changed =
    map_keys (held_under new) (λ k. stated first status rank (held_under old k)) all
    (λ k there. changed k ∙ by_key k there)
    ∙ together all
  where
    by_key : (k : ℕ) → lists_key k all ≡ true →
        cond (eqb key k) (with_state status rank (held_under old key)) (held_under old k)
        ≡ stated first status rank (held_under old k)
    by_key k there = elim (eqb_tells key k) [
      | inl same ↦
          ap (λ o. cond (eqb key k) (with_state status rank (held_under old o)) (held_under old k)) same.1
          ∙ ap (λ b. cond b (with_state status rank (held_under old k)) (held_under old k)) (sym (one k there))
      | inr differs ↦
          ap (λ b. cond b (with_state status rank (held_under old key)) (held_under old k)) differs.0
          ∙ ap (λ b. cond b (with_state status rank (held_under old k)) (held_under old k))
          (sym (one k there ∙ differs.0))
    ]

    together : (keys : List ℕ) → map (λ k. stated first status rank (held_under old k)) keys
        ≡ restated first status rank (map (held_under old) keys)
    together [] = refl
    together (k ∷ keys) = ap (λ hs. stated first status rank (held_under old k) ∷ hs) (together keys)

-- where a key leaves, its span is gone
pub without_keys : (old new : List (Option Held)) (first key : ℕ) (all : List ℕ) →
    ((k : ℕ) → lists_key k all ≡ true → begins_key old first k ≡ eqb key k) →
    ((k : ℕ) → eqb key k ≡ false → held_under new k ≡ held_under old k) →
    map (held_under new) (keys_but key all) ≡ without_held first (map (held_under old) all)
without_keys old new first key [] one same = refl
without_keys old new first key (k ∷ all) one same =
    by_key (eqb key k) refl (without_keys old new first key all (λ q there. one q (has_later q k all there)) same)
    ∙ ap (λ b. cond (not b) (held_under old k ∷ without_held first (map (held_under old) all))
    (without_held first (map (held_under old) all))) (sym (one k (has_first k all)))
  where
    by_key : (b : Bool) → eqb key k ≡ b →
        map (held_under new) (keys_but key all) ≡ without_held first (map (held_under old) all) →
        map (held_under new) (cond (not b) (k ∷ keys_but key all) (keys_but key all))
        ≡ cond (not b) (held_under old k ∷ without_held first (map (held_under old) all))
        (without_held first (map (held_under old) all))
    by_key true is rest = rest
    by_key false is rest = λ i. same k is i ∷ rest i

-- where none begins so, all stays
pub restated_absent : (first : ℕ) (status : Status) (rank : Rank) (xs : List Held) → NoSpanBegins first xs →
    restated first status rank xs ≡ xs
restated_absent first status rank [] none = refl
restated_absent first status rank (x ∷ xs) none =
    λ i. cond (none.0 i) (with_state status rank x) x ∷ restated_absent first status rank xs none.1 i

pub without_absent : (first : ℕ) (xs : List Held) → NoSpanBegins first xs → without_held first xs ≡ xs
without_absent first [] none = refl
without_absent first (x ∷ xs) none =
    ap (λ b. cond (not b) (x ∷ without_held first xs) (without_held first xs)) none.0
    ∙ ap (λ ys. x ∷ ys) (without_absent first xs none.1)

-- ---- what stands last

-- what goes last in flight stands last, whatever its rank
pub out_stands_last : (status : Status) (rank : Rank) (xs : List Held) → GoesLast status xs →
    StandsLast status rank xs
out_stands_last (Ready taken) rank xs last = absurd last
out_stands_last (InFlight number moment) rank xs last = last
