-- Numbers cut into spans: what the first span is, and what one more number changes.
use Rattle.std.proofs.Common.{◌≡◌, ℕ, zero, suc, ◌+◌, ◌-◌, ◌<◌, ◌≤◌, min, Bool, true, false, cond, ◌⊎◌, inl, inr, List}
use Rattle.std.proofs.Common.{[], ◌∷◌, ◌++◌, ◌&&◌, ◌==◌, eq-eqb, nat_lt, refl, sym, ap, ◌∙◌, arith}
use Rattle.std.specs.List.{AllByRecursion}
use Rattle.std.proofs.lemmas.Bool.{cases_lt, lt-ltb, le-ltb}
use Rattle.rb_deliveries.specs.declared.span.Span.{Span}
use Rattle.rb_deliveries.specs.declared.span.Status.TheVariants.{Ready}
use Rattle.rb_deliveries.specs.Spans.{fresh, cut_spans, cut_into, grown_spans, last_takes, last_with, takes_one_more}

into_none : (most batch a b : ℕ) → b < a → cut_into most batch a b ≡ []
into_none zero batch a b h = refl
into_none (suc most) batch a b h =
    ap (λ t. cond t [] (fresh a (min (a + batch - 1) b) ∷ cut_into most batch (a + batch) b)) (lt-ltb b a h)

-- as many steps as there are numbers are enough, and more change nothing
cut_enough : (m k batch a b : ℕ) → 1 ≤ batch → suc b - a ≤ m → suc b - a ≤ k → cut_into m batch a b
    ≡ cut_into k batch a b
cut_enough zero zero batch a b one h i = refl
cut_enough zero (suc k) batch a b one h i = sym (into_none (suc k) batch a b (omega arith))
cut_enough (suc m) zero batch a b one h i = into_none (suc m) batch a b (omega arith)
cut_enough (suc m) (suc k) batch a b one h i =
    ap (λ rest. cond (nat_lt b a) [] (fresh a (min (a + batch - 1) b) ∷ rest))
    (cut_enough m k batch (a + batch) b one (omega arith) (omega arith))

-- where there are no numbers there are no spans
pub cut_none : (batch a b : ℕ) → b < a → cut_spans batch a b ≡ []
unfolding cut_spans
cut_none batch a b h = into_none (suc b - a) batch a b h

cut_rest_is : (most batch a b : ℕ) → 1 ≤ batch → a ≤ b → b - a ≤ most → cut_into most batch (a + batch) b
    ≡ cut_spans batch (suc (min (a + batch - 1) b)) b
unfolding cut_spans
cut_rest_is most batch a b one h i =
    elim (cases_lt b (a + batch)) as
    (λ _. cut_into most batch (a + batch) b
    ≡ cut_into (suc b - suc (min (a + batch - 1) b)) batch (suc (min (a + batch - 1) b)) b) [
      | inl less ↦ into_none most batch (a + batch) b less
          ∙ sym (into_none _ batch (suc (min (a + batch - 1) b)) b (omega arith))
      | inr more ↦
          let next : suc (min (a + batch - 1) b) ≡ a + batch = omega arith in
          rw next (cut_enough most (suc b - (a + batch)) batch (a + batch) b one (omega arith) (omega arith))
    ]

first_of_into : (most batch a b : ℕ) → 1 ≤ batch → a ≤ b → suc b - a ≡ most → cut_into most batch a b
    ≡ fresh a (min (a + batch - 1) b) ∷ cut_spans batch (suc (min (a + batch - 1) b)) b
first_of_into zero batch a b one h i = absurd (omega arith)
first_of_into (suc most) batch a b one h i =
    ap (λ t. cond t [] (fresh a (min (a + batch - 1) b) ∷ cut_into most batch (a + batch) b)) (le-ltb b a h)
    ∙ ap (λ rest. fresh a (min (a + batch - 1) b) ∷ rest) (cut_rest_is most batch a b one h (omega arith))

-- the first span has batch numbers, or as many as there are, and the rest is cut behind it
pub cut_some : (batch a b : ℕ) → 1 ≤ batch → a ≤ b → cut_spans batch a b ≡ fresh a (min (a + batch - 1) b)
    ∷ cut_spans batch (suc (min (a + batch - 1) b)) b
unfolding cut_spans
cut_some batch a b one h = first_of_into (suc b - a) batch a b one h refl

-- every span of a cutting is ready and was never taken
abbrev pub CutIsFresh : Span → Type 0
CutIsFresh p = p.status ≡ Ready false

into_fresh : (most batch a b : ℕ) → AllByRecursion CutIsFresh (cut_into most batch a b)
into_fresh zero batch a b = tt
into_fresh (suc most) batch a b = either_fresh (nat_lt b a) (into_fresh most batch (a + batch) b)
  where
    either_fresh : (t : Bool) → AllByRecursion CutIsFresh (cut_into most batch (a + batch) b)
        → AllByRecursion CutIsFresh (cond t [] (fresh a (min (a + batch - 1) b) ∷ cut_into most batch (a + batch) b))
    either_fresh true h = tt
    either_fresh false h = (refl, h)

pub cut_fresh : (batch a b : ℕ) → AllByRecursion CutIsFresh (cut_spans batch a b)
unfolding cut_spans
cut_fresh batch a b = into_fresh (suc b - a) batch a b

-- where the first span of a cutting ends
abbrev pub cut_ends : ℕ → ℕ → ℕ → ℕ
cut_ends batch a b = min (a + batch - 1) b

-- what holds without numbers, and of a first span before what holds of the rest, holds of a cutting
pub cut_induction : (batch b : ℕ) (P : ℕ → List Span → Type 0) → 1 ≤ batch
    → ((a : ℕ) → b < a → P a [])
    → ((a : ℕ) → a ≤ b → P (suc (cut_ends batch a b)) (cut_spans batch (suc (cut_ends batch a b)) b)
    → P a (fresh a (cut_ends batch a b) ∷ cut_spans batch (suc (cut_ends batch a b)) b))
    → (most a : ℕ) → suc b - a ≤ most → P a (cut_spans batch a b)
cut_induction batch b P one none some zero a h = rw (cut_none batch a b (omega arith)) (none a (omega arith))
cut_induction batch b P one none some (suc most) a h =
    by_cases (cases_lt b a) (cut_induction batch b P one none some most (suc (cut_ends batch a b)) (omega arith))
  where
    by_cases : (b < a) ⊎ (a ≤ b) → P (suc (cut_ends batch a b)) (cut_spans batch (suc (cut_ends batch a b)) b)
        → P a (cut_spans batch a b)
    by_cases (inl less) rest = rw (cut_none batch a b less) (none a less)
    by_cases (inr more) rest = rw (cut_some batch a b one more) (some a more rest)

-- a span that can't take one number more stays, and what is behind it grows
pub grown_behind : (batch n : ℕ) (p : Span) (rest : List Span) → takes_one_more batch n p ≡ false
    → grown_spans batch n (p ∷ rest) ≡ p ∷ grown_spans batch n rest
grown_behind batch n p [] h = ap (λ t. cond t (last_with n (p ∷ [])) (p ∷ fresh n n ∷ [])) h
grown_behind batch n p (q ∷ rest) h = either_grown (last_takes batch n (q ∷ rest))
  where
    either_grown : (t : Bool) → cond t (p ∷ last_with n (q ∷ rest)) (p ∷ q ∷ rest ++ fresh n n ∷ []) ≡ p
        ∷ cond t (last_with n (q ∷ rest)) (q ∷ rest ++ fresh n n ∷ [])
    either_grown true = refl
    either_grown false = refl

never_both : (s : Bool) {t : Bool} → t ≡ false → s && t ≡ false
never_both true is = is
never_both false is = refl

-- the cutting of one number more is the cutting, grown by it
pub cut_grows : (batch a b : ℕ) → 1 ≤ batch → a ≤ suc b → grown_spans batch (suc b) (cut_spans batch a b)
    ≡ cut_spans batch a (suc b)
cut_grows batch a b one =
    cut_induction batch b (λ a spans. a ≤ suc b → grown_spans batch (suc b) spans ≡ cut_spans batch a (suc b)) one none
    some (suc b - a) a (omega arith)
  where
    none : (a : ℕ) → b < a → a ≤ suc b → grown_spans batch (suc b) [] ≡ cut_spans batch a (suc b)
    none a h i =
        let same : a ≡ suc b = omega arith in
        let end : cut_ends batch a (suc b) ≡ suc b = omega arith in
        sym (cut_some batch a (suc b) one i
        ∙ rw (cut_none batch (suc (cut_ends batch a (suc b))) (suc b) (omega arith), end, same) refl)

    some : (a : ℕ) → a ≤ b → (suc (cut_ends batch a b) ≤ suc b
        → grown_spans batch (suc b) (cut_spans batch (suc (cut_ends batch a b)) b)
        ≡ cut_spans batch (suc (cut_ends batch a b)) (suc b)) → a ≤ suc b
        → grown_spans batch (suc b) (fresh a (cut_ends batch a b) ∷ cut_spans batch (suc (cut_ends batch a b)) b)
        ≡ cut_spans batch a (suc b)
    some a h rest i = elim (cases_lt b (a + batch - 1)) as
        (λ _. grown_spans batch (suc b) (fresh a (cut_ends batch a b) ∷ cut_spans batch (suc (cut_ends batch a b)) b)
        ≡ cut_spans batch a (suc b)) [
          | inl short ↦
              let end : cut_ends batch a b ≡ b = omega arith in
              let longer : cut_ends batch a (suc b) ≡ suc b = omega arith in
              let whole : cut_spans batch a (suc b) ≡ fresh a (suc b) ∷ [] = cut_some batch a (suc b) one i
              ∙ rw (cut_none batch (suc (cut_ends batch a (suc b))) (suc b) (omega arith), longer) refl in
              rw (cut_none batch (suc (cut_ends batch a b)) b (omega arith), end, whole)
              (λ k. cond (eq-eqb (suc b) (suc b) refl k && lt-ltb (suc b - a) batch (omega arith) k)
              (fresh a (suc b) ∷ []) (fresh a b ∷ fresh (suc b) (suc b) ∷ []))
          | inr full ↦
              let end : cut_ends batch a b ≡ cut_ends batch a (suc b) = omega arith in
              grown_behind batch (suc b) (fresh a (cut_ends batch a b)) (cut_spans batch (suc (cut_ends batch a b)) b)
              (never_both (suc (cut_ends batch a b) == suc b)
              (le-ltb (suc (cut_ends batch a b) - a) batch (omega arith)))
              ∙ ap (λ spans. fresh a (cut_ends batch a b) ∷ spans) (rest (omega arith))
              ∙ sym (rw end (cut_some batch a (suc b) one i))
        ]
