-- Items numbered from some number on: how they grow, and how one is found by its number.
use Rattle.std.proofs.Common.{◌≡◌, ◌==◌, ℕ, zero, suc, ◌+◌, ◌-◌, ◌<◌, ◌≤◌, cond, List, [], ◌∷◌, ◌++◌, length, Option}
use Rattle.std.proofs.Common.{Some, None, Bor, find, slice_get, inl, inr, refl, sym, ap, ◌∙◌, arith}
use Rattle.std.specs.Option.{option_copied}
use Rattle.std.specs.Slice.{IsItemAt}
use Rattle.std.proofs.lemmas.Bool.{ltb-true, ltb-false}
use Rattle.std.proofs.lemmas.Bool.Decides.{eqb_tells}
use Rattle.std.proofs.lemmas.Option.{slice_get_past, slice_get_read, slice_get_within}
use Rattle.rb_sequence.specs.Items.{AreNumbered}

-- one more comes behind, under the next number
pub numbered_push : {A : Type 0} (number : A → ℕ) (n : ℕ) (xs : List A) (x : A) → AreNumbered number n xs → number x ≡ n
    + length xs → AreNumbered number n (xs ++ x ∷ [])
numbered_push number n [] x are is = (omega (arith, is), tt)
numbered_push number n (y ∷ xs) x are is = (are.0, numbered_push number (suc n) xs x are.1 (omega (arith, is)))

-- ---- one of a number

-- none has a number below the first
pub none_below : {A : Type 0} (number : A → ℕ) (n : ℕ) (xs : List A) (m : ℕ) → AreNumbered number n xs → m < n
    → find (λ x. number x == m) xs ≡ None
none_below number n [] m are less = refl
none_below number n (x ∷ xs) m are less =
    elim (eqb_tells (number x) m) as (λ w. find (λ y. number y == m) (x ∷ xs) ≡ None) [
      | inl is ↦ absurd (omega (arith, is.1, are.0, less))
      | inr other ↦ ap (λ b. cond b (Some x) (find (λ y. number y == m) xs)) other.0
          ∙ none_below number (suc n) xs m are.1 (omega (arith, less))
    ]

-- the one at place i has number n + i
pub found_at : {A : Type 0} (number : A → ℕ) (n : ℕ) (xs : List A) (i : ℕ) → AreNumbered number n xs
    → find (λ x. number x == n + i) xs ≡ slice_get xs i
found_at number n [] i are = refl
found_at number n (x ∷ xs) zero are =
    elim (eqb_tells (number x) (n + zero)) as (λ w. find (λ y. number y == n + zero) (x ∷ xs) ≡ Some x) [
      | inl is ↦ ap (λ b. cond b (Some x) (find (λ y. number y == n + zero) xs)) is.0
      | inr other ↦ absurd (other.1 (omega (arith, are.0)))
    ]
found_at number n (x ∷ xs) (suc i) are =
    elim (eqb_tells (number x) (n + suc i)) as (λ w. find (λ y. number y == n + suc i) (x ∷ xs) ≡ slice_get xs i) [
      | inl is ↦ absurd (omega (arith, is.1, are.0))
      | inr other ↦
          ap (λ b. cond b (Some x) (find (λ y. number y == n + suc i) xs)) other.0
          ∙ ap (λ (m : ℕ). find (λ y. number y == m) xs) (omega arith)
          ∙ found_at number (suc n) xs i are.1
    ]

-- so of things that are numbered from 1, one's place is the number before its own
pub found_from_one : {A : Type 0} (number : A → ℕ) (xs : List A) (m : ℕ) → AreNumbered number 1 xs → 1 ≤ m
    → find (λ x. number x == m) xs ≡ slice_get xs (m - 1)
found_from_one number xs m are some =
    ap (λ (k : ℕ). find (λ x. number x == k) xs) (omega (arith, some)) ∙ found_at number 1 xs (m - 1) are

-- one that is found has a number from 1 on, and its place is within the list
pub number_from_one : {A : Type 0} (number : A → ℕ) (m : ℕ) (xs : List A) (x : A) → AreNumbered number 1 xs
    → find (λ y. number y == m) xs ≡ Some x → 1 ≤ m
number_from_one number zero xs x are found =
    let none : None ≡ Some x = sym (none_below number 1 xs zero are (omega arith)) ∙ found in
    absurd cc
number_from_one number (suc m) xs x are found = omega arith

pub found_within : {A : Type 0} (number : A → ℕ) (m : ℕ) (xs : List A) (x : A) → AreNumbered number 1 xs
    → find (λ y. number y == m) xs ≡ Some x → m - 1 < length xs
found_within number m xs x are found =
    slice_get_within xs (m - 1) x
    (sym (found_from_one number xs m are (number_from_one number m xs x are found)) ∙ found)

-- ---- as the code finds it

-- what a slice gives for a place is what stands there
pub got : {A : Type 0} (xs : List A) (i : ℕ) (r : Option (Bor A)) → IsItemAt xs i r → option_copied r ≡ slice_get xs i
got xs i None is = sym (slice_get_past xs i (ltb-false i (length xs) (sym is.0)))
got xs i (Some x) is = sym (slice_get_read xs (length xs) i x.now refl (ltb-true i (length xs) (sym is.0)) is.1)

-- a number from 1 on, looked up by its place in the list as it is lent
pub found_by_place : {A : Type 0} (number : A → ℕ) (lent xs : List A) (m place : ℕ) (r : Option (Bor A)) → lent ≡ xs
    → AreNumbered number 1 xs → 1 ≤ m → place ≡ m - 1 → IsItemAt lent place r
    → option_copied r ≡ find (λ x. number x == m) xs
found_by_place number lent xs m place r same are some is got_it =
    got lent place r got_it ∙ ap (λ items. slice_get items place) same ∙ ap (slice_get xs) is
    ∙ sym (found_from_one number xs m are some)
