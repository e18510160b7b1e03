-- Marks of withdrawn entries: how they are written, and what is read of them.
use Rattle.std.proofs.Common.{◌≡◌, ℕ, zero, suc, ◌<◌, ◌≤◌, Bool, true, false, List, [], ◌∷◌, ◌++◌, length, slice_set}
use Rattle.std.proofs.Common.{◌-◌, refl, ap, arith}
use Rattle.std.specs.Prelude.{get_or}
use Rattle.rb_core.specs.State.{with_mark}

-- ---- as they are written

-- a mark appended before the place changes nothing
pub mark_push : (place : ℕ) (flags : List Bool) → length flags ≤ place
    → with_mark place (flags ++ false ∷ []) ≡ with_mark place flags
mark_push zero [] few = refl
mark_push zero (flag ∷ flags) few = absurd (omega (arith, few))
mark_push (suc place) [] few = refl
mark_push (suc place) (flag ∷ flags) few =
    ap (λ (xs : List Bool). flag ∷ xs) (mark_push place flags (omega (arith, few)))

-- one appended at the place
pub mark_end : (flags : List Bool) → with_mark (length flags) flags ≡ flags ++ true ∷ []
mark_end [] = refl
mark_end (flag ∷ flags) = ap (λ (xs : List Bool). flag ∷ xs) (mark_end flags)

-- one that is there is replaced
pub mark_set : (place : ℕ) (flags : List Bool) → place < length flags
    → with_mark place flags ≡ slice_set flags place true
mark_set place [] within = absurd (omega (arith, within))
mark_set zero (flag ∷ flags) within = refl
mark_set (suc place) (flag ∷ flags) within =
    ap (λ (xs : List Bool). flag ∷ xs) (mark_set place flags (omega (arith, within)))

-- there are no more of them than a number above the place
pub marks_within : (place : ℕ) (flags : List Bool) (m : ℕ) → place < m → length flags ≤ m
    → length (with_mark place flags) ≤ m
marks_within zero [] m less few = omega (arith, less)
marks_within zero (flag ∷ flags) m less few = omega (arith, few)
marks_within (suc place) [] m less few =
    omega (arith, less, marks_within place [] (m - 1) (omega (arith, less)) (omega arith))
marks_within (suc place) (flag ∷ flags) m less few =
    omega (arith, less, marks_within place flags (m - 1) (omega (arith, less)) (omega (arith, few)))

-- ---- as they are read

pub mark_here : (place : ℕ) (flags : List Bool) → get_or (with_mark place flags) place false ≡ true
mark_here zero [] = refl
mark_here zero (flag ∷ flags) = refl
mark_here (suc place) [] = mark_here place []
mark_here (suc place) (flag ∷ flags) = mark_here place flags

pub mark_other : (place other : ℕ) (flags : List Bool) → (place ≡ other → ⊥)
    → get_or (with_mark place flags) other false ≡ get_or flags other false
mark_other zero zero flags apart = absurd (apart refl)
mark_other zero (suc other) [] apart = refl
mark_other zero (suc other) (flag ∷ flags) apart = refl
mark_other (suc place) zero [] apart = refl
mark_other (suc place) zero (flag ∷ flags) apart = refl
mark_other (suc place) (suc other) [] apart = mark_other place other [] (λ e. apart (ap suc e))
mark_other (suc place) (suc other) (flag ∷ flags) apart = mark_other place other flags (λ e. apart (ap suc e))
