-- Which rows a query over one table shows, where it neither sorts nor groups.
use Rattle.std.proofs.Common.{◌≡◌, inl, inr, List, [], ◌∷◌, Bool, true, false, cond, length, flat_map}
use Rattle.std.proofs.Common.{refl, arith}
use Rattle.std.specs.List.Sorted.{IsPermutation}
use Rattle.sqlite_trees.proofs.ListLemmas.{all-permutation}
use Rattle.sqlite_rules.specs.Lists.{Has}
use Rattle.sqlite_rules.proofs.ListLemmas.{all_has, all_from, has_left, has_right, has_either}

one_shown : {Y : Type 0} (b : Bool) (v y : Y) → Has (cond b (v ∷ []) []) y → (b ≡ true) × (y ≡ v)
one_shown true v y (inl same) = (refl, same)
one_shown true v y (inr none) = absurd none
one_shown false v y h = absurd h

module _ {X Y : Type 0} (test : X → Bool) (show : X → Y) where
  -- what is shown of the rows that pass
  abbrev pub shown_of : List X → List Y
  shown_of xs = flat_map (λ x. cond (test x) (show x ∷ []) []) xs

  pub shown_is : (xs : List X) (y : Y) → Has (shown_of xs) y → (x : X) × Has xs x × (test x ≡ true) × (y ≡ show x)
  shown_is [] y h = absurd h
  shown_is (x ∷ xs) y h = elim (has_either (cond (test x) (show x ∷ []) []) (shown_of xs) y h) [
    | inl here ↦ let it = one_shown (test x) (show x) y here in (x, inl refl, it.0, it.1)
    | inr there ↦ let it = shown_is xs y there in (it.0, inr it.1, it.2, it.3)
  ]

  pub is_shown : (xs : List X) (x : X) → Has xs x → test x ≡ true → Has (shown_of xs) (show x)
  is_shown [] x h passes = absurd h
  is_shown (z ∷ xs) x (inl same) passes =
      has_left (cond (test z) (show z ∷ []) []) (shown_of xs) (show x) (rw (← same, passes) (inl refl))
  is_shown (z ∷ xs) x (inr later) passes =
      has_right (cond (test z) (show z ∷ []) []) (shown_of xs) (show x) (is_shown xs x later passes)

pub has_permuted : {X : Type 0} (xs ys : List X) (x : X) → IsPermutation xs ys → Has ys x → Has xs x
has_permuted xs ys x same =
    all_has (Has xs) ys x (all-permutation (Has xs) xs ys same (all_from (Has xs) xs (λ e h. h)))

pub no_row_has : {X : Type 0} (xs : List X) (x : X) → length xs ≡ 0 → Has xs x → ⊥
no_row_has [] x none h = h
no_row_has (y ∷ xs) x none h = omega arith

pub some_has : {X : Type 0} (xs : List X) → (length xs ≡ 0 → ⊥) → (x : X) × Has xs x
some_has [] some = absurd (some refl)
some_has (y ∷ xs) some = (y, inl refl)
