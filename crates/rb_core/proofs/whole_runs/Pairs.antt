-- Lists whose items pair: the items at one index of both. Lists mapped by a function.
use Rattle.std.proofs.Common.{◌≡◌, ℕ, zero, suc, inl, inr, Bool, true, false, cond, List, [], ◌∷◌, ◌++◌, map, Some}
use Rattle.std.proofs.Common.{None, find, refl, sym, ap, subst, ◌∙◌}
use Rattle.std.specs.Prelude.{slice_get, slice_set}
use Rattle.std.specs.List.{AllByRecursion}
use Rattle.std.specs.Option.{option_or}
use Rattle.std.proofs.lemmas.List.Folds.{find-append}
use Rattle.rb_core.specs.Moves.{IsIn}
use Rattle.rb_core.specs.Told.{Paired}

-- ---- lists seen through a function

pub get_of_map : {A B : Type 0} (f : A → B) (xs : List A) (i : ℕ) (y : B) → slice_get (map f xs) i ≡ Some y → (x : A)
    × (slice_get xs i ≡ Some x) × (f x ≡ y)
get_of_map f [] i y e = absurd (cc e)
get_of_map f (x ∷ xs) zero y e =
    let same : f x ≡ y = cc e in
    (x, refl, same)
get_of_map f (x ∷ xs) (suc i) y e = get_of_map f xs i y e

pub map_set : {A B : Type 0} (f : A → B) (xs : List A) (i : ℕ) (x : A) → map f (slice_set xs i x)
    ≡ slice_set (map f xs) i (f x)
map_set f [] i x = refl
map_set f (y ∷ xs) zero x = refl
map_set f (y ∷ xs) (suc i) x = ap (λ zs. f y ∷ zs) (map_set f xs i x)

-- what stands at a place already
pub set_same : {A : Type 0} (xs : List A) (i : ℕ) (x : A) → slice_get xs i ≡ Some x → slice_set xs i x ≡ xs
set_same [] i x e = refl
set_same (y ∷ xs) zero x e =
    let same : x ≡ y = cc (sym e) in
    ap (λ z. z ∷ xs) same
set_same (y ∷ xs) (suc i) x e = ap (λ zs. y ∷ zs) (set_same xs i x e)

-- what is found among things of a kind is of that kind
pub all_find : {A : Type 0} (P : A → Type 0) (test : A → Bool) (xs : List A) (x : A) → AllByRecursion P xs
    → find test xs ≡ Some x → P x
all_find P test [] x all e = absurd (let none : None ≡ Some x = e in cc)
all_find P test (y ∷ xs) x all e = by (test y) e (all_find P test xs x all.1)
  where
    by : (b : Bool) → cond b (Some y) (find test xs) ≡ Some x → (find test xs ≡ Some x → P x) → P x
    by true here rest =
        let same : y ≡ x = cc here in
        subst P same all.0
    by false later rest = rest later

-- ---- lists that pair

pub paired_get : {A B : Type 0} (R : A → B → Type 0) (xs : List A) (ys : List B) (i : ℕ) (x : A) → Paired R xs ys
    → slice_get xs i ≡ Some x → (y : B) × (slice_get ys i ≡ Some y) × R x y
paired_get R [] ys i x all e = absurd (cc e)
paired_get R (z ∷ xs) [] i x all e = absurd all
paired_get R (z ∷ xs) (y ∷ ys) zero x all e =
    let same : z ≡ x = cc e in
    (y, refl, subst (λ w. R w y) same all.0)
paired_get R (z ∷ xs) (y ∷ ys) (suc i) x all e = paired_get R xs ys i x all.1 e

-- what pairs one way pairs another way that follows
pub paired_as : {A B : Type 0} (R S : A → B → Type 0) → ((x : A) (y : B) → R x y → S x y) → (xs : List A)
    (ys : List B) → Paired R xs ys → Paired S xs ys
paired_as R S as_other [] [] all = tt
paired_as R S as_other [] (y ∷ ys) all = absurd all
paired_as R S as_other (x ∷ xs) [] all = absurd all
paired_as R S as_other (x ∷ xs) (y ∷ ys) all = (as_other x y all.0, paired_as R S as_other xs ys all.1)

pub paired_set : {A B : Type 0} (R : A → B → Type 0) (xs : List A) (ys : List B) (i : ℕ) (x : A) (y : B)
    → Paired R xs ys → R x y → Paired R (slice_set xs i x) (slice_set ys i y)
paired_set R [] [] i x y all h = tt
paired_set R [] (v ∷ ys) i x y all h = absurd all
paired_set R (z ∷ xs) [] i x y all h = absurd all
paired_set R (z ∷ xs) (v ∷ ys) zero x y all h = (h, all.1)
paired_set R (z ∷ xs) (v ∷ ys) (suc i) x y all h = (all.0, paired_set R xs ys i x y all.1 h)

pub paired_push : {A B : Type 0} (R : A → B → Type 0) (xs : List A) (ys : List B) (x : A) (y : B) → Paired R xs ys
    → R x y → Paired R (xs ++ x ∷ []) (ys ++ y ∷ [])
paired_push R [] [] x y all h = (h, tt)
paired_push R [] (v ∷ ys) x y all h = absurd all
paired_push R (z ∷ xs) [] x y all h = absurd all
paired_push R (z ∷ xs) (v ∷ ys) x y all h = (all.0, paired_push R xs ys x y all.1 h)

-- ---- things in a list

-- what is found is in the list, and passes the test
pub found_in : {A : Type 0} (test : A → Bool) (xs : List A) (x : A) → find test xs ≡ Some x → IsIn x xs
found_in test [] x e = absurd (let none : None ≡ Some x = e in cc)
found_in test (y ∷ xs) x e = by (test y) e (found_in test xs x)
  where
    by : (b : Bool) → cond b (Some y) (find test xs) ≡ Some x → (find test xs ≡ Some x → IsIn x xs) → IsIn x (y ∷ xs)
    by true here rest = inl (sym (cc here))
    by false later rest = inr (rest later)

pub find_passes : {A : Type 0} (test : A → Bool) (xs : List A) (x : A) → find test xs ≡ Some x → test x ≡ true
find_passes test [] x e = absurd (let none : None ≡ Some x = e in cc)
find_passes test (y ∷ xs) x e = by (test y) refl e (find_passes test xs x)
  where
    by : (b : Bool) → test y ≡ b → cond b (Some y) (find test xs) ≡ Some x → (find test xs ≡ Some x → test x ≡ true)
        → test x ≡ true
    by true is here rest =
        let same : y ≡ x = cc here in
        subst (λ z. test z ≡ true) same is
    by false is later rest = rest later

-- it is found with more after it, and where nothing before it passes
pub found_first : {A : Type 0} (test : A → Bool) (xs ys : List A) (x : A) → find test xs ≡ Some x
    → find test (xs ++ ys) ≡ Some x
found_first test xs ys x e = find-append test xs ys ∙ ap (λ f. option_or f (find test ys)) e

pub found_last : {A : Type 0} (test : A → Bool) (xs : List A) (x : A) → AllByRecursion (λ y. test y ≡ false) xs
    → test x ≡ true → find test (xs ++ x ∷ []) ≡ Some x
found_last test [] x none is = ap (λ b. cond b (Some x) None) is
found_last test (y ∷ xs) x none is =
    ap (λ b. cond b (Some y) (find test (xs ++ x ∷ []))) none.0 ∙ found_last test xs x none.1 is

pub in_front : {A : Type 0} (xs : List A) (x y : A) → IsIn x xs → IsIn x (xs ++ y ∷ [])
in_front [] x y here = absurd here
in_front (z ∷ xs) x y here = elim here as (λ w. IsIn x ((z ∷ xs) ++ y ∷ [])) [
  | inl same ↦ inl same
  | inr rest ↦ inr (in_front xs x y rest)
]

pub in_last : {A : Type 0} (xs : List A) (y : A) → IsIn y (xs ++ y ∷ [])
in_last [] y = inl refl
in_last (z ∷ xs) y = inr (in_last xs y)
