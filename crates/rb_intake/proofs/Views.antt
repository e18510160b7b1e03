-- The views of passes at their places, and what a publisher's number is mapped to.
use Rattle.std.proofs.Common.{◌≡◌, ◌≢◌, ◌⊎◌, inl, inr, ℕ, zero, suc, ◌==◌, List, [], ◌∷◌, ◌++◌, length}
use Rattle.std.proofs.Common.{cond, set, sym, refl, ap, subst, ⊎_elim, Option}
use Rattle.std.specs.List.{AllByRecursion}
use Rattle.std.proofs.lemmas.Bool.Decides.{eqb_tells}
use mathlib.Core.Option.{some, some-ne-none, some-injective}
use lib.ListN.{get_elem?}
use Rattle.crossbeam_queue.proofs.Lists.{at_set}
use Rattle.rb_intake.specs.declared.known.Known.{Known}

-- each view fits its place
abbrev pub EachPass : (ℕ → Known → Type 0) → List Known → Type 0
EachPass Is views = (pass : ℕ) (v : Known) → get_elem? views pass ≡ some v → Is pass v

pub each_pass_set : (Is : ℕ → Known → Type 0) (views : List Known) (pass : ℕ) (w : Known) → Is pass w
    → ((j : ℕ) (u : Known) → j ≢ pass → get_elem? views j ≡ some u → Is j u) → EachPass Is (set views pass w)
each_pass_set Is views pass w mine others j u e =
    ⊎_elim (λ (x : (j ≡ pass) × (w ≡ u)). subst (λ (y : ℕ × Known). Is y.0 y.1) (λ i. (sym x.0 i, x.1 i)) mine)
    (λ (x : (j ≢ pass) × (get_elem? views j ≡ some u)). others j u x.0 x.1) (at_set views pass j w u e)

at_more : (views : List Known) (a b : Known) (j : ℕ) → get_elem? (views ++ a ∷ []) j ≡ some b
    → (get_elem? views j ≡ some b) ⊎ ((j ≡ length views) × (a ≡ b))
at_more [] a b zero e = inr (refl, some-injective a b e)
at_more [] a b (suc j) e = absurd (some-ne-none b (sym e))
at_more (x ∷ views) a b zero e = inl e
at_more (x ∷ views) a b (suc j) e = ⊎_elim (λ t. inl t) (λ t. inr (ap suc t.0, t.1)) (at_more views a b j e)

pub each_pass_more : (Is : ℕ → Known → Type 0) (views : List Known) (a : Known) → EachPass Is views
    → Is (length views) a → EachPass Is (views ++ a ∷ [])
each_pass_more Is views a all last j u e =
    ⊎_elim (λ (x : get_elem? views j ≡ some u). all j u x)
    (λ (x : (j ≡ length views) × (a ≡ u)). subst (λ (y : ℕ × Known). Is y.0 y.1) (λ i. (sym x.0 i, x.1 i)) last)
    (at_more views a u j e)

-- ---- a map with one new value

abbrev pub with_seat : (ℕ → Option ℕ) → ℕ → Option ℕ → ℕ → Option ℕ
with_seat f p o q = cond (p == q) o (f q)

pub here : (f : ℕ → Option ℕ) (p : ℕ) (o : Option ℕ) → with_seat f p o p ≡ o
here f p o = elim (eqb_tells p p) as (λ w. with_seat f p o p ≡ o) [
  | inl same ↦ ap (λ b. cond b o (f p)) same.0
  | inr other ↦ absurd (other.1 refl)
]

pub elsewhere : (f : ℕ → Option ℕ) (p q : ℕ) (o : Option ℕ) → p ≢ q → with_seat f p o q ≡ f q
elsewhere f p q o isnt = elim (eqb_tells p q) as (λ w. with_seat f p o q ≡ f q) [
  | inl same ↦ absurd (isnt same.1)
  | inr other ↦ ap (λ b. cond b o (f q)) other.0
]

-- ---- all of a list

pub all_weaker : {A : Type 0} (P Q : A → Type 0) (xs : List A) → ((x : A) → P x → Q x) → AllByRecursion P xs
    → AllByRecursion Q xs
all_weaker P Q [] f all = tt
all_weaker P Q (x ∷ xs) f all = (f x all.0, all_weaker P Q xs f all.1)

pub all_more : {A : Type 0} (P : A → Type 0) (xs : List A) (y : A) → AllByRecursion P xs → P y
    → AllByRecursion P (xs ++ y ∷ [])
all_more P [] y all last = (last, tt)
all_more P (x ∷ xs) y all last = (all.0, all_more P xs y all.1 last)
