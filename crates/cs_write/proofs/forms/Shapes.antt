-- `==` distinguishes shapes.
use Rattle.std.proofs.Common.{◌≡◌, ℕ, Bool, true, false, inl, inr, List, [], ◌∷◌, refl, sym, subst, ◌∙◌}
use Rattle.std.specs.Prelude.{nat_eq}
use Rattle.std.proofs.lemmas.Bool.{cases_Bool, eqb-true, eq-eqb, and_parts, and_from, false≢true}
use Rattle.cs_model.specs.declared.shape.Shape.{Shape}
use Rattle.cs_model.specs.Schema.{same_bytes, same_shape}

bytes_are : (a b : List ℕ) → same_bytes a b ≡ true → a ≡ b
bytes_are [] [] h = refl
bytes_are [] (y ∷ b) h = absurd (false≢true h)
bytes_are (x ∷ a) [] h = absurd (false≢true h)
bytes_are (x ∷ a) (y ∷ b) h =
    let parts = and_parts (nat_eq x y) (same_bytes a b) h in
    (λ i. eqb-true x y parts.0 i ∷ bytes_are a b parts.1 i)

bytes_same : (a : List ℕ) → same_bytes a a ≡ true
bytes_same [] = refl
bytes_same (x ∷ a) = and_from (nat_eq x x) (same_bytes a a) (eq-eqb x x refl) (bytes_same a)

pub shape_is : (a b : Shape) → same_shape a b ≡ true → a ≡ b
shape_is a b h =
    let parts = and_parts (same_bytes a.name b.name) (same_bytes a.flags b.flags) h in
    (λ i. record { name = bytes_are a.name b.name parts.0 i; flags = bytes_are a.flags b.flags parts.1 i })

pub shape_same : (a : Shape) → same_shape a a ≡ true
shape_same a = and_from (same_bytes a.name a.name) (same_bytes a.flags a.flags) (bytes_same a.name) (bytes_same a.flags)

pub flip : (a b : Shape) (answer : Bool) → same_shape a b ≡ answer → same_shape b a ≡ answer
flip a b true h = subst (λ s. same_shape s a ≡ true) (shape_is a b h) (shape_same a)
flip a b false h = elim (cases_Bool (same_shape b a)) [
  | inl yes' ↦ absurd (false≢true (sym h ∙ subst (λ s. same_shape s b ≡ true) (shape_is b a yes') (shape_same b)))
  | inr no' ↦ no'
]
