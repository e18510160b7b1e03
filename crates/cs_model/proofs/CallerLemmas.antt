-- Lemmas that the dependent crates use too.
use Rattle.std.proofs.Common.{◌≡◌, ℕ, ◌<◌, true, List, [], ◌∷◌, ◌++◌, length, refl, ap, arith}
use Rattle.std.specs.Prelude.{nat_lt, ◌&&◌}
use Rattle.std.specs.List.{AllByRecursion}
use Rattle.std.proofs.lemmas.Bool.Decides.{nat_tests}
use Rattle.cs_model.specs.declared.shape.Shape.{Shape}
use Rattle.cs_model.specs.Changeset.{IsShape}

pub all_append : {X : Type 0} (P : X → Type 0) (xs ys : List X) → AllByRecursion P xs → AllByRecursion P ys
    → AllByRecursion P (xs ++ ys)
all_append P [] ys p q = q
all_append P (x ∷ xs) ys p q = (p.0, all_append P xs ys p.1 q)

pub all_push : {X : Type 0} (P : X → Type 0) (xs : List X) (x : X) → AllByRecursion P xs → P x
    → AllByRecursion P (xs ++ x ∷ [])
all_push P xs x all h = all_append P xs (x ∷ []) all (h, tt)

positive : (n : ℕ) → 0 < n → nat_lt 0 n ≡ true
positive n lt = grind (arith, nat_tests)

-- a table whose name is one letter, and whose first column is in its key
pub one_letter : (shape : Shape) (name : ℕ) (flags : List ℕ) → shape.name ≡ name ∷ [] → shape.flags ≡ 1 ∷ flags
    → length flags < 2000 → 0 < name → IsShape shape
one_letter shape name flags is_name is_flags most lt = record {
  columns = rw is_flags (omega arith);
  not_more_columns = rw is_flags (omega (arith, most));
  key = rw is_flags refl;
  named = rw is_name (omega arith);
  not_longer = rw is_name (omega arith);
  no_zero = rw is_name (ap (λ b. b && true) (positive name lt));
}
