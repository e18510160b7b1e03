-- A body is that of one row.
use Rattle.std.proofs.Common.{◌≡◌, ℕ, List, [], ◌∷◌, refl, sym, ap, ◌∙◌}
use Rattle.std.specs.List.{AllByRecursion}
use Rattle.cs_model.specs.Packed.{Fits, unpacked}
use Rattle.cs_model.specs.Row.{row_fields, values_of}
use Rattle.cs_model.specs.declared.value.Value.{Value}
use Rattle.cs_model.proofs.packing.PackedLaws.{packed_unpacked}
use Rattle.replica_store.specs.Changes.{row_body}

values_of_row : (row : List Value) → values_of (row_fields row) ≡ row
values_of_row [] = refl
values_of_row (v ∷ row) = ap (λ (vs : List Value). v ∷ vs) (values_of_row row)

pub body_says : (body : List ℕ) (row : List Value) → body ≡ row_body row → AllByRecursion Fits (row_fields row)
    → values_of (unpacked body) ≡ row
body_says body row is fit = ap (λ b. values_of (unpacked b)) is
    ∙ ap values_of (packed_unpacked (row_fields row) fit) ∙ values_of_row row

pub one_row_of_body : (body : List ℕ) (first second : List Value) → body ≡ row_body first
    → AllByRecursion Fits (row_fields first) → body ≡ row_body second
    → AllByRecursion Fits (row_fields second) → first ≡ second
one_row_of_body body first second one fit_one two fit_two = sym (body_says body first one fit_one)
    ∙ body_says body second two fit_two
