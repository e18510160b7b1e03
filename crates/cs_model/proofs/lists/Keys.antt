-- The primary key fields of a record, if no column or no field is left.
use Rattle.std.proofs.Common.{◌≡◌, ℕ, ◌≤◌, List, [], ◌∷◌, ◌++◌, length, drop, refl, sym, ap, ◌∙◌}
use Rattle.std.proofs.lemmas.List.{append-nil, drop_all}
use Rattle.cs_model.specs.declared.value.Field.{Field}
use Rattle.cs_model.specs.KeyBytes.{key_bytes}

keys_no_field : (flags : List ℕ) → key_bytes flags [] ≡ []
keys_no_field [] = refl
keys_no_field (flag ∷ flags) = refl

pub no_field_left : (flags made total : List ℕ) (fields : List Field) → fields ≡ [] → made ++ key_bytes flags fields
    ≡ total → made ≡ total
no_field_left flags made total fields none so_far =
    sym (append-nil made)
    ∙ (ap (λ (w : List ℕ). made ++ w)
    (sym (ap (λ (fs : List Field). key_bytes flags fs) none ∙ keys_no_field flags)) ∙ so_far)

pub no_column_left : (i : ℕ) (flags made total : List ℕ) (fields : List Field) → length flags ≤ i → made
    ++ key_bytes (drop i flags) fields ≡ total → made ≡ total
no_column_left i flags made total fields done so_far =
    sym (append-nil made) ∙ (ap (λ (w : List ℕ). made ++ key_bytes w fields) (sym (drop_all i flags done)) ∙ so_far)
