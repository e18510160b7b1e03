-- Key columns that stand next to each other have their fields next to each other.
use Rattle.std.proofs.Common.{◌≡◌, ◌∙◌, ℕ, zero, suc, List, [], ◌∷◌, take, drop}
use Rattle.std.proofs.Common.{cond, refl, sym, ap, arith}
use Rattle.std.proofs.lemmas.Bool.{ne_eqb, eq-eqb}
use Rattle.cs_model.specs.declared.value.Field.{Field}
use Rattle.cs_model.specs.KeyBytes.{key_fields}
use Rattle.cs_model.specs.KeyRun.{IsKeyRun}

take_of_none : (i : ℕ) → take {A = Field} i [] ≡ []
take_of_none zero = refl
take_of_none (suc i) = refl

-- the fields in key columns are those of the run
pub run_fields : (flags : List ℕ) (first count : ℕ) → IsKeyRun flags first count → (fields : List Field)
    → key_fields flags fields ≡ take count (drop first fields)
run_fields [] zero zero run fields = refl
run_fields [] zero (suc count) run fields = absurd run
run_fields [] (suc first) count run fields = absurd run
run_fields (flag ∷ flags) zero zero run [] = refl
run_fields (flag ∷ flags) zero (suc count) run [] = refl
run_fields (flag ∷ flags) (suc first) count run [] = sym (take_of_none count)
run_fields (flag ∷ flags) zero zero run (field ∷ fields) =
    ap (λ b. cond b (key_fields flags fields) (field ∷ key_fields flags fields)) (eq-eqb flag 0 run.0)
    ∙ run_fields flags zero zero run.1 fields
run_fields (flag ∷ flags) zero (suc count) run (field ∷ fields) =
    ap (λ b. cond b (key_fields flags fields) (field ∷ key_fields flags fields))
    (ne_eqb flag 0 (λ none. omega (arith, run.0, none)))
    ∙ ap (λ fs. field ∷ fs) (run_fields flags zero count run.1 fields)
run_fields (flag ∷ flags) (suc first) count run (field ∷ fields) =
    ap (λ b. cond b (key_fields flags fields) (field ∷ key_fields flags fields)) (eq-eqb flag 0 run.0)
    ∙ run_fields flags first count run.1 fields
