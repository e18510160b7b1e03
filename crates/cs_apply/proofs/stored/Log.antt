-- The log: one more step, and what undoing it restores.
use Rattle.std.proofs.Common.{◌≡◌, ℕ, zero, suc, List, [], ◌∷◌, ◌++◌, length, take, Option, Some, None, slice_get, refl}
use Rattle.std.proofs.Common.{sym, ap, ◌∙◌, arith, length-append}
use Rattle.std.proofs.lemmas.List.{take-append-le}
use Rattle.std.specs.Map.{values_of}
use Rattle.indexmap.specs.Layout.{set_value_at, length-set_value_at}
use Rattle.cs_model.specs.declared.row_key.RowKey.{RowKey}
use Rattle.cs_model.specs.declared.value.Value.{Value}
use Rattle.cs_apply.specs.declared.places.UndoStep.{UndoStep}
use Rattle.cs_apply.specs.declared.places.Places.{Places}
use Rattle.cs_apply.specs.Steps.{Entries, set_at, undone, Back}

-- the step that was logged last is taken back first
pub undone-push : (log : List UndoStep) (step : UndoStep) (es : Entries) → undone (log ++ step ∷ []) es
    ≡ undone log (set_at step.place step.back es)
undone-push [] step es = refl
undone-push (s ∷ log) step es = ap (set_at s.place s.back) (undone-push log step es)

-- the row that a place had takes a write back
pub taken_back : (es : Entries) (place : ℕ) (row new : Option (List Value)) → slice_get (values_of es) place ≡ Some row
    → set_at place row (set_value_at es place new) ≡ es
taken_back [] place row new at = refl
taken_back (e ∷ es) zero row new at = let old : row ≡ e.1 = cc in ap (λ (r : Option (List Value)). (e.0, r) ∷ es) old
taken_back (e ∷ es) (suc place) row new at = ap (λ (l : Entries). e ∷ l) (taken_back es place row new at)

-- to take a step back writes at its place, where there is one
pub set_value : (es : Entries) (place : ℕ) (row : Option (List Value)) → set_at place row es ≡ set_value_at es place row
set_value [] place row = refl
set_value (e ∷ es) zero row = refl
set_value (e ∷ es) (suc place) row = ap (λ (l : Entries). e ∷ l) (set_value es place row)

pub set_nothing : (es : Entries) (place : ℕ) (row : Option (List Value)) → None ≡ slice_get (values_of es) place
    → set_at place row es ≡ es
set_nothing [] place row at = refl
set_nothing (e ∷ es) zero row at = cc
set_nothing (e ∷ es) (suc place) row at = ap (λ (l : Entries). e ∷ l) (set_nothing es place row at)

-- the places in front don't depend on those behind them
take-set_at : (n place : ℕ) (row : Option (List Value)) (es : Entries) → take n (set_at place row es)
    ≡ set_at place row (take n es)
take-set_at zero place row es = refl
take-set_at (suc n) place row [] = refl
take-set_at (suc n) zero row (e ∷ es) = refl
take-set_at (suc n) (suc place) row (e ∷ es) = ap (λ (l : Entries). e ∷ l) (take-set_at n place row es)

take-undone : (n : ℕ) (log : List UndoStep) (es : Entries) → take n (undone log es) ≡ undone log (take n es)
take-undone n [] es = refl
take-undone n (step ∷ log) es = take-set_at n step.place step.back (undone log es)
    ∙ ap (set_at step.place step.back) (take-undone n log es)

pub Back-trans : (a b c : Places) → Back a b → Back b c → Back a c
Back-trans a b c p q = record { grows = omega arith; back = λ n le. q.back n (omega arith) ∙ p.back n le }

-- a write at a place, and the step that takes it back
pub Back-write : (old new : Places) (place : ℕ) (row written : Option (List Value)) → new.rows.entries
    ≡ set_value_at old.rows.entries place written
    → new.log.items ≡ old.log.items ++ (record { place = place; back = row }) ∷ []
    → slice_get (values_of old.rows.entries) place ≡ Some row → Back old new
Back-write old new place row written rows log at = record {
  grows = omega (arith, ap length rows, length-set_value_at old.rows.entries place written);
  back = λ n le. (λ i. take n (undone (log i) (rows i)))
      ∙ ap (take n) (undone-push old.log.items (record { place = place; back = row })
      (set_value_at old.rows.entries place written)
      ∙ ap (undone old.log.items) (taken_back old.rows.entries place row written at));
}

-- a new place behind the others
pub Back-push : (old new : Places) (e : RowKey × Option (List Value)) → new.rows.entries ≡ old.rows.entries ++ e ∷ []
    → new.log.items ≡ old.log.items → Back old new
Back-push old new e rows log = record {
  grows = omega (arith, ap length rows, length-append old.rows.entries (e ∷ []));
  back = λ n le. (λ i. take n (undone (log i) (rows i))) ∙ take-undone n old.log.items (old.rows.entries ++ e ∷ [])
      ∙ ap (undone old.log.items) (take-append-le n old.rows.entries (e ∷ []) le)
      ∙ sym (take-undone n old.log.items old.rows.entries);
}
