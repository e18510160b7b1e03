-- Lists whose elements all have a property.
use Rattle.std.proofs.Common.{ℕ, zero, suc, List, [], ◌∷◌, ◌++◌, Some, None, refl}
use Rattle.std.specs.List.{AllByRecursion}
use Rattle.cs_model.specs.declared.change.Change.{Change}
use Rattle.cs_group.specs.Table.{Slots, slot_changes}
use Rattle.cs_group.proofs.one_more.Slots.{Holding}

pub all_of_front : {A : Type 0} (P : A → Type 0) (xs ys : List A) → AllByRecursion P (xs ++ ys) → AllByRecursion P xs
all_of_front P [] ys all = tt
all_of_front P (x ∷ xs) ys all = (all.0, all_of_front P xs ys all.1)

pub all_of_back : {A : Type 0} (P : A → Type 0) (xs ys : List A) → AllByRecursion P (xs ++ ys) → AllByRecursion P ys
all_of_back P [] ys all = all
all_of_back P (x ∷ xs) ys all = all_of_back P xs ys all.1

-- each change that slots hold stands in one of them
pub all_held : (P : Change → Type 0) (slots : Slots)
    → ((place : ℕ) (change : Change) → Holding slots place change → P change) → AllByRecursion P (slot_changes slots)
all_held P [] each = tt
all_held P (None ∷ slots) each = all_held P slots (λ place change is. each (suc place) change is)
all_held P (Some first ∷ slots) each =
    (each zero first refl, all_held P slots (λ place change is. each (suc place) change is))
