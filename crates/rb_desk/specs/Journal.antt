-- A journal: the steps that its pieces of memory say, in order.
use Rattle.std.specs.Prelude.{ℕ, List, [], ◌∷◌, ◌++◌, replicate}
use Rattle.std.specs.List.{flat_map}
use Rattle.rb_desk.specs.declared.journal.Kept.{Kept}
use Rattle.rb_desk.specs.declared.step.Step.{Step}
use Rattle.rb_desk.specs.declared.step.Step.TheVariants.{Place}

-- What contracts see of a journal: all its steps, and how many more fit without memory. A placement
-- always fits.
pub record Log : Type 0 where
  pub steps : List Step
  pub room : ℕ

-- the placements
abbrev pub placements : ℕ → List Step
placements many = replicate many Place

-- a kept step, after the placements right before it
abbrev pub steps_of : Kept → List Step
steps_of kept = placements kept.placed ++ kept.step ∷ []

-- the steps of all pieces, the last one last, and then so many placements
abbrev pub steps_in : List (List Kept) → List Kept → ℕ → List Step
steps_in full last placed =
    flat_map (flat_map steps_of) full ++ (flat_map steps_of last ++ placements placed)
