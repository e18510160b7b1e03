-- Changesets applied one after another.
use Rattle.std.specs.Prelude.{◌≡◌, List, Ok}
use Rattle.cs_model.specs.Section.{Section}
use Rattle.cs_apply.specs.Single.{single}
use Rattle.cs_apply.specs.State.{TableState}

-- `some` applies without conflict, and then `more` to the result
abbrev pub AppliesBoth : TableState → List Section → List Section → TableState → Type 0
AppliesBoth old some more new = (mid : TableState) × (single old some ≡ Ok mid)
    × (single mid more ≡ Ok new)
