-- Changesets that are their own canonical form.
use Rattle.std.specs.Prelude.{◌≡◌, ◌≢◌, List, [], ◌∷◌, ◌++◌, Option, Some, None, true, false}
use Rattle.std.specs.List.{list_any}
use Rattle.cs_model.specs.declared.shape.Shape.{Shape}
use Rattle.cs_model.specs.Schema.{same_shape}
use Rattle.cs_model.specs.Section.{Section}
use Rattle.cs_write.specs.Canon.{canon, has_changes}

-- each section has changes, and a shape that none has before it
abbrev pub AreOwn : List Shape → List Section → Type 0
AreOwn earlier [] = Unit {0}
AreOwn earlier (section ∷ sections) = (has_changes section ≡ true)
    × (list_any (same_shape section.shape) earlier ≡ false)
    × AreOwn (earlier ++ section.shape ∷ []) sections

-- The canonical form stands beside a changeset that isn't in that form itself, and none beside one
-- that is.
abbrev pub IsFormBeside : List Section → Option (List Section) → Type 0
IsFormBeside sections None = canon sections ≡ sections
IsFormBeside sections (Some form) = (form ≡ canon sections) × (canon sections ≢ sections)
