-- Changesets that are added to a group, and those that it refuses.
use Rattle.std.specs.Prelude.{◌≡◌, ℕ, Bool, false, not, List, [], ◌∷◌, ◌++◌, Option, Some, None}
use Rattle.std.specs.List.{flat_map}
use Rattle.std.specs.Map.{lookup}
use Rattle.cs_model.specs.declared.shape.Shape.{Shape}
use Rattle.cs_model.specs.Schema.{same_bytes, same_shape}
use Rattle.cs_model.specs.Section.{Section}
use Rattle.cs_group.specs.declared.error.GroupError.{GroupError}
use Rattle.cs_group.specs.declared.error.GroupError.TheVariants.{Clash, Memory}
use Rattle.cs_group.specs.Group.{clashes, first_clash}

-- an error reports the first section that can't be combined with those before it, or that memory
-- ran out and there is none
abbrev pub ReportsClash : GroupError → Option ℕ → Type 0
ReportsClash (Clash section) clash = clash ≡ Some section
ReportsClash Memory clash = clash ≡ None

-- the same of private functions, which don't look for a clash once memory ran out
abbrev pub ReportsIfClash : GroupError → Option ℕ → Type 0
ReportsIfClash (Clash section) clash = clash ≡ Some section
ReportsIfClash Memory clash = Unit {0}

-- the sections of changesets, one changeset's after another's
abbrev pub sections_in : List (List Section) → List Section
sections_in changesets = flat_map (λ sections. sections) changesets

-- The first changeset that can't be combined with those before it, by the index of its section that
-- can't.
abbrev pub refused_earliest : Option ℕ → Option ℕ → Option ℕ
refused_earliest None later = later
refused_earliest (Some section) later = Some section

abbrev pub first_refused : List Section → List (List Section) → Option ℕ
first_refused earlier [] = None
first_refused earlier (changeset ∷ changesets) =
    refused_earliest (first_clash earlier changeset)
    (first_refused (earlier ++ changeset) changesets)

-- whether a table differs from the one that is known by its name
abbrev pub differs_by : Option Shape → Shape → Bool
differs_by None shape = false
differs_by (Some known) shape = not (same_shape known shape)

-- the table that is known by this name
abbrev pub known_as : List (List ℕ × Shape) → List ℕ → Option Shape
known_as tables name = lookup (same_bytes name) tables

-- the tables by name tell of each section whether it clashes with these
abbrev pub Knows : List Section → List (List ℕ × Shape) → Type 0
Knows earlier tables = (section : Section)
    → clashes earlier section ≡ differs_by (known_as tables section.shape.name) section.shape
