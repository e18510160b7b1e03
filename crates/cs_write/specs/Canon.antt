-- The canonical form of a changeset: one section per shape, and none without changes.
use Rattle.std.specs.Prelude.{Bool, List, [], ◌∷◌, length, map, filter, nat_lt, if◌then◌else◌}
use Rattle.cs_model.specs.declared.shape.Shape.{Shape}
use Rattle.cs_model.specs.Section.{Section}
use Rattle.cs_model.specs.Changeset.{all_changes}
use Rattle.cs_model.specs.Schema.{same_shape, has_shape}

-- A shape, and sections that have it.
abbrev pub Group : Type 0
Group = Shape × List Section

-- the sections with this shape, in order
abbrev pub with_shape : Shape → List Section → List Section
with_shape shape sections = filter (λ section. same_shape section.shape shape) sections

-- The sections by their shapes: each shape at the place of its first section, with all sections
-- that have it. Shapes in `earlier` are left out.
unfoldable pub by_shape : List Shape → List Section → List Group
by_shape earlier [] = []
by_shape earlier (section ∷ sections) =
    if has_shape earlier section.shape then by_shape earlier sections
    else (section.shape, section ∷ with_shape section.shape sections)
    ∷ by_shape (section.shape ∷ earlier) sections

-- one section for a group
abbrev pub joined_section : Group → Section
joined_section group = record { shape = group.0; changes = all_changes group.1 }

abbrev pub has_changes : Section → Bool
has_changes section = nat_lt 0 (length section.changes)

-- The canonical form: one section for each shape, at the place of the first with that shape, with
-- all their changes in order. There is none without changes.
abbrev pub canon_of : List Group → List Section
canon_of groups = filter has_changes (map joined_section groups)

abbrev pub canon : List Section → List Section
canon sections = canon_of (by_shape [] sections)
