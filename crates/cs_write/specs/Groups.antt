-- The groups after each section is added, and groups of sections of one table.
use Rattle.std.specs.Prelude.{ℕ, List, [], ◌∷◌, ◌++◌, length, ◌≡◌, if◌then◌else◌}
use Rattle.std.specs.List.{AllByRecursion, flat_map}
use Rattle.cs_model.specs.Section.{Section}
use Rattle.cs_model.specs.Schema.{same_shape}
use Rattle.cs_write.specs.Canon.{Group, joined_section, has_changes}
use Rattle.cs_write.specs.Text.{section_text}

-- the groups with one more section: it joins the group of its shape, or begins a new last one
abbrev pub added : List Group → Section → List Group
added [] section = (section.shape, section ∷ []) ∷ []
added (group ∷ groups) section =
    if same_shape section.shape group.0 then (group.0, group.1 ++ section ∷ []) ∷ groups else group
    ∷ added groups section

-- a section of a table with this number of columns
abbrev pub HasColumns : ℕ → Section → Type 0
HasColumns columns section = length section.shape.flags ≡ columns

-- the sections of a group have the number of columns of its shape
abbrev pub IsAlike : Group → Type 0
IsAlike group = AllByRecursion (HasColumns (length group.0.flags)) group.1
