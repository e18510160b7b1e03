-- The canonical text of sections, one after another.
use Rattle.std.specs.Prelude.{ℕ, List, [], ◌∷◌, ◌++◌, length}
use Rattle.std.specs.List.{flat_map}
use Rattle.cs_model.specs.declared.shape.Shape.{Shape}
use Rattle.cs_model.specs.PackedChanges.{changes_bytes}
use Rattle.cs_model.specs.Section.{Section}
use Rattle.cs_model.specs.Varint.{varint}

-- `T`, the number of columns as a shortest varint, their key flags, the name and a zero byte
abbrev pub header_text : Shape → List ℕ
header_text shape = 84 ∷ (varint (length shape.flags) ++ (shape.flags ++ (shape.name ++ 0 ∷ [])))

-- a section: its header, and the bytes of its changes
abbrev pub section_text : Section → List ℕ
section_text section = header_text section.shape ++ changes_bytes section.changes

-- sections: their texts, one after another
abbrev pub sections_text : List Section → List ℕ
sections_text sections = flat_map section_text sections
