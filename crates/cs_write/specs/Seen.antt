-- Groups of borrowed sections, seen as groups of sections.
use Rattle.std.specs.Prelude.{ℕ, List, map}
use Rattle.std.specs.Global.{Vec}
use Rattle.cs_model.specs.declared.shape.Shape.{Shape}
use Rattle.cs_model.specs.Changeset.{all_changes}
use Rattle.cs_model.specs.PackedChanges.{changes_bytes}
use Rattle.cs_model.specs.Section.{Section}
use Rattle.cs_write.specs.Canon.{Group}

-- groups of borrowed sections, as groups of sections
abbrev pub seen : List (Shape × Vec Section) → List Group
seen entries = map (λ entry. (entry.0, entry.1.items)) entries
