-- A changeset that grows by the changes that a text encodes.
use Rattle.std.specs.Prelude.{ℕ, List}
use Rattle.cs_model.specs.Section.{Section}
use Rattle.cs_parse.specs.Front.{said_by}
use Rattle.cs_parse.specs.Progress.{last_flags, with_changes}

-- the sections, with the changes that a text encodes added to the last one
abbrev pub with_text : List Section → List ℕ → List Section
with_text sections text = with_changes sections (said_by (last_flags sections) text)
