-- The canonical text of a changeset.
use Rattle.std.specs.Prelude.{ℕ, List}
pub use Rattle.cs_model.specs.SectionText.{header_text, section_text, sections_text}
use Rattle.cs_model.specs.Section.{Section}
use Rattle.cs_write.specs.Canon.{canon}

-- the canonical text: that of the canonical form, with shortest varints
abbrev pub text_of : List Section → List ℕ
text_of sections = sections_text (canon sections)
