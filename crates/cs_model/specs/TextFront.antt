-- Sections of a text: where they stand in it, or in a text of their own.
use Rattle.std.specs.Prelude.{◌≡◌, ℕ, List, length, take}
use Rattle.cs_model.specs.declared.text_changeset.TextSections.{TextSections}
use Rattle.cs_model.specs.declared.text_changeset.TextSections.TheVariants.{InPlace, Copied}
use Rattle.cs_model.specs.Section.{Section}

-- the bytes begin with these
abbrev pub StartsWith : List ℕ → List ℕ → Type 0
StartsWith front bytes = take (length front) bytes ≡ front

-- the sections of a text, where they stand in it or in a text of their own
abbrev pub sections_of_text : TextSections → List Section
sections_of_text (InPlace front) = front.0
sections_of_text (Copied sections) = sections
