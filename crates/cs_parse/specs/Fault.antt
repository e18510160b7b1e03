-- The fault of a text: its place and its kind.
use Rattle.std.specs.Prelude.{◌≡◌, ℕ, suc, ◌<◌, ◌≤◌, ◌⊎◌, List, ◌++◌, length, take, slice_get, Some}
use Rattle.cs_model.specs.Bytes.{AreBytes}
use Rattle.cs_model.specs.Section.{Section}
use Rattle.cs_model.specs.Changeset.{IsChangeset, most_bytes}
use Rattle.cs_model.specs.Text.{SpellsEach, SpellsSection, Spells}
use Rattle.cs_parse.specs.declared.fault.FaultKind.TheVariants.{TooLong, Truncated}
use Rattle.cs_parse.specs.declared.fault.ParseFault.{ParseFault}
use Rattle.cs_parse.specs.Place.{BytePlace, wrong}
use Rattle.cs_parse.specs.Stands.{Stands}

-- The text can be continued to a changeset, if the limit on the whole text is ignored.
pub record Viable (text : List ℕ) : Type 0 where
  pub more : List ℕ
  pub bytes : AreBytes more
  pub sections : List Section
  pub is_changeset : IsChangeset sections
  pub spelled : SpellsEach SpellsSection (text ++ more) sections

-- n is the least number for which the first n + 1 bytes aren't viable
pub record IsFirst (text : List ℕ) (n : ℕ) : Type 0 where
  pub inside : n < length text
  pub dead : Viable (take (suc n) text) → ⊥
  pub alive : (m : ℕ) → m < n → Viable (take (suc m) text)

-- A byte within the limit is the first after which the text isn't viable. What is wrong with it
-- follows from its place.
pub record AtByte (text : List ℕ) (fault : ParseFault) : Type 0 where
  pub first : IsFirst text fault.at
  pub within_limit : fault.at < most_bytes
  pub place : BytePlace
  pub byte : ℕ
  pub is_byte : slice_get text fault.at ≡ Some byte
  pub stands : Stands (take fault.at text) place
  pub is_wrong : wrong place byte ≡ Some fault.kind

-- The text is longer than 16,777,216 bytes, and has no fault within them.
pub record IsTooLong (text : List ℕ) (fault : ParseFault) : Type 0 where
  pub same : fault ≡ record { at = most_bytes; kind = TooLong }
  pub long : most_bytes < length text
  pub so_far : Viable (take most_bytes text)

-- The text ends inside a header or a change.
pub record IsTruncated (text : List ℕ) (fault : ParseFault) : Type 0 where
  pub same : fault ≡ record { at = length text; kind = Truncated }
  pub within_limit : length text ≤ most_bytes
  pub so_far : Viable text
  pub spells_none : (sections : List Section) → Spells text sections → ⊥

-- This is the text's fault.
abbrev pub IsFault : List ℕ → ParseFault → Type 0
IsFault text fault = AtByte text fault ⊎ IsTooLong text fault ⊎ IsTruncated text fault
