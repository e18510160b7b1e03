-- Sections in their canonical text, one after another, and an index that says where each stands.
use Rattle.std.specs.Prelude.{◌≡◌, ℕ, Option, Some, None, ◌+◌, ◌^◌, ◌<◌, List, [], ◌∷◌, ◌++◌}
use Rattle.std.specs.Prelude.{length, take, drop}
use Rattle.std.specs.List.{AllByRecursion}
use Rattle.cs_model.specs.declared.change.Change.{Change}
use Rattle.cs_model.specs.PackedChanges.{Fit, Long, changes_bytes, unpacked_changes}
use Rattle.cs_model.specs.declared.change.Op.{Op}
use Rattle.cs_model.specs.declared.value.Field.{Field}
use Rattle.cs_model.specs.Section.{Section}
use Rattle.cs_model.specs.Varint.{varint}
use Rattle.cs_model.specs.SectionText.{section_text, sections_text}
use Rattle.cs_model.specs.declared.at.At.{At}

-- the bytes from the key flags on, from the name on, from the changes on, and behind the section
abbrev pub from_flags : At → List ℕ → List ℕ
from_flags at bytes = drop at.head bytes

abbrev pub from_name : At → List ℕ → List ℕ
from_name at bytes = drop at.columns (from_flags at bytes)

abbrev pub from_changes : At → List ℕ → List ℕ
from_changes at bytes = drop 1 (drop at.name (from_name at bytes))

unfoldable pub after_section : At → List ℕ → List ℕ
after_section at bytes = drop at.size (from_changes at bytes)

-- the section at the front of the bytes
unfoldable pub first_section : At → List ℕ → Section
first_section at bytes = record {
  shape = record {
    name = take at.name (from_name at bytes);
    flags = take at.columns (from_flags at bytes);
  };
  changes = unpacked_changes at.columns (take at.size (from_changes at bytes));
}

-- the sections that stand one after another in the bytes
abbrev pub sections_by : List At → List ℕ → List Section
sections_by [] bytes = []
sections_by (at ∷ ats) bytes = first_section at bytes ∷ sections_by ats (after_section at bytes)

-- the numbers are those of the section
pub record IsPlaceOf (at : At) (section : Section) : Type 0 where
  pub head : at.head ≡ 1 + length (varint (length section.shape.flags))
  pub columns : at.columns ≡ length section.shape.flags
  pub name : at.name ≡ length section.shape.name
  pub size : at.size ≡ length (changes_bytes section.changes)
  pub count : at.count ≡ length section.changes

abbrev pub ArePlacesOf : List At → List Section → Type 0
ArePlacesOf [] [] = Unit {0}
ArePlacesOf [] (section ∷ sections) = ⊥
ArePlacesOf (at ∷ ats) [] = ⊥
ArePlacesOf (at ∷ ats) (section ∷ sections) = IsPlaceOf at section × ArePlacesOf ats sections

-- a section whose changes have canonical bytes
abbrev pub FitsSection : Section → Type 0
FitsSection section = AllByRecursion (Fit (length section.shape.flags)) section.changes

-- the bytes are the text of these sections, and the index is theirs
pub record IsText (ats : List At) (bytes : List ℕ) (sections : List Section) : Type 0 where
  pub parts : bytes ≡ sections_text sections
  pub at : ArePlacesOf ats sections
  pub fit : AllByRecursion FitsSection sections

-- the bytes begin with the text of a section, and the numbers are its
pub record StartsSection (at : At) (bytes rest : List ℕ) : Type 0 where
  pub section : Section
  pub is_at : IsPlaceOf at section
  pub fit : FitsSection section
  pub parts : bytes ≡ section_text section ++ rest

-- the index with so many bytes and changes more in the last section
abbrev pub grown_index : List At → ℕ → ℕ → List At
grown_index [] size count = []
grown_index (at ∷ []) size count =
    record at { size = at.size + size; count = at.count + count } ∷ []
grown_index (at ∷ next ∷ ats) size count = at ∷ grown_index (next ∷ ats) size count

-- the last section can have so many bytes and changes more
abbrev pub HasRoomFor : List At → ℕ → ℕ → Type 0
HasRoomFor [] size count = Unit {0}
HasRoomFor (at ∷ []) size count = (at.size + size < 2 ^ 64) × (at.count + count < 2 ^ 64)
HasRoomFor (at ∷ next ∷ ats) size count = HasRoomFor (next ∷ ats) size count

-- the sections with more changes in the last
abbrev pub with_changes : List Section → List Change → List Section
with_changes [] changes = []
with_changes (section ∷ []) changes =
    record { shape = section.shape; changes = section.changes ++ changes } ∷ []
with_changes (section ∷ next ∷ sections) changes = section ∷ with_changes (next ∷ sections) changes

-- there is a last section, and a change with these records has its table's number of columns
abbrev pub LastIsLong : List Section → Op → List Field → List Field → Type 0
LastIsLong [] op before after = ⊥
LastIsLong (section ∷ []) op before after = Long (length section.shape.flags) op before after
LastIsLong (section ∷ next ∷ sections) op before after =
    LastIsLong (next ∷ sections) op before after

-- there is a last section, and these changes have canonical bytes in its table
abbrev pub FitLast : List Section → List Change → Type 0
FitLast [] changes = ⊥
FitLast (section ∷ []) changes = AllByRecursion (Fit (length section.shape.flags)) changes
FitLast (section ∷ next ∷ sections) changes = FitLast (next ∷ sections) changes

-- the key flags of the last section's table
abbrev pub last_flags : List Section → Option (List ℕ)
last_flags [] = None
last_flags (section ∷ []) = Some section.shape.flags
last_flags (section ∷ next ∷ sections) = last_flags (next ∷ sections)

-- there is a last section, and its table has n columns
abbrev pub LastHasColumns : List Section → ℕ → Type 0
LastHasColumns [] n = ⊥
LastHasColumns (section ∷ []) n = length section.shape.flags ≡ n
LastHasColumns (section ∷ next ∷ sections) n = LastHasColumns (next ∷ sections) n

-- the bytes end with the text of a section, and the numbers are its
pub record EndsWithSection (at : At) (bytes : List ℕ) (section : Section) : Type 0 where
  pub front : List ℕ
  pub parts : bytes ≡ front ++ section_text section
  pub is_at : IsPlaceOf at section
  pub fit : FitsSection section
