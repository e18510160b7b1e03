-- The changeset format: which texts encode a changeset.
use Rattle.std.specs.Prelude.{◌≡◌, ℕ, ◌≤◌, Bool, true, false, List, [], ◌∷◌, ◌++◌, length, ◌≢◌}
use Rattle.std.specs.Int.{w64, to_be_bytes, cast_unsigned}
use Rattle.cs_model.specs.declared.value.Value.TheVariants.{Integer, Text, Blob, Null}
use Rattle.cs_model.specs.declared.value.Field.{Field}
use Rattle.cs_model.specs.declared.value.Field.TheVariants.{Undefined, Is}
use Rattle.cs_model.specs.declared.shape.Shape.{Shape}
use Rattle.cs_model.specs.declared.change.Op.{Op}
use Rattle.cs_model.specs.declared.change.Op.TheVariants.{Insert, Update, Delete}
use Rattle.cs_model.specs.declared.change.Change.{Change}
use Rattle.cs_model.specs.Section.{Section}
use Rattle.cs_model.specs.Changeset.{IsChangeset, most_bytes}
use Rattle.cs_model.specs.Varint.{IsVarint}

-- a length, in any encoding, and that number of bytes
pub record SpellsBytes (text bytes : List ℕ) : Type 0 where
  pub count : List ℕ
  pub parts : text ≡ count ++ bytes
  pub is_count : IsVarint count (length bytes)

-- a field: a type byte, and the value after it
abbrev pub SpellsField : List ℕ → Field → Type 0
SpellsField text Undefined = text ≡ 0 ∷ []
SpellsField text (Is (Integer number)) = text ≡ 1 ∷ to_be_bytes w64 (cast_unsigned w64 number)
SpellsField text (Is (Text bytes)) = (rest : List ℕ) × (text ≡ 3 ∷ rest) × SpellsBytes rest bytes
SpellsField text (Is (Blob bytes)) = (rest : List ℕ) × (text ≡ 4 ∷ rest) × SpellsBytes rest bytes
SpellsField text (Is Null) = text ≡ 5 ∷ []

-- one text after another, each an encoding of its item
abbrev pub SpellsEach : {A : Type 0} → (List ℕ → A → Type 0) → List ℕ → List A → Type 0
SpellsEach Spelling text [] = text ≡ []
SpellsEach Spelling text (item ∷ items) =
    (front : List ℕ) × (back : List ℕ) × (text ≡ front ++ back) × Spelling front item
    × SpellsEach Spelling back items

-- the byte of an operation
abbrev pub op_byte : Op → ℕ
op_byte Insert = 18
op_byte Update = 23
op_byte Delete = 9

-- zero is direct, any other byte is indirect
abbrev pub SpellsIndirect : ℕ → Bool → Type 0
SpellsIndirect byte true = byte ≢ 0
SpellsIndirect byte false = byte ≡ 0

-- a change: its operation, its indirect byte, then its old record and its new one, if it has them
pub record SpellsChange (text : List ℕ) (change : Change) : Type 0 where
  pub byte : ℕ
  pub old : List ℕ
  pub new : List ℕ
  pub parts : text ≡ op_byte change.op ∷ byte ∷ (old ++ new)
  pub is_indirect : SpellsIndirect byte change.indirect
  pub is_old : SpellsEach SpellsField old change.before
  pub is_new : SpellsEach SpellsField new change.after

-- a header: `T`, the number of columns, their key flags, the name and a zero byte
pub record SpellsHeader (text : List ℕ) (shape : Shape) : Type 0 where
  pub count : List ℕ
  pub parts : text ≡ 84 ∷ (count ++ shape.flags ++ shape.name ++ 0 ∷ [])
  pub is_count : IsVarint count (length shape.flags)

-- a section: its header, and its changes
pub record SpellsSection (text : List ℕ) (section : Section) : Type 0 where
  pub header : List ℕ
  pub body : List ℕ
  pub parts : text ≡ header ++ body
  pub is_header : SpellsHeader header section.shape
  pub is_body : SpellsEach SpellsChange body section.changes

-- The text encodes the changeset: it has at most 16,777,216 bytes, and is the sections' texts one
-- after another.
pub record Spells (text : List ℕ) (changeset : List Section) : Type 0 where
  pub is_changeset : IsChangeset changeset
  pub within_limit : length text ≤ most_bytes
  pub sections : SpellsEach SpellsSection text changeset
