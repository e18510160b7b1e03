-- The place of the byte after the beginning of a text.
use Rattle.std.specs.Prelude.{◌≡◌, ℕ, zero, suc, ◌+◌, ◌-◌, ◌*◌, ◌≤◌, ◌⊎◌, true, false, List, []}
use Rattle.std.specs.Prelude.{◌∷◌, ◌++◌, length, map, None, nat_lt}
use Rattle.std.specs.List.{list_any, list_all, AllByRecursion}
use Rattle.cs_model.specs.declared.value.Field.{Field}
use Rattle.cs_model.specs.declared.shape.Shape.{Shape}
use Rattle.cs_model.specs.declared.change.Op.{Op}
use Rattle.cs_model.specs.declared.change.Op.TheVariants.{Insert, Update, Delete}
use Rattle.cs_model.specs.declared.change.Change.{Change}
use Rattle.cs_model.specs.Section.{Section}
use Rattle.cs_model.specs.Rule.{Rule, meets, row_rule, old_rule, new_rules}
use Rattle.cs_model.specs.Changeset.{IsField, Obeys, IsShape, IsChange, IsChangeset}
use Rattle.cs_model.specs.Varint.{IsVarint}
use Rattle.cs_model.specs.Text.{SpellsField, SpellsEach, op_byte, SpellsChange, SpellsHeader}
use Rattle.cs_model.specs.Text.{SpellsSection}
use Rattle.cs_parse.specs.Place.{BytePlace, Start, Between, InColumns, LastKey, FirstLetter}
use Rattle.cs_parse.specs.Place.{PastName, AtType, InLength, factor, type_refusal}

-- An incomplete number: bytes with the high bit, after each of which a number up to `most` is
-- possible. Their value is `high`, and `left` more may have the high bit.
abbrev pub Unfinished : ℕ → ℕ → ℕ → List ℕ → ℕ → ℕ → Type 0
Unfinished most more so_far [] left high = (left ≡ more) × (high ≡ so_far)
Unfinished most zero so_far (byte ∷ bytes) left high = ⊥
Unfinished most (suc more) so_far (byte ∷ bytes) left high =
    (128 ≤ byte) × (factor more * (128 * so_far + (byte - 128)) ≤ most)
    × Unfinished most more (128 * so_far + (byte - 128)) bytes left high

-- ---- in a header, after its `T`

pub record InNumber (front : List ℕ) (place : BytePlace) : Type 0 where
  pub left : ℕ
  pub high : ℕ
  pub digits : Unfinished 2000 8 0 front left high
  pub stands : place ≡ InColumns left high

pub record OnLastKey (front : List ℕ) (place : BytePlace) : Type 0 where
  pub count : List ℕ
  pub flags : List ℕ
  pub parts : front ≡ count ++ flags
  pub is_count : IsVarint count (suc (length flags))
  pub columns : suc (length flags) ≤ 2000
  pub no_key : list_any (λ flag. nat_lt 0 flag) flags ≡ false
  pub stands : place ≡ LastKey

pub record OnName (front : List ℕ) (place : BytePlace) : Type 0 where
  pub count : List ℕ
  pub flags : List ℕ
  pub parts : front ≡ count ++ flags
  pub is_count : IsVarint count (length flags)
  pub columns : length flags ≤ 2000
  pub key : list_any (λ flag. nat_lt 0 flag) flags ≡ true
  pub stands : place ≡ FirstLetter

pub record AfterName (front : List ℕ) (place : BytePlace) : Type 0 where
  pub count : List ℕ
  pub flags : List ℕ
  pub name : List ℕ
  pub parts : front ≡ count ++ (flags ++ name)
  pub is_count : IsVarint count (length flags)
  pub columns : length flags ≤ 2000
  pub key : list_any (λ flag. nat_lt 0 flag) flags ≡ true
  pub full : length name ≡ 1024
  pub no_zero : list_all (λ byte. nat_lt 0 byte) name ≡ true
  pub stands : place ≡ PastName

abbrev pub InHeader : List ℕ → BytePlace → Type 0
InHeader front place = InNumber front place ⊎ OnLastKey front place ⊎ OnName front place
    ⊎ AfterName front place

-- ---- in a record

-- in the length of a TEXT or a BLOB, after its type byte
pub record InValue (rule : Rule) (front : List ℕ) (place : BytePlace) : Type 0 where
  pub kind : ℕ
  pub digits : List ℕ
  pub left : ℕ
  pub high : ℕ
  pub parts : front ≡ kind ∷ digits
  pub counted : (kind ≡ 3) ⊎ (kind ≡ 4)
  pub taken : type_refusal rule kind ≡ None
  pub unfinished : Unfinished 16777216 8 0 digits left high
  pub stands : place ≡ InLength left high

abbrev pub InField : Rule → List ℕ → BytePlace → Type 0
InField rule front place = ((front ≡ []) × (place ≡ AtType rule)) ⊎ InValue rule front place

-- in one of the fields of a record, after the complete fields before it
abbrev pub InRecord : List Rule → List ℕ → BytePlace → Type 0
InRecord [] front place = ⊥
InRecord (rule ∷ rules) front place =
    InField rule front place
    ⊎ ((text : List ℕ) × (field : Field) × (back : List ℕ) × (front ≡ text ++ back)
    × SpellsField text field × IsField field × (meets rule field ≡ true)
    × InRecord rules back place)

-- ---- in a change

-- in the new record of an UPDATE, after its old one
pub record InNewRecord (flags front : List ℕ) (place : BytePlace) : Type 0 where
  pub old : List ℕ
  pub before : List Field
  pub new : List ℕ
  pub parts : front ≡ old ++ new
  pub is_old : SpellsEach SpellsField old before
  pub obeys : Obeys (map old_rule flags) before
  pub stands : InRecord (new_rules flags before) new place

abbrev pub InRecords : List ℕ → Op → List ℕ → BytePlace → Type 0
InRecords flags Insert front place = InRecord (map row_rule flags) front place
InRecords flags Update front place = InRecord (map old_rule flags) front place
    ⊎ InNewRecord flags front place
InRecords flags Delete front place = InRecord (map row_rule flags) front place

-- after the operation and the indirect byte
pub record InChange (flags front : List ℕ) (place : BytePlace) : Type 0 where
  pub op : Op
  pub mark : ℕ
  pub fields : List ℕ
  pub parts : front ≡ op_byte op ∷ mark ∷ fields
  pub stands : InRecords flags op fields place

-- where a change begins, or in one
abbrev pub AtChange : List ℕ → List ℕ → BytePlace → Type 0
AtChange flags front place = ((front ≡ []) × (place ≡ Between)) ⊎ InChange flags front place

-- ---- in a section, from its `T` on

pub record AfterHeader (front : List ℕ) (place : BytePlace) : Type 0 where
  pub header : List ℕ
  pub shape : Shape
  pub body : List ℕ
  pub changes : List Change
  pub part : List ℕ
  pub parts : front ≡ header ++ (body ++ part)
  pub is_header : SpellsHeader header shape
  pub is_shape : IsShape shape
  pub is_body : SpellsEach SpellsChange body changes
  pub are_changes : AllByRecursion (IsChange shape) changes
  pub stands : AtChange shape.flags part place

abbrev pub InSection : List ℕ → BytePlace → Type 0
InSection front place = ((rest : List ℕ) × (front ≡ 84 ∷ rest) × InHeader rest place)
    ⊎ AfterHeader front place

-- ---- in a text

-- in a section, after those before it
pub record AfterSections (front : List ℕ) (place : BytePlace) : Type 0 where
  pub whole : List ℕ
  pub sections : List Section
  pub part : List ℕ
  pub parts : front ≡ whole ++ part
  pub spelled : SpellsEach SpellsSection whole sections
  pub is_changeset : IsChangeset sections
  pub stands : InSection part place

-- The byte after these is at that place.
abbrev pub Stands : List ℕ → BytePlace → Type 0
Stands front place = ((front ≡ []) × (place ≡ Start)) ⊎ AfterSections front place
