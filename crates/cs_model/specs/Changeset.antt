-- The shapes, changes and changesets that are valid.
use Rattle.std.specs.Prelude.{◌≡◌, ℕ, ◌<◌, ◌≤◌, true, List, [], ◌∷◌, length, map, nat_lt}
use Rattle.std.specs.Prelude.{FitsSigned, Option, Some, None, slice_get}
use Rattle.std.specs.List.{list_any, list_all, flat_map, AllByRecursion}
use Rattle.std.specs.Int.{w64}
use Rattle.cs_model.specs.declared.value.Value.{Value}
use Rattle.cs_model.specs.declared.value.Value.TheVariants.{Integer, Text, Blob, Null}
use Rattle.cs_model.specs.declared.value.Field.{Field}
use Rattle.cs_model.specs.declared.value.Field.TheVariants.{Undefined, Is}
use Rattle.cs_model.specs.declared.shape.Shape.{Shape}
use Rattle.cs_model.specs.declared.change.Op.{Op}
use Rattle.cs_model.specs.declared.change.Op.TheVariants.{Insert, Update, Delete}
use Rattle.cs_model.specs.declared.change.Change.{Change}
use Rattle.cs_model.specs.Section.{Section}
use Rattle.cs_model.specs.Rule.{Rule, meets, row_rule, old_rule, new_rules}

-- the maximum length of a value and of a whole text, in bytes
abbrev pub most_bytes : ℕ
most_bytes = 16777216

-- an INTEGER has 64 bits, a TEXT or a BLOB at most 16,777,216 bytes
abbrev pub IsValue : Value → Type 0
IsValue (Integer number) = FitsSigned w64 number
IsValue (Text bytes) = length bytes ≤ most_bytes
IsValue (Blob bytes) = length bytes ≤ most_bytes
IsValue Null = Unit {0}

-- a field is undefined, or a value
abbrev pub IsField : Field → Type 0
IsField Undefined = Unit {0}
IsField (Is value) = IsValue value

-- 1 to 2,000 columns, at least one in the key, and a name of 1 to 1,024 bytes without a zero byte
pub record IsShape (shape : Shape) : Type 0 where
  pub columns : 0 < length shape.flags
  pub not_more_columns : length shape.flags ≤ 2000
  pub key : list_any (λ flag. nat_lt 0 flag) shape.flags ≡ true
  pub named : 0 < length shape.name
  pub not_longer : length shape.name ≤ 1024
  pub no_zero : list_all (λ byte. nat_lt 0 byte) shape.name ≡ true

-- a record with one field per rule, each of which follows its rule
abbrev pub Obeys : List Rule → List Field → Type 0
Obeys [] [] = Unit {0}
Obeys [] (field ∷ fields) = ⊥
Obeys (rule ∷ rules) [] = ⊥
Obeys (rule ∷ rules) (field ∷ fields) = IsField field × (meets rule field ≡ true)
    × Obeys rules fields

-- the records of a change with this operation, for a table with these key flags
abbrev pub AreRecords : List ℕ → Op → List Field → List Field → Type 0
AreRecords flags Insert before after = (before ≡ []) × Obeys (map row_rule flags) after
AreRecords flags Update before after = Obeys (map old_rule flags) before
    × Obeys (new_rules flags before) after
AreRecords flags Delete before after = Obeys (map row_rule flags) before × (after ≡ [])

-- a change of a table of this shape
abbrev pub IsChange : Shape → Change → Type 0
IsChange shape change = AreRecords shape.flags change.op change.before change.after

abbrev pub IsSection : Section → Type 0
IsSection section = IsShape section.shape × AllByRecursion (IsChange section.shape) section.changes

-- a changeset is its sections, in order
abbrev pub IsChangeset : List Section → Type 0
IsChangeset sections = AllByRecursion IsSection sections

-- sections of one name have one shape, as those of a table have
abbrev pub AgreeOnShapes : List Section → Type 0
AgreeOnShapes sections = (i j : ℕ) (one other : Section) → slice_get sections i ≡ Some one
    → slice_get sections j ≡ Some other → one.shape.name ≡ other.shape.name
    → one.shape ≡ other.shape

-- the changes of all sections, in order
abbrev pub all_changes : List Section → List Change
all_changes sections = flat_map (λ section. section.changes) sections

-- the shape of the only section, if there is one section and it has no changes
abbrev pub header_alone : Shape → List Change → List Section → Option Shape
header_alone shape [] [] = Some shape
header_alone shape [] (section ∷ sections) = None
header_alone shape (change ∷ changes) sections = None

abbrev pub only_header : List Section → Option Shape
only_header [] = None
only_header (section ∷ rest) = header_alone section.shape section.changes rest
