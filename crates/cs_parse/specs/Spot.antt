-- Spots: how far an incomplete change or header was scanned.
use Rattle.std.specs.Prelude.{◌≡◌, ◌==◌, ℕ, ◌+◌, ◌≤◌, ◌<◌, List, ◌∷◌, ◌++◌, length, take, drop, map}
use Rattle.std.specs.Prelude.{position, Option, Some, None, Ok, Err}
use Rattle.cs_model.specs.declared.value.Field.{Field}
use Rattle.cs_model.specs.declared.change.Op.{Op}
use Rattle.cs_model.specs.declared.change.Op.TheVariants.{Insert, Update, Delete}
use Rattle.cs_model.specs.Rule.{Rule, row_rule, old_rule, new_rules}
use Rattle.cs_parse.specs.declared.stop.ParseRefusal.TheVariants.{Short}
use Rattle.cs_parse.specs.declared.spot.Spot.{Spot}
use Rattle.cs_parse.specs.declared.spot.Spot.TheVariants.{Start, Row, Old, New, Name}
use Rattle.cs_parse.specs.Lack.{StaysAt, LacksInHeader, room_at}
use Rattle.cs_parse.specs.Reading.{◌>>=◌, op_of, record_at, change_at, name_at, shape_at}

-- ---- records

-- The front of a record was read; the rules `others` and the bytes `rest` remain. Whatever bytes
-- follow that front, the record begins with its fields. It continues with what the remaining rules
-- read from those bytes.
pub record Passes (rules others : List Rule) (bytes rest : List ℕ) : Type 0 where
  pub fields : List Field
  pub text : List ℕ
  pub parts : bytes ≡ text ++ rest
  pub reads : (back : List ℕ) → record_at rules (text ++ back)
      ≡ (record_at others back >>= λ x. Ok (fields ++ x.0, x.1))

-- `count` fields of a record with these columns were read. If that isn't all of them, the next one
-- is incomplete.
pub record Halts (rule : ℕ → Rule) (flags bytes : List ℕ) (count : ℕ) (rest : List ℕ) : Type 0 where
  pub columns : count ≤ length flags
  pub passes : Passes (map rule flags) (map rule (drop count flags)) bytes rest
  pub short : count < length flags → record_at (map rule (drop count flags)) rest ≡ Err Short

-- The same for an UPDATE's new record, the next field of which is incomplete. The old record's
-- fields from the same column on are read from `old_rest`.
pub record HaltsNew (flags : List ℕ) (before : List Field) (left bytes : List ℕ) (count : ℕ)
    (old_rest rest : List ℕ) : Type 0 where
  pub columns : count ≤ length flags
  pub old_left : record_at (map old_rule (drop count flags)) old_rest ≡ Ok (drop count before, left)
  pub passes : Passes (new_rules flags before) (new_rules (drop count flags) (drop count before))
      bytes rest
  pub short : record_at (new_rules (drop count flags) (drop count before)) rest ≡ Err Short

-- the bytes end with these
abbrev pub IsBack : List ℕ → List ℕ → Type 0
IsBack bytes rest = (front : List ℕ) × (bytes ≡ front ++ rest)

-- ---- changes

-- a change begins with this operation's byte and an indirect byte, and `rest` follows
pub record BeginsChangeOf (op : Op) (bytes rest : List ℕ) : Type 0 where
  pub byte : ℕ
  pub mark : ℕ
  pub parts : bytes ≡ byte ∷ mark ∷ rest
  pub is_op : op_of byte ≡ Some op

-- `fields` fields of the first record of a change were passed, and the next one begins at `place`.
pub record InFirst (op : Op) (rule : ℕ → Rule) (flags bytes : List ℕ) (fields place : ℕ) : Type 0
  where
    pub records : List ℕ
    pub begins : BeginsChangeOf op bytes records
    pub columns : fields ≤ length flags
    pub within : place ≤ length bytes
    pub passes : Passes (map rule flags) (map rule (drop fields flags)) records (drop place bytes)

-- the same, and if not all fields were passed, the next one is incomplete
pub record PassedFirst (op : Op) (rule : ℕ → Rule) (flags bytes : List ℕ) (fields place : ℕ) : Type
    0 where
  pub reached : InFirst op rule flags bytes fields place
  pub short : fields < length flags → record_at (map rule (drop fields flags)) (drop place bytes)
      ≡ Err Short

-- The same for an UPDATE's new record. The old record's field of the next column begins at `old`.
pub record SpotInNew (flags bytes : List ℕ) (fields place old : ℕ) : Type 0 where
  pub records : List ℕ
  pub begins : BeginsChangeOf Update bytes records
  pub before : List Field
  pub left : List ℕ
  pub old_read : record_at (map old_rule flags) records ≡ Ok (before, left)
  pub columns : fields ≤ length flags
  pub within : place ≤ length bytes
  pub old_within : old ≤ length bytes
  pub old_left : record_at (map old_rule (drop fields flags)) (drop old bytes)
      ≡ Ok (drop fields before, left)
  pub passes : Passes (new_rules flags before) (new_rules (drop fields flags) (drop fields before))
      left (drop place bytes)

-- a change with this operation has one record
abbrev pub HasOne : Op → Type 0
HasOne Insert = Unit {0}
HasOne Update = ⊥
HasOne Delete = Unit {0}

-- ---- headers

-- A header was scanned up to its name, of which `letters` nonzero bytes are there. Whatever bytes
-- follow those before the name, the header continues with its name there.
pub record InName (bytes : List ℕ) (place letters : ℕ) : Type 0 where
  pub flags : List ℕ
  pub within : place + letters ≤ length bytes
  pub passes : (back : List ℕ) → shape_at (take place bytes ++ back)
      ≡ (name_at back >>= λ x. Ok (record { name = x.0; flags = flags }, x.1))
  pub no_zero : position (λ byte. byte == 0) (take letters (drop place bytes)) ≡ None

-- ---- spots

-- These bytes begin a change of a table with these key flags, or a header after its changes. They
-- were scanned to this spot.
abbrev pub IsSpot : List ℕ → List ℕ → Spot → Type 0
IsSpot flags bytes Start = Unit {0}
IsSpot flags bytes (Row fields place) = (op : Op) × HasOne op
    × InFirst op row_rule flags bytes fields place
IsSpot flags bytes (Old fields place) = InFirst Update old_rule flags bytes fields place
IsSpot flags bytes (New fields place old) = SpotInNew flags bytes fields place old
IsSpot flags bytes (Name place letters) = InName bytes place letters

-- the same for a header after any table; a spot in a change says nothing of it
abbrev pub IsHeaderSpot : List ℕ → Spot → Type 0
IsHeaderSpot bytes Start = Unit {0}
IsHeaderSpot bytes (Row fields place) = Unit {0}
IsHeaderSpot bytes (Old fields place) = Unit {0}
IsHeaderSpot bytes (New fields place old) = Unit {0}
IsHeaderSpot bytes (Name place letters) = InName bytes place letters

-- The change is still incomplete, and was scanned to this spot. It stays incomplete with more bytes
-- if the item at the spot does.
abbrev pub StaysShort : List ℕ → List ℕ → Option Spot → Type 0
StaysShort flags bytes None = Unit {0}
StaysShort flags bytes (Some spot) =
    (change_at flags bytes ≡ Err Short) × IsSpot flags bytes spot
    × ((more : List ℕ) → StaysAt bytes spot more → change_at flags (bytes ++ more) ≡ Err Short)

-- The header is still incomplete, and was scanned to this spot, which is valid after any table. It
-- stays incomplete until its name would be too long.
abbrev pub StaysHeader : List ℕ → Option Spot → Type 0
StaysHeader bytes None = Unit {0}
StaysHeader bytes (Some spot) = (shape_at bytes ≡ Err Short)
    × ((flags : List ℕ) → IsSpot flags bytes spot) × LacksInHeader bytes (room_at spot)
