-- Lower bounds on the number of bytes missing from an incomplete item.
use Rattle.std.specs.Prelude.{◌≡◌, ◌==◌, ℕ, ◌-◌, ◌<◌, Bool, List, [], ◌++◌, length, drop, position}
use Rattle.std.specs.Prelude.{Option, Some, None, Err, IsTrue}
use Rattle.cs_model.specs.Rule.{Rule}
use Rattle.cs_model.specs.Section.{Section}
use Rattle.cs_parse.specs.declared.fault.ParseFault.{ParseFault}
use Rattle.cs_parse.specs.declared.spot.Spot.{Spot}
use Rattle.cs_parse.specs.declared.spot.Spot.TheVariants.{Start, Row, Old, New, Name}
use Rattle.cs_parse.specs.declared.stop.ParseRefusal.TheVariants.{Short}
use Rattle.cs_parse.specs.Progress.{read_on}
use Rattle.cs_parse.specs.Reading.{typed_at, record_at, shape_at}

-- At least `least` bytes are missing from a value after its type byte: with fewer bytes appended,
-- it is still incomplete.
abbrev pub LacksValue : ℕ → List ℕ → ℕ → Type 0
LacksValue byte bytes least = (more : List ℕ) → length more < least → typed_at byte (bytes ++ more)
    ≡ Err Short

-- A record that begins with these bytes and is incomplete is still incomplete with more appended,
-- whatever its rules.
abbrev pub StaysIn : List ℕ → List ℕ → Type 0
StaysIn bytes more = (rules : List Rule) → record_at rules bytes ≡ Err Short
    → record_at rules (bytes ++ more) ≡ Err Short

-- the same for any number of bytes below `least`
abbrev pub LacksIn : List ℕ → ℕ → Type 0
LacksIn bytes least = (more : List ℕ) → length more < least → StaysIn bytes more

-- where the field at a spot begins
abbrev pub place_of : Spot → ℕ
place_of Start = 0
place_of (Row fields place) = place
place_of (Old fields place) = place
place_of (New fields place old) = place
place_of (Name place letters) = place

-- The field at the spot of a change is still incomplete with these bytes appended. If no field was
-- scanned, this is known only for no bytes.
abbrev pub StaysAt : List ℕ → Spot → List ℕ → Type 0
StaysAt bytes Start more = more ≡ []
StaysAt bytes (Row fields place) more = StaysIn (drop place bytes) more
StaysAt bytes (Old fields place) more = StaysIn (drop place bytes) more
StaysAt bytes (New fields place old) more = StaysIn (drop place bytes) more
StaysAt bytes (Name place letters) more = more ≡ []

-- the number of nonzero bytes that make the name at a spot too long
abbrev pub room_at : Spot → ℕ
room_at Start = 1
room_at (Row fields place) = 1
room_at (Old fields place) = 1
room_at (New fields place old) = 1
room_at (Name place letters) = 1025 - letters

-- none of the bytes is zero
abbrev pub HasNoZero : List ℕ → Type 0
HasNoZero bytes = position (λ byte. byte == 0) bytes ≡ None

-- At least `least` nonzero bytes are missing from a header: with fewer appended, it is still
-- incomplete.
abbrev pub LacksInHeader : List ℕ → ℕ → Type 0
LacksInHeader bytes least = (more : List ℕ) → length more < least → HasNoZero more
    → shape_at (bytes ++ more) ≡ Err Short

-- ---- after sections

-- At least `least` bytes are missing from the item that these bytes after sections begin. In a
-- header the bound counts nonzero bytes only. With fewer bytes appended, no item is complete and no
-- byte is wrong.
abbrev pub WaitsFor : List Section → List ℕ → Bool → ℕ → Type 0
WaitsFor sections bytes header least =
    (more : List ℕ) → length more < least → (IsTrue header → HasNoZero more)
    → read_on sections (bytes ++ more)
    ≡ record { sections = sections; rest = bytes ++ more; why = Some Short }

-- Fewer than `least` bytes can be taken without being read; in a header they must be nonzero. There
-- are pending bytes, at least `least` are missing from their item, and there is no fault.
pub record IsPaused (fault : Option ParseFault) (sections : List Section) (bytes : List ℕ)
    (header : Bool) (least : ℕ) : Type 0 where
  pub no_fault : 0 < least → fault ≡ None
  pub some : 0 < least → 0 < length bytes
  pub lacks : WaitsFor sections bytes header least
