-- What is complete at the front of some bytes: changes, sections, and a growing changeset with its
-- pending bytes.
use Rattle.std.specs.Prelude.{◌≡◌, ℕ, zero, suc, ◌+◌, ◌-◌, ◌<◌, ◌≤◌, Bool, true, false, List, []}
use Rattle.std.specs.Prelude.{◌∷◌, ◌++◌}
use Rattle.std.specs.Prelude.{length, take, drop, Option, Some, None, Result, Ok, Err, IsTrue}
use Rattle.std.specs.Prelude.{if◌then◌else◌}
use Rattle.std.specs.List.{AllByRecursion}
use Rattle.cs_model.specs.Bytes.{AreBytes}
use Rattle.cs_model.specs.declared.change.Change.{Change}
use Rattle.cs_model.specs.PackedChanges.{AreCanonical, Fit, changes_bytes, unpacked_changes}
use Rattle.cs_model.specs.Changeset.{IsChangeset}
use Rattle.cs_model.specs.Section.{Section}
use Rattle.cs_parse.specs.declared.stop.ParseRefusal.{ParseRefusal}
use Rattle.cs_parse.specs.declared.stop.ParseRefusal.TheVariants.{Short, Bad}
use Rattle.cs_parse.specs.declared.fault.ParseFault.{ParseFault}
use Rattle.cs_parse.specs.Progress.{Progress, Reached, last_flags, with_changes, read_on, arrived}
use Rattle.cs_parse.specs.Progress.{so_far, broken}
use Rattle.cs_parse.specs.declared.fault.ParseError.{ParseError}
use Rattle.cs_parse.specs.declared.fault.ParseError.TheVariants.{Fault, Memory}
use Rattle.cs_parse.specs.Reading.{change_at, ends_section}
use Rattle.cs_parse.specs.Spot.{IsSpot, IsHeaderSpot}
use Rattle.cs_parse.specs.declared.spot.Spot.{Spot}

-- The complete items, the bytes after them, and why the next item isn't read. `why` is `None` if no
-- item follows.
pub record Front (A : Type 0) : Type 0 where
  pub items : List A
  pub rest : List ℕ
  pub why : Option ParseRefusal

abbrev pub after_item : {A : Type 0} → (List ℕ → Front A) → List ℕ
    → Result (A × List ℕ) ParseRefusal → Front A
after_item go_on bytes (Ok item) =
    record {
      items = item.0 ∷ (go_on item.1).items;
      rest = (go_on item.1).rest;
      why = (go_on item.1).why;
    }
after_item go_on bytes (Err why) = record { items = []; rest = bytes; why = Some why }

-- Each item takes one from `fuel`. It doesn't run out if it is at least the number of bytes.
unfoldable pub front_at : {A : Type 0} → (List ℕ → Bool)
    → (List ℕ → Result (A × List ℕ) ParseRefusal) → ℕ → List ℕ → Front A
front_at over read zero bytes = record { items = []; rest = bytes; why = None }
front_at over read (suc fuel) bytes =
    if over bytes then record { items = []; rest = bytes; why = None }
    else after_item (front_at over read fuel) bytes (read bytes)

-- the complete changes of a section
abbrev pub changes_front : List ℕ → List ℕ → Front Change
changes_front flags bytes = front_at ends_section (change_at flags) (length bytes) bytes

-- ---- sections

-- the same result after these sections
abbrev pub prefixed : List Section → Reached → Reached
prefixed sections reached =
    record { sections = sections ++ reached.sections; rest = reached.rest; why = reached.why }

-- The sections read, and either why no more is read, or what the bytes after them give.
abbrev pub sections_reached : List Section → List ℕ → Option ParseRefusal → Reached
sections_reached sections rest None = prefixed sections (read_on [] rest)
sections_reached sections rest (Some why) =
    record { sections = sections; rest = rest; why = Some why }

-- A list of sections grew by the next section of some bytes, as far as it is complete.
pub record NextSection (old new : List Section) (bytes rest : List ℕ) (why : Option ParseRefusal) :
    Type 0 where
  pub sections : List Section
  pub added : new ≡ old ++ sections
  pub read : read_on [] bytes ≡ sections_reached sections rest why
  pub shorter : why ≡ None → length rest < length bytes
  pub fits : AreBytes rest

-- A list of sections went on by the next section of the bytes behind it, or stayed as it was.
abbrev pub ReadsNext : Bool → List Section → List ℕ → List Section → List ℕ → Type 0
ReadsNext true old bytes new rest = NextSection old new bytes rest None
ReadsNext false old bytes new rest = (new ≡ old) × (rest ≡ bytes)

-- ---- a growing changeset

-- The text encodes `count` changes of a table with these key flags. It is in canonical form if
-- `canonical` is true.
pub record JoinsTable (flags text : List ℕ) (count : ℕ) (canonical : Bool) : Type 0 where
  pub fit : AllByRecursion (Fit (length flags)) (unpacked_changes (length flags) text)
  pub many : count ≡ length (unpacked_changes (length flags) text)
  pub packs : IsTrue canonical → AreCanonical (length flags) text

abbrev pub JoinsSection : Option (List ℕ) → List ℕ → ℕ → Bool → Type 0
JoinsSection None text count canonical = (text ≡ []) × (count ≡ 0)
JoinsSection (Some flags) text count canonical = JoinsTable flags text count canonical

-- What is complete at the front of the bytes after sections, the last of whose tables has these key
-- flags. It is the number of changes, the bytes after them, whether they are canonical, and why the
-- next change isn't read.
pub record HeadsTable (flags bytes : List ℕ) (count : ℕ) (rest : List ℕ) (canonical : Bool)
    (why : Option ParseRefusal) : Type 0 where
  pub many : count ≡ length (changes_front flags bytes).items
  pub left : rest ≡ (changes_front flags bytes).rest
  pub own : IsTrue canonical → bytes ≡ changes_bytes (changes_front flags bytes).items
      ++ (changes_front flags bytes).rest
  pub reason : why ≡ (changes_front flags bytes).why

abbrev pub Heads : Option (List ℕ) → List ℕ → ℕ → List ℕ → Bool → Option ParseRefusal → Type 0
Heads None bytes count rest canonical why = (rest ≡ bytes) × (why ≡ None) × (count ≡ 0)
Heads (Some flags) bytes count rest canonical why = HeadsTable flags bytes count rest canonical why

-- What is complete after these changes: sections, the bytes after them, and why no more is read.
-- There are no sections if a change wasn't read.
abbrev pub Tails : Option ParseRefusal → List ℕ → List Section → List ℕ → Option ParseRefusal
    → Type 0
Tails None bytes sections rest why = read_on [] bytes
    ≡ record { sections = sections; rest = rest; why = why }
Tails (Some stopped) bytes sections rest why = (sections ≡ []) × (rest ≡ bytes)
    × (why ≡ Some stopped)

-- why no more is read after these changes: a change wasn't read, or what follows says so
abbrev pub stop_after : Option ParseRefusal → List ℕ → Option ParseRefusal
stop_after None bytes = (read_on [] bytes).why
stop_after (Some stopped) bytes = Some stopped

-- the changes that a text encodes, for a table with these key flags
abbrev pub said_by : Option (List ℕ) → List ℕ → List Change
said_by None text = []
said_by (Some flags) text = unpacked_changes (length flags) text

-- the fault of a text of which `taken` bytes are taken, if a wrong byte stopped the reader
abbrev pub fault_by : ℕ → Option ParseRefusal → Option ParseFault
fault_by taken None = None
fault_by taken (Some Short) = None
fault_by taken (Some (Bad left kind)) = Some (record { at = taken - left; kind = kind })

-- All that is complete after these sections is read, and none of the bytes is wrong: reading on
-- changes nothing.
pub record IsReadOut (sections : List Section) (bytes : List ℕ) : Type 0 where
  pub same : (read_on sections bytes).sections ≡ sections
  pub rest : (read_on sections bytes).rest ≡ bytes
  pub no_fault : (taken : ℕ) → fault_by taken (read_on sections bytes).why ≡ None

-- What the bytes after sections give, if none of them is wrong. `taken` is the number of bytes of
-- the text up to their end. The first `len` bytes are changes of the last section, `more` are the
-- sections after it, and `rest` remains.
pub record Brings (taken len count : ℕ) (canonical : Bool) (more : List Section) (rest : List ℕ)
    (old : List Section) (bytes : List ℕ) : Type 0 where
  pub inside : len ≤ length bytes
  pub joins : JoinsSection (last_flags old) (take len bytes) count canonical
  pub sections : (read_on old bytes).sections
      ≡ with_changes old (said_by (last_flags old) (take len bytes)) ++ more
  pub left : (read_on old bytes).rest ≡ rest
  pub alone : more ≡ [] → rest ≡ drop len bytes
  pub begun : 0 < length more → 0 < length bytes
  pub valid : IsChangeset old
      → IsChangeset (with_changes old (said_by (last_flags old) (take len bytes)))
      × IsChangeset more
  pub no_fault : (n : ℕ) → arrived n taken (read_on old bytes) ≡ so_far n taken (read_on old bytes)

-- Sections and the bytes after them grew by what these encode. None of the bytes is wrong; `taken`
-- is the number of bytes of the text up to their end.
pub record Grown (taken : ℕ) (old new : List Section × List ℕ) : Type 0 where
  pub sections : new.0 ≡ (read_on old.0 old.1).sections
  pub rest : new.1 ≡ (read_on old.0 old.1).rest
  pub no_fault : (n : ℕ) → arrived n taken (read_on old.0 old.1)
      ≡ so_far n taken (read_on old.0 old.1)

-- the fault of the bytes after sections, or memory ran out and none of the bytes is wrong
abbrev pub IsBroken : ParseError → ℕ → List Section → List ℕ → Type 0
IsBroken (Fault fault) taken old bytes = (n : ℕ) → arrived n taken (read_on old bytes)
    ≡ broken fault
IsBroken Memory taken old bytes = (n : ℕ) → arrived n taken (read_on old bytes)
    ≡ so_far n taken (read_on old bytes)

-- Sections and bytes that grew, or the fault. An `Err` changes nothing.
abbrev pub Grows : {A : Type 0} → Result A ParseError → ℕ → List Section × List ℕ → List Section
    × List ℕ → Type 0
Grows (Ok done) taken old new = Grown taken old new
Grows (Err error) taken old new = (new ≡ old) × IsBroken error taken old.0 old.1

-- bytes within the limit were taken, none of which is wrong
pub record TookIn (old : Progress) (bytes : List ℕ) (new : Progress) (reached : Reached) : Type 0
  where
    pub sections : new.sections ≡ reached.sections
    pub pending : new.pending ≡ reached.rest
    pub offset : new.offset ≡ old.offset + length bytes
    pub fault : new.fault ≡ old.fault
    pub no_fault : (len : ℕ) → arrived len (old.offset + length bytes) reached
        ≡ so_far len (old.offset + length bytes) reached

-- The same, or the fault. `Memory` changes nothing. If no bytes are pending, none of these is wrong
-- then.
abbrev pub TakesIn : {A : Type 0} → Result A ParseError → Progress → List ℕ → Progress → Type 0
TakesIn (Ok done) old bytes new = TookIn old bytes new (read_on old.sections (old.pending ++ bytes))
TakesIn (Err (Fault fault)) old bytes new =
    (len : ℕ) → arrived len (old.offset + length bytes)
    (read_on old.sections (old.pending ++ bytes)) ≡ broken fault
TakesIn (Err Memory) old bytes new = (new ≡ old)
    × (old.pending ≡ []
    → IsBroken Memory (old.offset + length bytes) old.sections (old.pending ++ bytes))

-- The bytes after sections belong to a change or a header that was scanned to this spot. The last
-- section's table has these key flags. If there is no section, only a header can begin.
abbrev pub Waits : Option (List ℕ) → List ℕ → Spot → Type 0
Waits None bytes spot = IsHeaderSpot bytes spot
Waits (Some flags) bytes spot = IsSpot flags bytes spot

-- the same with any bytes after these
abbrev pub KeepsSpot : Option (List ℕ) → List ℕ → Spot → Type 0
KeepsSpot flags bytes spot = (more : List ℕ) → AreBytes more → Waits flags (bytes ++ more) spot
