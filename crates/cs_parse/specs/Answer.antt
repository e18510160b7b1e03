-- The result of `parse`, compared with what a text encodes and with what reading it gives.
use Rattle.std.specs.Prelude.{◌≡◌, ℕ, List, Result, Ok, Err, IsOk}
use Rattle.std.specs.Borrow.{Bor}
use Rattle.cs_model.specs.Section.{Section}
use Rattle.cs_model.specs.Text.{Spells}
use Rattle.cs_parse.specs.declared.fault.ParseFault.{ParseFault}
use Rattle.cs_parse.specs.declared.fault.ParseError.{ParseError}
use Rattle.cs_parse.specs.declared.fault.ParseError.TheVariants.{Fault, Memory}
use Rattle.cs_parse.specs.Fault.{IsFault}

-- the result is this changeset, or memory ran out
abbrev pub IsRead : Result (List Section) ParseError → List Section → Type 0
IsRead (Ok found) changeset = found ≡ changeset
IsRead (Err (Fault fault)) changeset = ⊥
IsRead (Err Memory) changeset = Unit {0}

-- The result is this one, or memory ran out. Memory runs out only if this one is a changeset.
abbrev pub ParseAnswers : Result (List Section) ParseError → Result (List Section) ParseFault
    → Type 0
ParseAnswers (Ok found) answer = answer ≡ Ok found
ParseAnswers (Err (Fault fault)) answer = answer ≡ Err fault
ParseAnswers (Err Memory) answer = IsOk answer

-- the text encodes a changeset
abbrev pub IsSpelled : List ℕ → Type 0
IsSpelled text = (changeset : List Section) × Spells text changeset

-- the error reports the text's fault, or that memory ran out and the text encodes a changeset
abbrev pub ReportsFault : ParseError → List ℕ → Type 0
ReportsFault (Fault fault) text = IsFault text fault
ReportsFault Memory text = IsSpelled text

-- the text encodes one changeset, and has no fault
pub record HasChangeset (text : List ℕ) : Type 0 where
  pub sections : List Section
  pub spelled : Spells text sections
  pub only : (others : List Section) → Spells text others → others ≡ sections
  pub no_fault : (fault : ParseFault) → IsFault text fault → ⊥

-- the text has one fault, and encodes no changeset
pub record HasFault (text : List ℕ) : Type 0 where
  pub fault : ParseFault
  pub is_fault : IsFault text fault
  pub only : (others : ParseFault) → IsFault text others → others ≡ fault
  pub spells_none : (sections : List Section) → Spells text sections → ⊥

-- the result is this one, and borrows the changeset
abbrev pub Shows : Result (Bor (List Section)) ParseFault → Result (List Section) ParseFault
    → Type 0
Shows (Ok found) answer = answer ≡ Ok found.now
Shows (Err fault) answer = answer ≡ Err fault
