-- A text that comes in pieces: its permanent fault, and the bytes kept of it.
use Rattle.std.specs.Prelude.{◌≡◌, ◌≤◌, ℕ, Bool, true, false, List, [], ◌∷◌, ◌++◌, length, Option}
use Rattle.std.specs.Prelude.{Some, None, Result, Ok, Err, if◌then◌else◌}
use Rattle.cs_model.specs.Section.{Section}
use Rattle.cs_parse.specs.declared.fault.FaultKind.{FaultKind}
use Rattle.cs_parse.specs.declared.fault.FaultKind.TheVariants as kind
use Rattle.cs_parse.specs.declared.fault.ParseFault.{ParseFault}
use Rattle.cs_parse.specs.declared.fault.ParseError.{ParseError}
use Rattle.cs_parse.specs.declared.fault.ParseError.TheVariants.{Fault, Memory}
use Rattle.std.specs.List.{flat_map}
use Rattle.cs_model.specs.Changeset.{most_bytes}
use Rattle.cs_parse.specs.Fault.{Viable, IsFault}
use Rattle.cs_parse.specs.Reading.{answer_of}

-- whether more bytes may remove a fault, which means that the text is truncated
abbrev pub may_be_mended : FaultKind → Bool
may_be_mended kind.Truncated = true
may_be_mended kind = false

-- the permanent fault of a result
abbrev pub lasting : Result (List Section) ParseFault → Option ParseFault
lasting (Ok sections) = None
lasting (Err fault) = if may_be_mended fault.kind then None else Some fault

-- the permanent fault of a text
abbrev pub fault_in : List ℕ → Option ParseFault
fault_in text = lasting (answer_of text)

-- The text after a piece is taken. After a permanent fault nothing is added.
abbrev pub text_after : Option ParseFault → List ℕ → List ℕ → List ℕ
text_after None text piece = text ++ piece
text_after (Some fault) text piece = text

abbrev pub text_taken : List ℕ → List ℕ → List ℕ
text_taken text piece = text_after (fault_in text) text piece

-- the number of bytes taken, or the place of the fault
abbrev pub offset_reached : Option ParseFault → ℕ → ℕ
offset_reached None len = len
offset_reached (Some fault) len = fault.at

abbrev pub offset_of : List ℕ → ℕ
offset_of text = offset_reached (fault_in text) (length text)

-- a permanent fault of the text
abbrev pub IsLasting : List ℕ → ParseFault → Type 0
IsLasting text fault = IsFault text fault × (may_be_mended fault.kind ≡ false)

-- A text without a permanent fault: it is within the limit, and can be continued to a changeset.
pub record IsFaultless (text : List ℕ) : Type 0 where
  pub within_limit : length text ≤ most_bytes
  pub viable : Viable text

-- the error reports a permanent fault, or memory ran out
abbrev pub ReportsLasting : ParseError → List ℕ → Type 0
ReportsLasting (Fault fault) text = IsLasting text fault
ReportsLasting Memory text = Unit {0}

-- the pieces joined
abbrev pub joined_pieces : List (List ℕ) → List ℕ
joined_pieces pieces = flat_map (λ piece. piece) pieces

-- what is kept of a text and the pieces after it
abbrev pub text_kept : List ℕ → List (List ℕ) → List ℕ
text_kept text [] = text
text_kept text (piece ∷ pieces) = text_kept (text_taken text piece) pieces
