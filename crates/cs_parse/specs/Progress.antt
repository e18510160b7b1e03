-- The progress of a parser that reads a text in pieces. A text is a list of parts: headers, each
-- followed by the changes of its table. Complete parts are read, and the bytes of an incomplete one
-- are kept.
use Rattle.std.specs.Prelude.{◌≡◌, ℕ, zero, suc, ◌+◌, ◌-◌, List, [], ◌∷◌, ◌++◌, length, take}
use Rattle.std.specs.Prelude.{Option, Some, None, Result, Ok, Err, nat_lt, if◌then◌else◌}
use Rattle.cs_model.specs.Bytes.{AreBytes}
use Rattle.cs_model.specs.Changeset.{most_bytes}
use Rattle.cs_model.specs.Section.{Section}
use Rattle.cs_parse.specs.declared.fault.FaultKind.TheVariants.{TooLong, Truncated}
use Rattle.cs_parse.specs.declared.fault.ParseError.{ParseError}
use Rattle.cs_parse.specs.declared.fault.ParseError.TheVariants.{Fault, Memory}
use Rattle.cs_parse.specs.declared.fault.ParseFault.{ParseFault}
use Rattle.cs_parse.specs.declared.stop.ParseRefusal.{ParseRefusal}
use Rattle.cs_parse.specs.declared.stop.ParseRefusal.TheVariants.{Short, Bad}
use Rattle.cs_parse.specs.Reading.{◌>>=◌, shape_at, change_at, ends_section, is_empty}
pub use Rattle.cs_model.specs.Sections.{last_flags, with_changes}

-- What was read of a text. `sections`: the last one may still grow. `pending`: the bytes of an
-- incomplete header or change. `offset`: the number of bytes taken. `fault`: the permanent fault.
-- If there is one, nothing else is kept, and `offset` is its place.
pub record Progress : Type 0 where
  pub sections : List Section
  pub pending : List ℕ
  pub offset : ℕ
  pub fault : Option ParseFault

-- the progress before any byte
abbrev pub nothing : Progress
nothing = record { sections = []; pending = []; offset = 0; fault = None }

-- after a fault
abbrev pub broken : ParseFault → Progress
broken fault = record { sections = []; pending = []; offset = fault.at; fault = Some fault }

-- ---- parts

-- one more section, without changes, if a header is read
abbrev pub with_header : List Section → List ℕ → Result (List Section × List ℕ) ParseRefusal
with_header sections bytes = do
  shape ← shape_at bytes
  Ok (sections ++ record { shape = shape.0; changes = [] } ∷ [], shape.1)

-- the next part after these sections, the last of which has these key flags: a header if one
-- begins, or else a change
abbrev pub with_part : List Section → Option (List ℕ) → List ℕ
    → Result (List Section × List ℕ) ParseRefusal
with_part sections None bytes = with_header sections bytes
with_part sections (Some flags) bytes =
    if ends_section bytes then with_header sections bytes else (do
      change ← change_at flags bytes
      Ok (with_changes sections (change.0 ∷ []), change.1))

unfoldable pub part_at : List Section → List ℕ → Result (List Section × List ℕ) ParseRefusal
part_at sections bytes = with_part sections (last_flags sections) bytes

-- ---- all complete parts

-- What is read: the sections, the bytes after them, and why the next part isn't read. `why` is
-- `None` if no part follows.
pub record Reached : Type 0 where
  pub sections : List Section
  pub rest : List ℕ
  pub why : Option ParseRefusal

abbrev pub after_part : (List Section → List ℕ → Reached) → List Section → List ℕ
    → Result (List Section × List ℕ) ParseRefusal → Reached
after_part go_on sections bytes (Ok part) = go_on part.0 part.1
after_part go_on sections bytes (Err why) =
    record { sections = sections; rest = bytes; why = Some why }

-- One part after another. Each part takes one from `fuel`. It doesn't run out if it is at least the
-- number of bytes.
unfoldable pub parts_at : ℕ → List Section → List ℕ → Reached
parts_at zero sections bytes = record { sections = sections; rest = bytes; why = None }
parts_at (suc fuel) sections bytes =
    if is_empty bytes then record { sections = sections; rest = bytes; why = None }
    else after_part (parts_at fuel) sections bytes (part_at sections bytes)

-- all parts after these sections
abbrev pub read_on : List Section → List ℕ → Reached
read_on sections bytes = parts_at (length bytes) sections bytes

-- ---- pieces

-- after a text of `len` bytes, of which `taken` are within the limit and read without a fault
abbrev pub so_far : ℕ → ℕ → Reached → Progress
so_far len taken reached =
    if nat_lt most_bytes len then broken (record { at = most_bytes; kind = TooLong })
    else record {
      sections = reached.sections;
      pending = reached.rest;
      offset = taken;
      fault = None;
    }

-- The same, by why reading stopped. A wrong byte is found before the text is found too long.
abbrev pub stopped : ℕ → ℕ → Reached → Option ParseRefusal → Progress
stopped len taken reached None = so_far len taken reached
stopped len taken reached (Some Short) = so_far len taken reached
stopped len taken reached (Some (Bad left kind)) =
    broken (record { at = taken - left; kind = kind })

abbrev pub arrived : ℕ → ℕ → Reached → Progress
arrived len taken reached = stopped len taken reached reached.why

-- a piece's bytes within the limit
abbrev pub piece_within : Progress → List ℕ → List ℕ
piece_within old piece = take (most_bytes - old.offset) piece

abbrev pub advance : Option ParseFault → Progress → List ℕ → Progress
advance (Some fault) old piece = old
advance None old piece =
    arrived (old.offset + length piece) (old.offset + length (piece_within old piece))
    (read_on old.sections (old.pending ++ piece_within old piece))

-- the progress after a piece
unfoldable pub advanced : Progress → List ℕ → Progress
advanced old piece = advance old.fault old piece

-- how far a text is read
abbrev pub progress_of : List ℕ → Progress
progress_of text = advanced nothing text

-- The result for the bytes so far: their sections, if they end after a complete part.
abbrev pub answer_at_end_by : Option ParseFault → Progress → Result (List Section) ParseFault
answer_at_end_by (Some fault) progress = Err fault
answer_at_end_by None progress =
    if is_empty progress.pending then Ok progress.sections else Err
    (record { at = progress.offset; kind = Truncated })

abbrev pub answer_at_end : Progress → Result (List Section) ParseFault
answer_at_end progress = answer_at_end_by progress.fault progress

-- The result of `feed`, and the progress after it: the fault of the text with the piece, or none.
-- If memory runs out, nothing is taken.
abbrev pub FeedAnswers : {A : Type 0} → Result A ParseError → Progress → List ℕ → Progress → Type 0
FeedAnswers (Ok done) old piece new = ((advanced old piece).fault ≡ None)
    × (new ≡ advanced old piece)
FeedAnswers (Err (Fault fault)) old piece new = ((advanced old piece).fault ≡ Some fault)
    × (new ≡ advanced old piece)
FeedAnswers (Err Memory) old piece new = new ≡ old

-- A text that a parser with this progress may have taken. All results hold for each of these.
pub record Took (progress : Progress) (text : List ℕ) : Type 0 where
  pub bytes : AreBytes text
  pub read : progress ≡ progress_of text

-- What was taken after a piece: the text with the piece, or the text alone if memory ran out.
abbrev pub TakesPiece : {A : Type 0} → Result A ParseError → List ℕ → List ℕ → Progress → Type 0
TakesPiece (Ok done) text piece new = Took new (text ++ piece)
TakesPiece (Err (Fault fault)) text piece new = Took new (text ++ piece)
TakesPiece (Err Memory) text piece new = Took new text
