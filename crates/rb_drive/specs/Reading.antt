-- Reading an input byte by byte, for private clauses: what a line says, and what is read so far.
use Rattle.std.specs.Prelude.{◌≡◌, ℕ, ◌+◌, ◌≤◌, List, [], ◌∷◌, ◌++◌, length, nat_lt, ◌==◌}
use Rattle.std.specs.Prelude.{Option, Some, None, Result, Ok, Err, codes, if◌then◌else◌}
use Rattle.std.specs.List.{AllByRecursion}
use Rattle.cs_model.specs.declared.schema.TableFault.{TableFault}
use Rattle.cs_model.specs.declared.shape.Shape.{Shape}
use Rattle.cs_model.specs.Schema.{same_bytes, table_refusal}
use Rattle.cs_parse.specs.Reading.{answer_of}
use Rattle.rb_script.specs.Lines.{header_of_answer, most_of_line}
use Rattle.rb_script.specs.Script.{IsLine, ended_lines}
use Rattle.rb_script.specs.Words.{bytes_of, number_in_word, words_of}
use Rattle.rb_drive.specs.declared.entries.LineEntry.{LineEntry}
use Rattle.rb_drive.specs.declared.entries.LineEntry.TheVariants.{Table, Changeset}
use Rattle.rb_drive.specs.declared.fault.DriveError.{DriveError}
use Rattle.rb_drive.specs.declared.fault.DriveError.TheVariants.{Line, Memory}
use Rattle.rb_drive.specs.declared.input.Given.{Given}
use Rattle.rb_drive.specs.declared.input.Input.{Input}
use Rattle.rb_drive.specs.declared.input.Reading.{Reading}
use Rattle.rb_drive.specs.Input.{AreBytesOf, HasBadLine, IsInput}

-- ---- what a line says

abbrev pub table_of_shape : Option Shape → Option LineEntry
table_of_shape None = None
table_of_shape (Some shape) = Some (Table shape)

abbrev pub table_of : Option (List ℕ) → Option LineEntry
table_of None = None
table_of (Some bytes) = table_of_shape (header_of_answer (answer_of bytes))

abbrev pub changeset_of_bytes : ℕ → Option (List ℕ) → Option LineEntry
changeset_of_bytes publisher None = None
changeset_of_bytes publisher (Some bytes) = Some (Changeset publisher bytes)

abbrev pub changeset_of : Option ℕ → Option (List ℕ) → Option LineEntry
changeset_of None bytes = None
changeset_of (Some publisher) bytes =
    if nat_lt publisher 64 then changeset_of_bytes publisher bytes else None

abbrev pub two_line_words : List ℕ → List ℕ → Option LineEntry
two_line_words name word =
    if same_bytes name (codes "table") then table_of (bytes_of word) else None

abbrev pub three_line_words : List ℕ → List ℕ → List ℕ → Option LineEntry
three_line_words name number word =
    if same_bytes name (codes "changeset") then
    changeset_of (number_in_word number) (bytes_of word) else None

abbrev pub entry_of_words : List (List ℕ) → Option LineEntry
entry_of_words [] = None
entry_of_words (name ∷ []) = None
entry_of_words (name ∷ word ∷ []) = two_line_words name word
entry_of_words (name ∷ number ∷ word ∷ []) = three_line_words name number word
entry_of_words (name ∷ number ∷ word ∷ more ∷ rest) = None

-- the entry of a line, if it has one, whatever the line's length
abbrev pub entry_spelled : List ℕ → Option LineEntry
entry_spelled line = entry_of_words (words_of line)

-- ---- an input and one more line

-- tables and changesets
abbrev pub Collected : Type 0
Collected = List Shape × List Given

abbrev pub with_table : List Shape → List Given → Shape → Option TableFault → Option Collected
with_table tables givens shape None = Some (tables ++ shape ∷ [], givens)
with_table tables givens shape (Some fault) = None

abbrev pub given_at : ℕ → ℕ → List ℕ → Given
given_at n publisher text = record { line = n; publisher = publisher; text = text }

-- The tables and changesets after a line with this entry; `None` if it is a bad one. Each line
-- before it has one of them.
abbrev pub with_entry : List Shape → List Given → Option LineEntry → Option Collected
with_entry tables givens None = None
with_entry tables givens (Some (Table shape)) =
    if length givens == 0 then with_table tables givens shape (table_refusal tables shape) else None
with_entry tables givens (Some (Changeset publisher text)) =
    if nat_lt (length givens) 65536 then
    Some (tables, givens ++ given_at (length tables + length givens + 1) publisher text ∷ [])
    else None

abbrev pub with_line : List Shape → List Given → List ℕ → Option Collected
with_line tables givens line = with_entry tables givens (entry_spelled line)

-- How adding a line to an input ends, if these are the tables and changesets after it.
abbrev pub AddEnds : Option Collected → Input → Result (Unit {0}) DriveError → Input → Type 0
AddEnds after old (Ok done) new = after ≡ Some (new.schema, new.givens.items)
AddEnds after old (Err (Line n)) new = (after ≡ None)
    × (n ≡ length old.schema + length old.givens.items + 1)
AddEnds after old (Err Memory) new = Unit {0}
AddEnds after old (Err other) new = ⊥

-- ---- bytes so far

-- The bytes are the lines of the input so far, and the beginning of a line.
pub record IsReadUpTo (bytes : List ℕ) (reading : Reading) : Type 0 where
  pub front : List (List ℕ)
  pub parts : bytes ≡ ended_lines front ++ reading.line.items
  pub lines : AllByRecursion IsLine front
  pub begun : IsLine reading.line.items
  pub short : length reading.line.items ≤ most_of_line
  pub input : IsInput front reading.input.schema reading.input.givens.items

-- How reading stops at these bytes.
abbrev pub ReadingStopsAt : List ℕ → Type 0 → DriveError → Type 0
ReadingStopsAt bytes at_end (Line n) = HasBadLine bytes at_end n
ReadingStopsAt bytes at_end Memory = Unit {0}
ReadingStopsAt bytes at_end other = ⊥

-- How going on over these bytes ends, after any others.
abbrev pub ReadingGoesOn : Reading → List ℕ → Result (Unit {0}) DriveError → Reading → Type 0
ReadingGoesOn old bytes (Ok done) new = (before : List ℕ) → IsReadUpTo before old
    → IsReadUpTo (before ++ bytes) new
ReadingGoesOn old bytes (Err fault) new = (before : List ℕ) → IsReadUpTo before old
    → ReadingStopsAt (before ++ bytes) ⊥ fault

-- How the input ends, after any bytes.
abbrev pub EndsAfter : Reading → Result Input DriveError → Type 0
EndsAfter reading (Ok input) = (bytes : List ℕ) → IsReadUpTo bytes reading
    → ((lines : List (List ℕ)) × AreBytesOf lines bytes
    × IsInput lines input.schema input.givens.items)
EndsAfter reading (Err fault) = (bytes : List ℕ) → IsReadUpTo bytes reading
    → ReadingStopsAt bytes (Unit {0}) fault
