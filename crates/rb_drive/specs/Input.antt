-- The input of a drive: `table` lines, then `changeset` lines.
use Rattle.std.specs.Prelude.{◌≡◌, ◌≢◌, ℕ, suc, ◌<◌, ◌≤◌, ◌⊎◌, List, [], ◌∷◌, ◌++◌, length}
use Rattle.std.specs.Prelude.{Option, Some, Result, Ok, Err, codes}
use Rattle.std.specs.Io.KnownBytes.{Consumes, IsAtEnd}
use Rattle.std.specs.List.{AllByRecursion}
use Rattle.cs_model.specs.declared.shape.Shape.{Shape}
use Rattle.cs_model.specs.Schema.{IsSchema}
use Rattle.cs_parse.specs.Reading.{answer_of}
use Rattle.rb_script.specs.Lines.{header_of_answer, most_of_line}
use Rattle.rb_script.specs.Script.{IsLine, ended_lines}
use Rattle.rb_script.specs.Words.{bytes_of, number_in_word, words_of}
use Rattle.rb_drive.specs.declared.fault.DriveError.{DriveError}
use Rattle.rb_drive.specs.declared.fault.DriveError.TheVariants as fault
use Rattle.rb_drive.specs.declared.input.Given.{Given}
use Rattle.rb_drive.specs.declared.input.Input.{Input}

-- ---- one line

-- `table HEX`: the bytes are one header
pub record SpellsTable (line : List ℕ) (shape : Shape) : Type 0 where
  pub word : List ℕ
  pub words : words_of line ≡ codes "table" ∷ word ∷ []
  pub bytes : List ℕ
  pub hex : bytes_of word ≡ Some bytes
  pub header : header_of_answer (answer_of bytes) ≡ Some shape
  pub short : length line ≤ most_of_line

-- `changeset P HEX`: P is a number from 0 to 63
pub record SpellsChangeset (line : List ℕ) (given : Given) : Type 0 where
  pub number : List ℕ
  pub word : List ℕ
  pub words : words_of line ≡ codes "changeset" ∷ number ∷ word ∷ []
  pub publisher : number_in_word number ≡ Some given.publisher
  pub few : given.publisher < 64
  pub hex : bytes_of word ≡ Some given.text
  pub short : length line ≤ most_of_line

-- ---- all lines

-- each line spells its table
abbrev pub SpellTables : List (List ℕ) → List Shape → Type 0
SpellTables [] [] = Unit {0}
SpellTables (line ∷ lines) (shape ∷ shapes) = SpellsTable line shape × SpellTables lines shapes
SpellTables lines shapes = ⊥

-- each line spells its changeset; the first one has number n
abbrev pub SpellChangesets : ℕ → List (List ℕ) → List Given → Type 0
SpellChangesets n [] [] = Unit {0}
SpellChangesets n (line ∷ lines) (given ∷ more) =
    SpellsChangeset line given × (given.line ≡ n) × SpellChangesets (suc n) lines more
SpellChangesets n lines givens = ⊥

-- Lines are an input with these tables and changesets: `table` lines, of which no table is refused,
-- then at most 65,536 `changeset` lines.
pub record IsInput (lines : List (List ℕ)) (tables : List Shape) (givens : List Given)
    : Type 0 where
  pub front : List (List ℕ)
  pub back : List (List ℕ)
  pub parts : lines ≡ front ++ back
  pub spelled : SpellTables front tables
  pub schema : IsSchema tables
  pub changesets : SpellChangesets (suc (length front)) back givens
  pub few : length back ≤ 65536

-- lines that are an input
abbrev pub AreInput : List (List ℕ) → Type 0
AreInput lines = (tables : List Shape) × (givens : List Given) × IsInput lines tables givens

-- no line that begins so can follow these
abbrev pub NoneFollows : List (List ℕ) → List ℕ → Type 0
NoneFollows front begun = (more : List ℕ) → AreInput (front ++ (begun ++ more) ∷ []) → ⊥

-- ---- bytes

-- the bytes are whole lines, each with its line end, and then a last one without, or nothing
abbrev pub AreBytesOf : List (List ℕ) → List ℕ → Type 0
AreBytesOf lines bytes = AllByRecursion IsLine lines
    × ((bytes ≡ ended_lines lines)
    ⊎ ((front : List (List ℕ)) × (last : List ℕ) × (last ≢ []) × (lines ≡ front ++ last ∷ [])
    × (bytes ≡ ended_lines front ++ last)))

-- The bytes begin with n - 1 lines that are an input, and the line that follows is the first bad
-- one: either it ends, with a line end or with the input, and can't follow them, or a part of it is
-- there, and no line can follow them that begins so.
pub record HasBadLine (bytes : List ℕ) (at_end : Type 0) (n : ℕ) : Type 0 where
  pub front : List (List ℕ)
  pub line : List ℕ
  pub rest : List ℕ
  pub parts : bytes ≡ ended_lines front ++ (line ++ rest)
  pub lines : AllByRecursion IsLine front × IsLine line
  pub count : n ≡ suc (length front)
  pub before : AreInput front
  pub bad : (((more : List ℕ) × (rest ≡ 10 ∷ more)) × (AreInput (front ++ line ∷ []) → ⊥))
      ⊎ ((at_end × (line ≢ []) × (rest ≡ []) × (AreInput (front ++ line ∷ []) → ⊥))
      ⊎ ((line ≢ []) × NoneFollows front line))

-- No bad line is in the bytes: they are lines that are an input, and the beginning of a line that
-- is not too long.
pub record HasNoBadLine (bytes : List ℕ) : Type 0 where
  pub front : List (List ℕ)
  pub line : List ℕ
  pub parts : bytes ≡ ended_lines front ++ line
  pub lines : AllByRecursion IsLine front × IsLine line
  pub before : AreInput front
  pub short : length line ≤ most_of_line

-- How reading the input ends. The reader had r0 left and has r.
abbrev pub InputEnds : Result Input DriveError → Option (List ℕ) → Option (List ℕ) → Type 0
InputEnds (Ok input) r0 r = (bytes : List ℕ) × (lines : List (List ℕ)) × Consumes r0 r bytes
    × IsAtEnd r × AreBytesOf lines bytes × IsInput lines input.schema input.givens.items
InputEnds (Err (fault.Line n)) r0 r = (bytes : List ℕ) × Consumes r0 r bytes
    × HasBadLine bytes (IsAtEnd r) n
InputEnds (Err (fault.Read why)) r0 r = (bytes : List ℕ) × Consumes r0 r bytes
    × HasNoBadLine bytes
InputEnds (Err fault.Memory) r0 r = (bytes : List ℕ) × Consumes r0 r bytes
InputEnds (Err why) r0 r = ⊥
