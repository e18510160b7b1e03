-- The output for an input, byte by byte.
use Rattle.std.specs.Prelude.{ℕ, List, [], ◌∷◌, ◌++◌, length, nat_lt, ◌==◌, if◌then◌else◌}
use Rattle.rb_desk.specs.Limits.{Limits}
use Rattle.rb_script.specs.declared.lines.Stage.{Stage}
use Rattle.rb_script.specs.declared.lines.Stage.TheVariants.{Tables}
use Rattle.rb_script.specs.Lines.{line_answer, most_of_line}

-- how far a script has come: the stage, and the start of the next line, as far as it counts
pub record ScriptPlace : Type 0 where
  pub stage : Stage
  pub line : List ℕ

abbrev pub place_at : Stage → List ℕ → ScriptPlace
place_at stage line = record { stage = stage; line = line }

-- a script's place before any byte: no table is declared, and no line has begun
abbrev pub first_place : ScriptPlace
first_place = place_at (Tables []) []

-- appends a byte to a line; a line that is too long already does not change
abbrev pub longer : List ℕ → ℕ → List ℕ
longer line byte = if nat_lt most_of_line (length line) then line else line ++ byte ∷ []

-- the output for a byte, and the script's place after it
abbrev pub ends_line : List ℕ × Stage → List ℕ × ScriptPlace
ends_line given = (given.0, place_at given.1 [])

abbrev pub byte_answer : Limits → ScriptPlace → ℕ → List ℕ × ScriptPlace
byte_answer config place byte =
    if byte == 10 then ends_line (line_answer config place.stage place.line) else
    ([], record place { line = longer place.line byte })

-- the output for bytes, and the script's place after them
unfoldable pub written : Limits → ScriptPlace → List ℕ → List ℕ
written config place [] = []
written config place (byte ∷ bytes) = (byte_answer config place byte).0
    ++ written config (byte_answer config place byte).1 bytes

unfoldable pub place_after : Limits → ScriptPlace → List ℕ → ScriptPlace
place_after config place [] = place
place_after config place (byte ∷ bytes) = place_after config (byte_answer config place byte).1 bytes

-- The output for an input: the answers to its lines. The last line may have no line end.
abbrev pub last_answer : Limits → ScriptPlace → List ℕ
last_answer config place = (line_answer config place.stage place.line).0

abbrev pub answers : Limits → List ℕ → List ℕ
answers config input = written config first_place input
    ++ last_answer config (place_after config first_place input)
