-- A script's lines byte by byte, for private clauses: the lines that end in bytes, and how
-- answering them stops.
use Rattle.std.specs.Prelude.{◌≡◌, ℕ, ◌+◌, List, [], ◌∷◌, ◌++◌, length, ◌==◌, if◌then◌else◌}
use Rattle.std.specs.Prelude.{Option, Some, None}
use Rattle.std.specs.Io.KnownBytes.{Appends}
use Rattle.rb_desk.specs.Limits.{Limits}
use Rattle.rb_script.specs.declared.answering.Answering.{Answering}
use Rattle.rb_script.specs.declared.fault.ScriptError.{ScriptError}
use Rattle.rb_script.specs.declared.fault.ScriptError.TheVariants.{Write, Memory, Refused}
use Rattle.rb_script.specs.Answering.{AnsweredLine, first_stop, output_for}
use Rattle.rb_script.specs.Lines.{line_answer}
use Rattle.rb_script.specs.Output.{ScriptPlace, byte_answer, place_after}
use Rattle.rb_script.specs.Streams.{AppendsFront}

-- the line at a place, and its answer
abbrev pub line_at : Limits → ScriptPlace → AnsweredLine
line_at config place =
    record { line = place.line; answer = (line_answer config place.stage place.line).0 }

-- the line that ends with a byte
abbrev pub line_ending : Limits → ScriptPlace → ℕ → List AnsweredLine
line_ending config place byte = if byte == 10 then line_at config place ∷ [] else []

-- the lines that end in bytes after a place
unfoldable pub fed_lines : Limits → ScriptPlace → List ℕ → List AnsweredLine
fed_lines config place [] = []
fed_lines config place (byte ∷ bytes) = line_ending config place byte
    ++ fed_lines config (byte_answer config place byte).1 bytes

-- The script stops after none of the lines that end in bytes, and their answers are written. The
-- first of them has number n. The next one is at this place.
pub record AreFed (how : Answering) (config : Limits) (n : ℕ) (place : ScriptPlace)
    (bytes : List ℕ) (w0 w : Option (List ℕ)) (number : ℕ) (now : ScriptPlace) : Type 0 where
  pub goes_on : first_stop how n (fed_lines config place bytes) ≡ None
  pub said : Appends w0 w (output_for how n (fed_lines config place bytes))
  pub stands : now ≡ place_after config place bytes
  pub counted : number ≡ n + length (fed_lines config place bytes)

-- How answering lines stops, of which the first has number n.
abbrev pub StopsIn : Answering → ℕ → List AnsweredLine → ScriptError → Option (List ℕ)
    → Option (List ℕ) → Type 0
StopsIn how n lines (Write why) w0 w = AppendsFront w0 w (output_for how n lines)
StopsIn how n lines Memory w0 w = AppendsFront w0 w (output_for how n lines)
StopsIn how n lines (Refused line) w0 w = (first_stop how n lines ≡ Some line)
    × Appends w0 w (output_for how n lines)
StopsIn how n lines fault w0 w = ⊥
