-- How a script ends: what is read and what is written by then.
use Rattle.std.specs.Prelude.{◌≡◌, ℕ, ◌<◌, ◌≤◌, ◌⊎◌, List, length, take, Option, Some, None}
use Rattle.std.specs.Prelude.{Result, Ok, Err}
use Rattle.std.specs.Io.KnownBytes.{Appends, Consumes, IsAtEnd}
use Rattle.rb_desk.specs.Limits.{Limits}
use Rattle.rb_script.specs.declared.answering.Answering.{Answering}
use Rattle.rb_script.specs.declared.answering.RefusedLine.{RefusedLine}
use Rattle.rb_script.specs.declared.fault.ScriptError.{ScriptError}
use Rattle.rb_script.specs.declared.fault.ScriptError.TheVariants.{Read, Write, Endless, Memory}
use Rattle.rb_script.specs.declared.fault.ScriptError.TheVariants.{Refused}
use Rattle.rb_script.specs.Answering.{script_output, script_stop}
use Rattle.rb_script.specs.Script.{lines_of, whole_lines}
use Rattle.rb_script.specs.Streams.{AppendsFront}

-- The script stops after none of these lines, and their answers are written.
abbrev pub AreAnswered : Answering → Limits → List (List ℕ) → Option (List ℕ) → Option (List ℕ)
    → Type 0
AreAnswered how config lines w0 w = (script_stop how config lines ≡ None)
    × Appends w0 w (script_output how config lines)

-- The input is read to its end, within the limit, and all its lines are answered.
abbrev pub IsAnswered : Answering → Limits → Option (List ℕ) → Option (List ℕ) → Option (List ℕ)
    → Option (List ℕ) → Type 0
IsAnswered how config r0 r w0 w =
    (input : List ℕ) × Consumes r0 r input × IsAtEnd r × (length input ≤ 16777216)
    × AreAnswered how config (lines_of input) w0 w

-- Some input is read, within the limit, and exactly its whole lines are answered.
abbrev pub IsReadInPart : Answering → Limits → Option (List ℕ) → Option (List ℕ) → Option (List ℕ)
    → Option (List ℕ) → Type 0
IsReadInPart how config r0 r w0 w =
    (input : List ℕ) × Consumes r0 r input × (length input ≤ 16777216)
    × AreAnswered how config (whole_lines input) w0 w

-- More is read than the limit, and the lines that end within it are answered.
abbrev pub IsOverrun : Answering → Limits → Option (List ℕ) → Option (List ℕ) → Option (List ℕ)
    → Option (List ℕ) → Type 0
IsOverrun how config r0 r w0 w =
    (input : List ℕ) × Consumes r0 r input × (16777216 < length input)
    × AreAnswered how config (whole_lines (take 16777216 input)) w0 w

-- Some input is read. This holds of the lines that end within the limit or, at the input's end, of
-- all its lines.
abbrev pub HoldsOfLines : (List (List ℕ) → Type 0) → List ℕ → Option (List ℕ) → Type 0
HoldsOfLines Holds input r = Holds (whole_lines (take 16777216 input))
    ⊎ (IsAtEnd r × (length input ≤ 16777216) × Holds (lines_of input))

abbrev pub StopsAmong : (List (List ℕ) → Type 0) → Option (List ℕ) → Option (List ℕ) → Type 0
StopsAmong Holds r0 r = (input : List ℕ) × Consumes r0 r input × HoldsOfLines Holds input r

-- A prefix of the answers to these lines is written.
abbrev pub IsCutOff : Answering → Limits → Option (List ℕ) → Option (List ℕ) → Option (List ℕ)
    → Option (List ℕ) → Type 0
IsCutOff how config r0 r w0 w =
    StopsAmong (λ lines. AppendsFront w0 w (script_output how config lines)) r0 r

-- The first refused one of these lines is this one, and the answers up to its own are written.
abbrev pub IsStoppedAt : Answering → Limits → RefusedLine → Option (List ℕ) → Option (List ℕ)
    → Option (List ℕ) → Option (List ℕ) → Type 0
IsStoppedAt how config line r0 r w0 w =
    StopsAmong (λ lines. (script_stop how config lines ≡ Some line)
    × Appends w0 w (script_output how config lines)) r0 r

-- How a script ends, by its result. The reader had r0 left and has r; the writer held w0 and holds
-- w. Ok: the whole input is read, and all its lines are answered. `Read`: the same of the whole
-- lines so far. `Endless`: more was read than the limit, and the lines that end within it are
-- answered. `Write` and `Memory`: a prefix of the answers is written. `Refused`: this line is the
-- first that stops the script, and the answers up to its own are written.
abbrev pub ScriptEnds : {A : Type 0} → Answering → Limits → Result A ScriptError → Option (List ℕ)
    → Option (List ℕ) → Option (List ℕ) → Option (List ℕ) → Type 0
ScriptEnds how config (Ok done) r0 r w0 w = IsAnswered how config r0 r w0 w
ScriptEnds how config (Err (Read why)) r0 r w0 w = IsReadInPart how config r0 r w0 w
ScriptEnds how config (Err (Write why)) r0 r w0 w = IsCutOff how config r0 r w0 w
ScriptEnds how config (Err Endless) r0 r w0 w = IsOverrun how config r0 r w0 w
ScriptEnds how config (Err Memory) r0 r w0 w = IsCutOff how config r0 r w0 w
ScriptEnds how config (Err (Refused line)) r0 r w0 w = IsStoppedAt how config line r0 r w0 w

-- a fault of the reader
abbrev pub IsOfReader : ScriptError → Type 0
IsOfReader (Read why) = Unit {0}
IsOfReader fault = ⊥

-- a fault while answers are written: of the writer, or out of memory
abbrev pub IsOfAnswers : ScriptError → Type 0
IsOfAnswers (Write why) = Unit {0}
IsOfAnswers Memory = Unit {0}
IsOfAnswers fault = ⊥
