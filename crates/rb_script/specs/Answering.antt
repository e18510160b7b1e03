-- Lines with their answers, and how these are written: with or without the numbers of their lines,
-- and to the end or to the first refusal.
use Rattle.std.specs.Prelude.{ℕ, suc, ◌-◌, Bool, ◌&&◌, ◌||◌, List, [], ◌∷◌, ◌++◌, length, take}
use Rattle.std.specs.Prelude.{false, Option, Some, None, if◌then◌else◌, codes}
use Rattle.std.specs.Fmt.{decimal}
use Rattle.cs_model.specs.Schema.{same_bytes}
use Rattle.rb_desk.specs.Limits.{Limits}
use Rattle.rb_script.specs.declared.answering.Answering.{Answering}
use Rattle.rb_script.specs.declared.answering.RefusedLine.{RefusedLine}
use Rattle.rb_script.specs.declared.lines.Stage.{Stage}
use Rattle.rb_script.specs.declared.lines.Stage.TheVariants.{Tables}
use Rattle.rb_script.specs.Lines.{line_answer, most_of_line}

-- no numbers, and every line is answered
abbrev pub plainly : Answering
plainly = record { numbers = false; strict = false }

-- whether the first word of an answer is `refused` or `fault`
abbrev pub is_refusal : List ℕ → Bool
is_refusal answer = same_bytes (take 8 answer) (codes "refused ")
    || same_bytes (take 6 answer) (codes "fault ")

-- a line and its answer, each line of the answer with a line end; an empty line has the answer []
pub record AnsweredLine : Type 0 where
  pub line : List ℕ
  pub answer : List ℕ

-- what is kept of a line: no more than shows that it is too long
abbrev pub kept_of_line : List ℕ → List ℕ
kept_of_line line = take (suc most_of_line) line

abbrev pub line_with_answer : Limits → Stage → List ℕ → AnsweredLine
line_with_answer config stage line =
    record { line = kept_of_line line; answer = (line_answer config stage line).0 }

-- lines with their answers, one after another
abbrev pub answered_lines : Limits → Stage → List (List ℕ) → List AnsweredLine
answered_lines config stage [] = []
answered_lines config stage (line ∷ lines) = line_with_answer config stage line
    ∷ answered_lines config (line_answer config stage line).1 lines

-- whether the script stops after this line
abbrev pub stops_after : Answering → AnsweredLine → Bool
stops_after how a = how.strict && is_refusal a.answer

-- the lines up to the first after which the script stops, with that one; all if there is none
abbrev pub up_to_stop : Answering → List AnsweredLine → List AnsweredLine
up_to_stop how [] = []
up_to_stop how (a ∷ more) = if stops_after how a then a ∷ [] else a ∷ up_to_stop how more

-- the lines that are answered: those up to the first after which the script stops, with that one
abbrev pub lines_reached : Answering → Limits → Stage → List (List ℕ) → List (List ℕ)
lines_reached how config stage [] = []
lines_reached how config stage (line ∷ lines) =
    if stops_after how (line_with_answer config stage line) then line ∷ [] else line
    ∷ lines_reached how config (line_answer config stage line).1 lines

-- the answer to line n as it is written, after its number if there are numbers
abbrev pub numbered_answer : Answering → ℕ → List ℕ → List ℕ
numbered_answer how n [] = []
numbered_answer how n (byte ∷ bytes) =
    if how.numbers then (decimal n ++ codes " ") ++ byte ∷ bytes else byte ∷ bytes

-- the answers to lines of which the first has number n
abbrev pub numbered_answers : Answering → ℕ → List AnsweredLine → List ℕ
numbered_answers how n [] = []
numbered_answers how n (a ∷ more) = numbered_answer how n a.answer
    ++ numbered_answers how (suc n) more

-- the output for lines of which the first has number n
abbrev pub output_for : Answering → ℕ → List AnsweredLine → List ℕ
output_for how n more = numbered_answers how n (up_to_stop how more)

-- the first line after which the script stops, if there is one
abbrev pub refused_line : ℕ → AnsweredLine → RefusedLine
refused_line n a =
    record { number = n; line = a.line; answer = take (length a.answer - 1) a.answer }

abbrev pub first_stop : Answering → ℕ → List AnsweredLine → Option RefusedLine
first_stop how n [] = None
first_stop how n (a ∷ more) = if stops_after how a then Some (refused_line n a) else
    first_stop how (suc n) more

-- the same for all lines of a script, from the first one on
abbrev pub script_output : Answering → Limits → List (List ℕ) → List ℕ
script_output how config lines = output_for how 1 (answered_lines config (Tables []) lines)

abbrev pub script_stop : Answering → Limits → List (List ℕ) → Option RefusedLine
script_stop how config lines = first_stop how 1 (answered_lines config (Tables []) lines)
