-- A script as its lines, and the events and replies in them.
use Rattle.std.specs.Prelude.{◌≢◌, ℕ, List, [], ◌∷◌, ◌++◌, length, nat_lt, Option, Some, None, Ok}
use Rattle.std.specs.Prelude.{◌==◌, if◌then◌else◌}
use Rattle.std.specs.List.{AllByRecursion, slice_split}
use Rattle.rb_desk.specs.Limits.{Limits}
use Rattle.rb_core.specs.declared.event.Event.{Event}
use Rattle.rb_core.specs.Outcome.{outcome}
use Rattle.rb_core.specs.Run.{Answer}
use Rattle.rb_script.specs.declared.forms.Form.{Form}
use Rattle.rb_script.specs.declared.forms.Form.TheVariants as form
use Rattle.rb_script.specs.declared.lines.Stage.{Stage}
use Rattle.rb_script.specs.Forms.{form_of}
use Rattle.rb_script.specs.Lines.{most_of_line, line_answer, world_of}

-- a line contains no line end
abbrev pub IsLine : List ℕ → Type 0
IsLine line = AllByRecursion (λ byte. byte ≢ 10) line

-- the lines of a text; what comes after the last line end is a line too, even if it is empty
abbrev pub lines_of : List ℕ → List (List ℕ)
lines_of text = slice_split (λ byte. byte == 10) text

-- those of them that have a line end: all but the last
abbrev pub without_last : List (List ℕ) → List (List ℕ)
without_last [] = []
without_last (line ∷ []) = []
without_last (line ∷ next ∷ lines) = line ∷ without_last (next ∷ lines)

abbrev pub whole_lines : List ℕ → List (List ℕ)
whole_lines text = without_last (lines_of text)

-- lines, each with a line end
abbrev pub ended_lines : List (List ℕ) → List ℕ
ended_lines [] = []
ended_lines (line ∷ lines) = line ++ (10 ∷ ended_lines lines)

-- the answers to lines, one after another
abbrev pub lines_answers : Limits → Stage → List (List ℕ) → List ℕ
lines_answers config stage [] = []
lines_answers config stage (line ∷ lines) = (line_answer config stage line).0
    ++ lines_answers config (line_answer config stage line).1 lines

-- the event of a line, if it has one and isn't too long
abbrev pub event_in : Option Form → Option Event
event_in (Some (form.Happens event)) = Some event
event_in other = None

abbrev pub event_of : List ℕ → Option Event
event_of line = if nat_lt most_of_line (length line) then None else event_in (form_of line)

-- the events in lines, in order
abbrev pub with_event : Option Event → List Event → List Event
with_event None events = events
with_event (Some event) events = event ∷ events

abbrev pub lines_events : List (List ℕ) → List Event
lines_events [] = []
lines_events (line ∷ lines) = with_event (event_of line) (lines_events lines)

-- the stage after lines
abbrev pub stage_after : Limits → Stage → List (List ℕ) → Stage
stage_after config stage [] = stage
stage_after config stage (line ∷ lines) = stage_after config (line_answer config stage line).1 lines

-- puts the reply to a line's event before the others
abbrev pub answer_before : Limits → Stage → Option Event → List Answer → List Answer
answer_before config stage None rest = rest
answer_before config stage (Some event) rest = Ok (outcome (world_of config stage) event).0 ∷ rest

-- the replies to the events in lines, in order
abbrev pub lines_replies : Limits → Stage → List (List ℕ) → List Answer
lines_replies config stage [] = []
lines_replies config stage (line ∷ lines) =
    answer_before config stage (event_of line)
    (lines_replies config (line_answer config stage line).1 lines)
