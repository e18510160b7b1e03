-- The events in the lines of a script, with their replies, are a run.
use Rattle.std.proofs.Common.{◌≡◌, ℕ, Bool, true, false, cond, ltb, List, [], ◌∷◌, ◌++◌, length, Option, Some, None}
use Rattle.std.proofs.Common.{refl, sym, ap, subst, codes}
use Rattle.cs_model.specs.declared.shape.Shape.{Shape}
use Rattle.cs_model.specs.declared.schema.TableFault.{TableFault}
use Rattle.cs_model.specs.Schema.{table_refusal}
use Rattle.cs_parse.specs.Reading.{answer_of}
use Rattle.rb_desk.specs.Limits.{Limits}
use Rattle.rb_core.specs.declared.event.Event.{Event}
use Rattle.rb_core.specs.State.{State, empty_world}
use Rattle.rb_core.specs.Outcome.{outcome}
use Rattle.rb_core.specs.Run.{Run}
use Rattle.rb_script.specs.declared.forms.Form.{Form}
use Rattle.rb_script.specs.declared.forms.Form.TheVariants as form
use Rattle.rb_script.specs.declared.lines.Stage.{Stage}
use Rattle.rb_script.specs.declared.lines.Stage.TheVariants.{Tables, Running}
use Rattle.rb_script.specs.ScriptSchema.{form_in_line, is_other_form, listed_shape, opening_lines, shape_by_form, shapes_in}
use Rattle.rb_script.specs.ScriptSchema.{with_declared, with_all_declared}
use Rattle.rb_script.specs.Forms.{form_of}
use Rattle.rb_script.specs.Lines.{most_of_line, line_of, line_answer, form_answer, table_read, table_added}
use Rattle.rb_script.specs.Lines.{header_of_answer, world_of}
use Rattle.rb_script.specs.Script.{event_in, event_of, with_event, lines_events, stage_after, answer_before}
use Rattle.rb_script.specs.Script.{lines_replies}

-- where a line leads from a world that runs
abbrev FromWorld : State → Option Event → Stage → Type 0
FromWorld world None next = next ≡ Running world
FromWorld world (Some event) next = next ≡ Running (outcome world event).1

form_from_world : (config : Limits) (world : State) (o : Option Form)
    → FromWorld world (event_in o) (form_answer config (Running world) o).1
form_from_world config world None = refl
form_from_world config world (Some (form.Table bytes)) = refl
form_from_world config world (Some (form.Happens event)) = refl
form_from_world config world (Some (form.Entry n)) = refl
form_from_world config world (Some (form.Combine first last)) = refl
form_from_world config world (Some (form.Rows s)) = refl
form_from_world config world (Some form.Left) = refl

line_from_world : (config : Limits) (world : State) (line : List ℕ)
    → FromWorld world (event_of line) (line_answer config (Running world) line).1
line_from_world config world [] = refl
line_from_world config world (b ∷ bs) = by (ltb most_of_line (length (b ∷ bs)))
  where
    by : (t : Bool) → FromWorld world (cond t None (event_in (form_of (b ∷ bs))))
        (cond t (line_of (codes "refused LineTooLong"), Running world)
        (form_answer config (Running world) (form_of (b ∷ bs)))).1
    by true = refl
    by false = form_from_world config world (form_of (b ∷ bs))

-- the replies to lines, from a stage on, are those of a run of their events from this world to the one behind them
abbrev pub RunsFrom : Limits → State → Stage → List (List ℕ) → Type 0
RunsFrom config world stage lines =
    Run world (lines_events lines) (lines_replies config stage lines) (world_of config (stage_after config stage lines))

one_from_world : (config : Limits) (world : State) (o : Option Event) (next : Stage) (lines : List (List ℕ))
    → FromWorld world o next → ((w : State) → RunsFrom config w (Running w) lines)
    → Run world (with_event o (lines_events lines))
    (answer_before config (Running world) o (lines_replies config next lines))
    (world_of config (stage_after config next lines))
one_from_world config world None next lines leads later =
    subst (λ (s : Stage). RunsFrom config world s lines) (sym leads) (later world)
one_from_world config world (Some event) next lines leads later =
    let mid : State = (outcome world event).1 in
    (mid, refl, subst (λ (s : Stage). RunsFrom config mid s lines) (sym leads) (later mid))

runs_from_world : (config : Limits) (lines : List (List ℕ)) (world : State)
    → RunsFrom config world (Running world) lines
runs_from_world config [] world = refl
runs_from_world config (line ∷ lines) world =
    one_from_world config world (event_of line) (line_answer config (Running world) line).1 lines
    (line_from_world config world line) (runs_from_world config lines)

-- ---- before the world begins

-- What a line of the opening makes of the tables, and what later lines make of these.
abbrev declared_from : List Shape → List (List ℕ) → List Shape
declared_from tables lines = with_all_declared tables (shapes_in (opening_lines lines))

-- the tables that the lines declare after these, where this line has this form
abbrev declared_by : List Shape → Option Form → List (List ℕ) → List Shape
declared_by tables o lines =
    with_all_declared tables (cond (is_other_form o) [] (shape_by_form o ++ shapes_in (opening_lines lines)))

opening_shapes : (b : Bool) (line : List ℕ) (lines : List (List ℕ)) → shapes_in (cond b [] (line ∷ lines))
    ≡ cond b [] (shape_by_form (form_in_line line) ++ shapes_in lines)
opening_shapes true line lines = refl
opening_shapes false line lines = refl

declared_line : (tables : List Shape) (line : List ℕ) (lines : List (List ℕ)) → declared_from tables (line ∷ lines)
    ≡ declared_by tables (form_in_line line) lines
declared_line tables line lines =
    ap (with_all_declared tables) (opening_shapes (is_other_form (form_in_line line)) line (opening_lines lines))

-- where a line of this form leads from tables: to these, or to the world that begins with the tables so far
abbrev FromTables : Limits → List Shape → Option Form → Stage → Type 0
FromTables config tables None next = next ≡ Tables tables
FromTables config tables (Some (form.Table bytes)) next =
    next ≡ Tables (with_all_declared tables (listed_shape (header_of_answer (answer_of bytes))))
FromTables config tables (Some (form.Happens event)) next =
    next ≡ Running (outcome (empty_world config tables) event).1
FromTables config tables (Some other) next = next ≡ Running (empty_world config tables)

added_from_tables : (tables : List Shape) (shape : Shape) (o : Option TableFault) → (table_added tables shape o).1
    ≡ Tables (with_declared tables shape o)
added_from_tables tables shape None = refl
added_from_tables tables shape (Some fault) = refl

table_from_tables : (tables : List Shape) (o : Option Shape) → (table_read tables o).1
    ≡ Tables (with_all_declared tables (listed_shape o))
table_from_tables tables None = refl
table_from_tables tables (Some shape) = added_from_tables tables shape (table_refusal tables shape)

form_from_tables : (config : Limits) (tables : List Shape) (o : Option Form)
    → FromTables config tables o (form_answer config (Tables tables) o).1
form_from_tables config tables None = refl
form_from_tables config tables (Some (form.Table bytes)) =
    table_from_tables tables (header_of_answer (answer_of bytes))
form_from_tables config tables (Some (form.Happens event)) = refl
form_from_tables config tables (Some (form.Entry n)) = refl
form_from_tables config tables (Some (form.Combine first last)) = refl
form_from_tables config tables (Some (form.Rows s)) = refl
form_from_tables config tables (Some form.Left) = refl

line_from_tables : (config : Limits) (tables : List Shape) (line : List ℕ)
    → FromTables config tables (form_in_line line) (line_answer config (Tables tables) line).1
line_from_tables config tables [] = refl
line_from_tables config tables (b ∷ bs) = by (ltb most_of_line (length (b ∷ bs)))
  where
    by : (t : Bool) → FromTables config tables (cond t None (form_of (b ∷ bs)))
        (cond t (line_of (codes "refused LineTooLong"), Tables tables)
        (form_answer config (Tables tables) (form_of (b ∷ bs)))).1
    by true = refl
    by false = form_from_tables config tables (form_of (b ∷ bs))

event_by_form : (line : List ℕ) → event_of line ≡ event_in (form_in_line line)
event_by_form line = by (ltb most_of_line (length line))
  where
    by : (t : Bool) → cond t None (event_in (form_of line)) ≡ event_in (cond t None (form_of line))
    by true = refl
    by false = refl

-- the shapes of one line, then those of the others
shapes_one : (tables : List Shape) (o : Option Shape) (rest : List Shape)
    → with_all_declared tables (listed_shape o ++ rest) ≡ with_all_declared (with_all_declared tables (listed_shape o)) rest
shapes_one tables None rest = refl
shapes_one tables (Some shape) rest = refl

-- the replies to lines are those of a run, from the empty world of the tables that they declare
abbrev pub RunsBehind : Limits → List Shape → List (List ℕ) → Type 0
RunsBehind config tables lines =
    RunsFrom config (empty_world config (declared_from tables lines)) (Tables tables) lines

-- the same where the first line has this form and leads to this stage
abbrev RunsFirst : Limits → List Shape → Option Form → Stage → List (List ℕ) → Type 0
RunsFirst config tables o next lines =
    Run (empty_world config (declared_by tables o lines)) (with_event (event_in o) (lines_events lines))
    (answer_before config (Tables tables) (event_in o) (lines_replies config next lines))
    (world_of config (stage_after config next lines))

begins_running : (config : Limits) (tables : List Shape) (next : Stage) (lines : List (List ℕ))
    → next ≡ Running (empty_world config tables)
    → Run (empty_world config tables) (lines_events lines) (lines_replies config next lines)
    (world_of config (stage_after config next lines))
begins_running config tables next lines leads =
    subst (λ (s : Stage). RunsFrom config (empty_world config tables) s lines) (sym leads)
    (runs_from_world config lines (empty_world config tables))

one_from_tables : (config : Limits) (tables : List Shape) (o : Option Form) (next : Stage) (lines : List (List ℕ))
    → FromTables config tables o next → ((more : List Shape) → RunsBehind config more lines)
    → RunsFirst config tables o next lines
one_from_tables config tables None next lines leads later =
    subst (λ (s : Stage). RunsFrom config (empty_world config (declared_from tables lines)) s lines) (sym leads)
    (later tables)
one_from_tables config tables (Some (form.Table bytes)) next lines leads later =
    let shape = header_of_answer (answer_of bytes) in
    let more = with_all_declared tables (listed_shape shape) in
    subst (λ (schema : List Shape). RunsFrom config (empty_world config schema) next lines)
    (sym (shapes_one tables shape (shapes_in (opening_lines lines))))
    (subst (λ (s : Stage). RunsFrom config (empty_world config (declared_from more lines)) s lines) (sym leads)
    (later more))
one_from_tables config tables (Some (form.Happens event)) next lines leads later =
    let mid : State = (outcome (empty_world config tables) event).1 in
    (mid, refl, subst (λ (s : Stage). RunsFrom config mid s lines) (sym leads) (runs_from_world config lines mid))
one_from_tables config tables (Some (form.Entry n)) next lines leads later =
    begins_running config tables next lines leads
one_from_tables config tables (Some (form.Combine first last)) next lines leads later =
    begins_running config tables next lines leads
one_from_tables config tables (Some (form.Rows s)) next lines leads later =
    begins_running config tables next lines leads
one_from_tables config tables (Some form.Left) next lines leads later =
    begins_running config tables next lines leads

pub runs_behind : (config : Limits) (lines : List (List ℕ)) (tables : List Shape) → RunsBehind config tables lines
runs_behind config [] tables = refl
runs_behind config (line ∷ lines) tables =
    let next = (line_answer config (Tables tables) line).1 in
    let first = one_from_tables config tables (form_in_line line) next lines (line_from_tables config tables line)
    (runs_behind config lines) in
    let by_event = subst (λ (e : Option Event). Run (empty_world config (declared_by tables (form_in_line line) lines))
    (with_event e (lines_events lines)) (answer_before config (Tables tables) e (lines_replies config next lines))
    (world_of config (stage_after config next lines))) (sym (event_by_form line)) first in
    subst (λ (schema : List Shape). RunsFrom config (empty_world config schema) (Tables tables) (line ∷ lines))
    (sym (declared_line tables line lines)) by_event
