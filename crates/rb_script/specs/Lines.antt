-- The answer to one line of a script, and the stage after it.
use Rattle.std.specs.Prelude.{ℕ, List, [], ◌∷◌, ◌++◌, length, nat_lt, Option, Some, None, Result}
use Rattle.std.specs.Prelude.{Ok, Err, option_map, slice_get, if◌then◌else◌, codes}
use Rattle.std.specs.FinMap as map
use Rattle.std.specs.Fmt.{decimal}
use Rattle.cs_model.specs.declared.shape.Shape.{Shape}
use Rattle.cs_model.specs.Section.{Section}
use Rattle.cs_model.specs.declared.value.Value.{Value}
use Rattle.cs_model.specs.declared.row_key.RowKey.{RowKey}
use Rattle.cs_model.specs.declared.schema.TableFault.{TableFault}
use Rattle.cs_model.specs.declared.schema.TableFault.TheVariants.{DuplicateTable, BadShape}
use Rattle.cs_model.specs.Changeset.{only_header}
use Rattle.cs_model.specs.Schema.{table_refusal}
use Rattle.cs_parse.specs.declared.fault.ParseFault.{ParseFault}
use Rattle.cs_parse.specs.Reading.{answer_of}
use Rattle.cs_write.specs.Text.{text_of}
use Rattle.rb_desk.specs.Limits.{Limits}
use Rattle.rb_desk.specs.declared.refusal.DeskRefusal.TheVariants as desk
use Rattle.rb_core.specs.declared.reply.Reply.{Reply}
use Rattle.rb_core.specs.State.{State, empty_world, how_many_wait}
use Rattle.rb_sequence.specs.Entry.{Entry}
use Rattle.rb_core.specs.Combined.{combined_of}
use Rattle.rb_core.specs.Outcome.{outcome, entry_of}
use Rattle.rb_script.specs.declared.answer.LineAnswer.{LineAnswer}
use Rattle.rb_script.specs.declared.answer.LineAnswer.TheVariants.{Text, Combined}
use Rattle.rb_script.specs.declared.forms.Form.{Form}
use Rattle.rb_script.specs.declared.forms.Form.TheVariants as form
use Rattle.rb_script.specs.declared.lines.Stage.{Stage}
use Rattle.rb_script.specs.declared.lines.Stage.TheVariants.{Tables, Running}
use Rattle.rb_script.specs.Forms.{form_of}
use Rattle.rb_script.specs.Replies.{reply_text, desk_refusal_text}
use Rattle.rb_script.specs.Texts.{bytes_word, entry_text, rows_text}

-- the most bytes of a line, without its line end
abbrev pub most_of_line : ℕ
most_of_line = 65536

-- a text with a line end
abbrev pub line_of : List ℕ → List ℕ
line_of text = text ++ 10 ∷ []

-- the shape, if the text is exactly one header
abbrev pub header_of_answer : Result (List Section) ParseFault → Option Shape
header_of_answer (Ok sections) = only_header sections
header_of_answer (Err fault) = None

-- `table`: adds a table, if no line of another form has come
abbrev pub bad_table : TableFault → List ℕ
bad_table (DuplicateTable i) = codes "refused DuplicateTable"
bad_table (BadShape i) = codes "refused BadShape"

abbrev pub table_added : List Shape → Shape → Option TableFault → List ℕ × Stage
table_added tables shape None = (codes "ok", Tables (tables ++ shape ∷ []))
table_added tables shape (Some fault) = (bad_table fault, Tables tables)

abbrev pub table_read : List Shape → Option Shape → List ℕ × Stage
table_read tables None = (codes "refused BadShape", Tables tables)
table_read tables (Some shape) = table_added tables shape (table_refusal tables shape)

abbrev pub table_answer : Stage → List ℕ → List ℕ × Stage
table_answer (Tables tables) bytes = table_read tables (header_of_answer (answer_of bytes))
table_answer (Running world) bytes = (codes "refused Line", Running world)

-- the world, which begins with the first line of another form than `table`
abbrev pub world_of : Limits → Stage → State
world_of config (Tables tables) = empty_world config tables
world_of config (Running world) = world

abbrev pub event_answer : Reply × State → List ℕ × Stage
event_answer given = (line_of (reply_text given.0), Running given.1)

abbrev pub found_rows : Option (List (RowKey × List Value)) → List ℕ
found_rows None = line_of (desk_refusal_text desk.NoSuch)
found_rows (Some rows) = rows_text rows

abbrev pub rows_answer : State → ℕ → List ℕ
rows_answer world s = found_rows
    (option_map (λ end. map.entries end.tables.rows) (slice_get world.endpoints s))

abbrev pub found_entry : Option Entry → List ℕ
found_entry None = codes "refused NotPlaced"
found_entry (Some entry) = entry_text entry

abbrev pub entry_answer : State → ℕ → List ℕ
entry_answer world n = line_of (found_entry (entry_of world n))

abbrev pub found_changeset : Option (List Section) → List ℕ
found_changeset None = codes "refused NotPlaced"
found_changeset (Some sections) = codes "text " ++ bytes_word (text_of sections)

-- the bytes of an answer that is kept as a text, or as the changeset that `combine` made
abbrev pub answer_text : LineAnswer → List ℕ
answer_text (Text text) = text.items
answer_text (Combined sections) = line_of (found_changeset (Some sections))

abbrev pub combine_answer : State → ℕ → ℕ → List ℕ
combine_answer world first last = line_of (found_changeset (combined_of world first last))

abbrev pub left_answer : State → List ℕ
left_answer world = line_of (codes "left " ++ decimal (how_many_wait world))

abbrev pub with_line_end : List ℕ × Stage → List ℕ × Stage
with_line_end given = (line_of given.0, given.1)

abbrev pub form_answer : Limits → Stage → Option Form → List ℕ × Stage
form_answer config stage None = (line_of (codes "refused Line"), stage)
form_answer config stage (Some (form.Table bytes)) = with_line_end (table_answer stage bytes)
form_answer config stage (Some (form.Happens event)) =
    event_answer (outcome (world_of config stage) event)
form_answer config stage (Some (form.Entry n)) =
    (entry_answer (world_of config stage) n, Running (world_of config stage))
form_answer config stage (Some (form.Combine first last)) =
    (combine_answer (world_of config stage) first last, Running (world_of config stage))
form_answer config stage (Some (form.Rows s)) =
    (rows_answer (world_of config stage) s, Running (world_of config stage))
form_answer config stage (Some form.Left) =
    (left_answer (world_of config stage), Running (world_of config stage))

-- the answer to a line, each of its lines with a line end, and the stage after it
abbrev pub line_answer : Limits → Stage → List ℕ → List ℕ × Stage
line_answer config stage [] = ([], stage)
line_answer config stage (byte ∷ bytes) =
    if nat_lt most_of_line (length (byte ∷ bytes)) then
    (line_of (codes "refused LineTooLong"), stage)
    else form_answer config stage (form_of (byte ∷ bytes))
