-- Which lines are refused or faulty, by what the broker replies and what it has.
use Rattle.std.specs.Prelude.{ℕ, Bool, true, false, List, [], ◌∷◌, length, nat_lt, Option, Some}
use Rattle.std.specs.Prelude.{None}
use Rattle.std.specs.Prelude.{is_some, not, slice_get, if◌then◌else◌}
use Rattle.cs_model.specs.declared.shape.Shape.{Shape}
use Rattle.cs_model.specs.Schema.{table_refusal}
use Rattle.cs_parse.specs.Reading.{answer_of}
use Rattle.rb_desk.specs.Limits.{Limits}
use Rattle.rb_core.specs.declared.reply.Reply.{Reply}
use Rattle.rb_core.specs.declared.reply.Reply.TheVariants as reply
use Rattle.rb_core.specs.Combined.{combined_of}
use Rattle.rb_core.specs.Outcome.{outcome, entry_of}
use Rattle.rb_script.specs.declared.forms.Form.{Form}
use Rattle.rb_script.specs.declared.forms.Form.TheVariants as form
use Rattle.rb_script.specs.declared.lines.Stage.{Stage}
use Rattle.rb_script.specs.declared.lines.Stage.TheVariants.{Tables, Running}
use Rattle.rb_script.specs.Forms.{form_of}
use Rattle.rb_script.specs.Lines.{header_of_answer, most_of_line, world_of}

-- a reply that refuses its event or reports a fault
abbrev pub reply_refuses : Reply → Bool
reply_refuses (reply.Refused why) = true
reply_refuses (reply.Fault fault) = true
reply_refuses other = false

-- a table that isn't added
abbrev pub shape_refused : List Shape → Option Shape → Bool
shape_refused tables None = true
shape_refused tables (Some shape) = is_some (table_refusal tables shape)

abbrev pub table_refused : Stage → List ℕ → Bool
table_refused (Tables tables) bytes = shape_refused tables (header_of_answer (answer_of bytes))
table_refused (Running world) bytes = true

-- a line of this form
abbrev pub form_refused : Limits → Stage → Option Form → Bool
form_refused config stage None = true
form_refused config stage (Some (form.Table bytes)) = table_refused stage bytes
form_refused config stage (Some (form.Happens event)) =
    reply_refuses (outcome (world_of config stage) event).0
form_refused config stage (Some (form.Entry n)) = not (is_some (entry_of (world_of config stage) n))
form_refused config stage (Some (form.Combine first last)) =
    not (is_some (combined_of (world_of config stage) first last))
form_refused config stage (Some (form.Rows s)) =
    not (is_some (slice_get (world_of config stage).endpoints s))
form_refused config stage (Some form.Left) = false

-- whether a line is refused or faulty; an empty one isn't
abbrev pub line_refused : Limits → Stage → List ℕ → Bool
line_refused config stage [] = false
line_refused config stage (byte ∷ bytes) =
    if nat_lt most_of_line (length (byte ∷ bytes)) then true else form_refused config stage
    (form_of (byte ∷ bytes))
