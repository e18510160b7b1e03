-- The schema of a script: the tables that its `table` lines declare.
use Rattle.std.specs.Prelude.{ℕ, Bool, true, false, List, [], ◌∷◌, ◌++◌, length, nat_lt}
use Rattle.std.specs.Prelude.{Option, Some, None, if◌then◌else◌}
use Rattle.std.specs.List.{flat_map}
use Rattle.cs_model.specs.declared.schema.TableFault.{TableFault}
use Rattle.cs_model.specs.declared.shape.Shape.{Shape}
use Rattle.cs_model.specs.Schema.{table_refusal}
use Rattle.cs_parse.specs.Reading.{answer_of}
use Rattle.rb_script.specs.declared.forms.Form.{Form}
use Rattle.rb_script.specs.declared.forms.Form.TheVariants as form
use Rattle.rb_script.specs.Forms.{form_of}
use Rattle.rb_script.specs.Lines.{header_of_answer, most_of_line}

-- the form of a line, if it has one and isn't too long
abbrev pub form_in_line : List ℕ → Option Form
form_in_line line = if nat_lt most_of_line (length line) then None else form_of line

-- whether a line has another form than `table`
abbrev pub is_other_form : Option Form → Bool
is_other_form None = false
is_other_form (Some (form.Table bytes)) = false
is_other_form (Some other) = true

-- the lines before the first of another form
abbrev pub opening_lines : List (List ℕ) → List (List ℕ)
opening_lines [] = []
opening_lines (line ∷ lines) = if is_other_form (form_in_line line) then [] else line
    ∷ opening_lines lines

-- the shape that a `table` line spells, if it spells one header
abbrev pub listed_shape : Option Shape → List Shape
listed_shape None = []
listed_shape (Some shape) = shape ∷ []

abbrev pub shape_by_form : Option Form → List Shape
shape_by_form None = []
shape_by_form (Some (form.Table bytes)) = listed_shape (header_of_answer (answer_of bytes))
shape_by_form (Some other) = []

abbrev pub shapes_in : List (List ℕ) → List Shape
shapes_in lines = flat_map (λ line. shape_by_form (form_in_line line)) lines

-- tables, and of more shapes each that isn't refused after those before it
abbrev pub with_declared : List Shape → Shape → Option TableFault → List Shape
with_declared tables shape None = tables ++ shape ∷ []
with_declared tables shape (Some fault) = tables

abbrev pub with_all_declared : List Shape → List Shape → List Shape
with_all_declared tables [] = tables
with_all_declared tables (shape ∷ shapes) =
    with_all_declared (with_declared tables shape (table_refusal tables shape)) shapes

-- The schema of a script with these lines: the shapes that its `table` lines spell, before its
-- first line of another form, without those that are refused.
abbrev pub schema_of_script : List (List ℕ) → List Shape
schema_of_script lines = with_all_declared [] (shapes_in (opening_lines lines))
