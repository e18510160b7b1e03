-- The steps of showing rows: what private functions take and give.
use Rattle.std.specs.Prelude.{◌≡◌, ℕ, Bool, List, [], ◌∷◌, ◌++◌, Option, Some, None, Result, Ok}
use Rattle.std.specs.Prelude.{Err, codes, if◌then◌else◌}
use Rattle.std.specs.Io.KnownBytes.{Appends, Keeps}
use Rattle.serde_json.specs.Data.{Data}
use Rattle.cs_model.specs.declared.value.Field.{Field}
use Rattle.cs_model.specs.declared.value.Field.TheVariants.{Undefined, Is}
use Rattle.cs_model.specs.declared.value.Value.{Value}
use Rattle.cs_model.specs.Row.{values_of}
use Rattle.rb_show.specs.declared.show_fault.ShowError.{ShowError}
use Rattle.rb_show.specs.declared.show_fault.ShowError.TheVariants.{Read, Write, Row, Memory}
use Rattle.rb_show.specs.declared.tables.NamedRow.{NamedRow}
use Rattle.rb_show.specs.declared.tables.TableList.{TableList}
use Rattle.rb_show.specs.Shown.{ShownTables, literal, tables_at, value_data}
use Rattle.rb_script.specs.Streams.{AppendsFront}

abbrev pub tables_seen : TableList → ShownTables
tables_seen tables = tables_at tables.schema tables.headers.items

abbrev pub named_row : NamedRow → List ℕ × List Value
named_row row = (row.name.now, values_of row.values)

-- what is appended for a field: nothing for one without a value, and a comma after others
abbrev pub field_shown : Field → List ℕ
field_shown Undefined = []
field_shown (Is value) = literal value

abbrev pub field_literal : Bool → Field → List ℕ
field_literal later field = (if later then codes ", " else []) ++ field_shown field

-- the same as JSON
abbrev pub field_data : Field → Option Data
field_data Undefined = None
field_data (Is value) = Some (value_data value)

abbrev pub field_items : Option Data → List Data
field_items None = []
field_items (Some item) = item ∷ []

-- how a line is shown, by the result: what it shows and the tables after it, or its number
abbrev pub IsLineShown : Option (List ℕ × ShownTables) → ShownTables → Option (List ℕ)
    → Option (List ℕ) → Type 0
IsLineShown None tables w0 w = ⊥
IsLineShown (Some given) tables w0 w = (tables ≡ given.1) × Appends w0 w given.0

abbrev pub IsLineCut : Option (List ℕ × ShownTables) → Option (List ℕ) → Option (List ℕ) → Type 0
IsLineCut None w0 w = Keeps w0 w
IsLineCut (Some given) w0 w = AppendsFront w0 w given.0

abbrev pub IsLineBad : Option (List ℕ × ShownTables) → Option (List ℕ) → Option (List ℕ) → Type 0
IsLineBad None w0 w = Keeps w0 w
IsLineBad (Some given) w0 w = ⊥

abbrev pub ShowsLine : {A : Type 0} → Result A ShowError → ℕ → Option (List ℕ × ShownTables)
    → ShownTables → Option (List ℕ) → Option (List ℕ) → Type 0
ShowsLine (Ok done) number given tables w0 w = IsLineShown given tables w0 w
ShowsLine (Err (Read why)) number given tables w0 w = ⊥
ShowsLine (Err (Write why)) number given tables w0 w = IsLineCut given w0 w
ShowsLine (Err (Row n)) number given tables w0 w = (n ≡ number) × IsLineBad given w0 w
ShowsLine (Err Memory) number given tables w0 w = IsLineCut given w0 w

-- a fault while the input is read: of the reader, or out of memory
abbrev pub IsOfInput : ShowError → Type 0
IsOfInput (Read why) = Unit {0}
IsOfInput Memory = Unit {0}
IsOfInput fault = ⊥

-- a fault of the writer
abbrev pub IsOfOutput : ShowError → Type 0
IsOfOutput (Write why) = Unit {0}
IsOfOutput fault = ⊥
