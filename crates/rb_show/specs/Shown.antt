-- Rows of a script's output as a person reads them: as SQL literals, or as JSON.
use Rattle.std.specs.Prelude.{ℕ, suc, Bool, ◌&&◌, not, ◌==◌, nat_le, List, [], ◌∷◌, ◌++◌, map}
use Rattle.std.specs.Prelude.{codes, Option, Some, None, Result, Ok, Err, if◌then◌else◌, slice_get}
use Rattle.std.specs.Fmt.{signed_decimal}
use Rattle.std.specs.List.{flat_map, list_all}
use Rattle.std.specs.Option.{option_and_then}
use Rattle.std.specs.Str.{is_utf8}
use Rattle.hex.specs.Hex.{encode_lower}
use Rattle.serde_json.specs.Data.{Data, null, number, string, array, object, member, no_members}
use Rattle.serde_json.specs.Find.{of_integer}
use Rattle.serde_json.specs.View.{items_of}
use Rattle.serde_json.specs.Written.{compact_text}
use Rattle.cs_model.specs.declared.change.Change.{Change}
use Rattle.cs_model.specs.declared.schema.TableFault.{TableFault}
use Rattle.cs_model.specs.declared.shape.Shape.{Shape}
use Rattle.cs_model.specs.declared.value.Value.{Value}
use Rattle.cs_model.specs.declared.value.Value.TheVariants.{Integer, Text, Blob, Null}
use Rattle.cs_model.specs.Row.{values_of}
use Rattle.cs_model.specs.Schema.{same_bytes, table_refusal}
use Rattle.cs_model.specs.Section.{Section}
use Rattle.cs_parse.specs.declared.fault.ParseFault.{ParseFault}
use Rattle.cs_parse.specs.Reading.{answer_of}
use Rattle.rb_show.specs.declared.row_form.RowForm.{RowForm}
use Rattle.rb_show.specs.declared.row_form.RowForm.TheVariants.{Sql, Json}
use Rattle.rb_script.specs.Lines.{header_of_answer}
use Rattle.rb_script.specs.Script.{lines_of}
use Rattle.rb_script.specs.Words.{words_of, number_in_word, bytes_of}

-- ---- values as SQL literals

-- whether a text can be shown between quotes: UTF-8 without control characters
abbrev pub is_printable : List ℕ → Bool
is_printable bytes = is_utf8 bytes
    && list_all (λ byte. nat_le 32 byte && not (byte == 127)) bytes

-- x'00ff'
abbrev pub blob_literal : List ℕ → List ℕ
blob_literal bytes = codes "x'" ++ (encode_lower bytes ++ codes "'")

-- 'it''s'
abbrev pub quote_doubled : ℕ → List ℕ
quote_doubled byte = if byte == 39 then 39 ∷ 39 ∷ [] else byte ∷ []

abbrev pub text_literal : List ℕ → List ℕ
text_literal bytes = codes "'" ++ (flat_map quote_doubled bytes ++ codes "'")

-- a value as SQL spells it; a text that can't be shown is spelled as a blob
abbrev pub literal : Value → List ℕ
literal (Integer n) = signed_decimal n
literal (Text bytes) = if is_printable bytes then text_literal bytes else blob_literal bytes
literal (Blob bytes) = blob_literal bytes
literal Null = codes "NULL"

abbrev pub next_literal : Value → List ℕ
next_literal value = codes ", " ++ literal value

abbrev pub literals : List Value → List ℕ
literals [] = []
literals (value ∷ values) = literal value ++ flat_map next_literal values

-- the table's name, the values, and a line end
abbrev pub name_shown : List ℕ → List ℕ
name_shown name = if is_printable name then name else blob_literal name

abbrev pub sql_line : List ℕ → List Value → List ℕ
sql_line name values = name_shown name ++ (codes ": " ++ (literals values ++ 10 ∷ []))

-- ---- values as JSON

-- {"hex":"00ff"}
abbrev pub hex_data : List ℕ → Data
hex_data bytes = object (member (codes "hex") (string (encode_lower bytes)) no_members)

abbrev pub text_data : List ℕ → Data
text_data bytes = if is_utf8 bytes then string bytes else hex_data bytes

abbrev pub value_data : Value → Data
value_data (Integer n) = number (of_integer n)
value_data (Text bytes) = text_data bytes
value_data (Blob bytes) = hex_data bytes
value_data Null = null

-- {"row":[1,"x"],"table":"t"}, and a line end
abbrev pub row_data : List ℕ → List Value → Data
row_data name values = object (member (codes "row") (array (items_of (map value_data values)))
    (member (codes "table") (text_data name) no_members))

abbrev pub json_line : List ℕ → List Value → List ℕ
json_line name values = compact_text (row_data name values) ++ 10 ∷ []

-- ---- lines

-- the tables that `table` lines gave, each with the header that its line spells
pub record ShownTables : Type 0 where
  pub shapes : List Shape
  pub headers : List (List ℕ)

abbrev pub tables_at : List Shape → List (List ℕ) → ShownTables
tables_at shapes headers = record { shapes = shapes; headers = headers }

-- a table is added as in a script: if the bytes are exactly one header, and the table isn't refused
abbrev pub table_unless : ShownTables → List ℕ → Shape → Option TableFault → ShownTables
table_unless tables header shape None =
    tables_at (tables.shapes ++ shape ∷ []) (tables.headers ++ header ∷ [])
table_unless tables header shape (Some fault) = tables

abbrev pub table_if : ShownTables → List ℕ → Option Shape → ShownTables
table_if tables header None = tables
table_if tables header (Some shape) =
    table_unless tables header shape (table_refusal tables.shapes shape)

-- the tables after a word that spells a table's header, if it spells bytes
abbrev pub table_shown : ShownTables → Option (List ℕ) → ShownTables
table_shown tables None = tables
table_shown tables (Some header) = table_if tables header (header_of_answer (answer_of header))

-- the tables after `table` with these words: one, which spells the header
abbrev pub tables_shown : ShownTables → List (List ℕ) → ShownTables
tables_shown tables [] = tables
tables_shown tables (word ∷ []) = table_shown tables (bytes_of word)
tables_shown tables (word ∷ more ∷ words) = tables

-- The name and the values, if the bytes are exactly one row of this table: after its header and the
-- two bytes of a direct INSERT they spell a changeset of one change.
abbrev pub row_alone : Shape → List Change → List Section → Option (List ℕ × List Value)
row_alone shape [] rest = None
row_alone shape (change ∷ []) [] = Some (shape.name, values_of change.after)
row_alone shape (change ∷ []) (section ∷ rest) = None
row_alone shape (change ∷ next ∷ changes) rest = None

abbrev pub row_among : List Section → Option (List ℕ × List Value)
row_among [] = None
row_among (section ∷ rest) = row_alone section.shape section.changes rest

-- the changeset that bytes spell, if they spell one
abbrev pub spelled_by : Result (List Section) ParseFault → Option (List Section)
spelled_by (Ok sections) = Some sections
spelled_by (Err fault) = None

abbrev pub spelled_after : List ℕ → Option (List ℕ) → Option (List Section)
spelled_after header None = None
spelled_after header (Some bytes) = spelled_by (answer_of (header ++ 18 ∷ 0 ∷ bytes))

-- the bytes that words spell, one after another; None if one of them spells none
abbrev pub bytes_with_front : List ℕ → Option (List ℕ) → Option (List ℕ)
bytes_with_front front None = None
bytes_with_front front (Some bytes) = Some (front ++ bytes)

abbrev pub bytes_of_words : List (List ℕ) → Option (List ℕ)
bytes_of_words [] = Some []
bytes_of_words (word ∷ words) =
    option_and_then (λ bytes. bytes_with_front bytes (bytes_of_words words)) (bytes_of word)

-- what a `row` line with these words spells: the table's index, and the row's bytes
abbrev pub spelled_in_words : ShownTables → List (List ℕ) → Option (List Section)
spelled_in_words tables [] = None
spelled_in_words tables (word ∷ words) =
    option_and_then (λ header. spelled_after header (bytes_of_words words))
    (option_and_then (λ table. slice_get tables.headers table) (number_in_word word))

-- its row
abbrev pub row_of_words : ShownTables → List (List ℕ) → Option (List ℕ × List Value)
row_of_words tables words = option_and_then row_among (spelled_in_words tables words)

-- the line of a row
abbrev pub row_line : RowForm → List ℕ × List Value → List ℕ
row_line Sql row = sql_line row.0 row.1
row_line Json row = json_line row.0 row.1

-- what a `row` line shows, if it has a row; the tables stay
abbrev pub row_shown : RowForm → ShownTables → Option (List ℕ × List Value)
    → Option (List ℕ × ShownTables)
row_shown form tables None = None
row_shown form tables (Some row) = Some (row_line form row, tables)

-- what a line of these words shows and the tables after it; None for a row that can't be read
abbrev pub words_shown : RowForm → ShownTables → List (List ℕ) → Option (List ℕ × ShownTables)
words_shown form tables [] = Some ([], tables)
words_shown form tables (name ∷ words) =
    if same_bytes name (codes "row") then row_shown form tables (row_of_words tables words)
    else if same_bytes name (codes "table") then Some ([], tables_shown tables words)
    else Some ([], tables)

abbrev pub line_shown : RowForm → ShownTables → List ℕ → Option (List ℕ × ShownTables)
line_shown form tables line = words_shown form tables (words_of line)

-- What these lines show, the first of which has this number, and the number of the first row that
-- can't be read, at which it ends.
abbrev pub shown_before : Option (List ℕ × ShownTables) → ℕ → (ShownTables → List ℕ × Option ℕ)
    → List ℕ × Option ℕ
shown_before None n rest = ([], Some n)
shown_before (Some given) n rest = (given.0 ++ (rest given.1).0, (rest given.1).1)

abbrev pub lines_shown : RowForm → ShownTables → ℕ → List (List ℕ) → List ℕ × Option ℕ
lines_shown form tables n [] = ([], None)
lines_shown form tables n (line ∷ lines) = shown_before (line_shown form tables line) n
    (λ after. lines_shown form after (suc n) lines)

abbrev pub rows_shown : RowForm → List ℕ → List ℕ × Option ℕ
rows_shown form input = lines_shown form (record { shapes = []; headers = [] }) 1 (lines_of input)
