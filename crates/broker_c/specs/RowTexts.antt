-- Rows as the text of a changeset, with an INSERT for each of them.
use Rattle.std.specs.Prelude.{ℕ, false, List, [], ◌∷◌, ◌++◌, ◌==◌, if◌then◌else◌, slice_get}
use Rattle.std.specs.Prelude.{Option, Some, None}
use Rattle.cs_model.specs.declared.change.Op.TheVariants.{Insert}
use Rattle.cs_model.specs.declared.row_key.RowKey.{RowKey}
use Rattle.cs_model.specs.declared.shape.Shape.{Shape}
use Rattle.cs_model.specs.declared.value.Value.{Value}
use Rattle.cs_model.specs.PackedChanges.{change_bytes, change_of}
use Rattle.cs_model.specs.Row.{row_fields}
use Rattle.cs_write.specs.Text.{header_text}

-- a row as an INSERT
abbrev pub insert_bytes : List Value → List ℕ
insert_bytes row = change_bytes (change_of Insert false [] (row_fields row))

-- the header of a table, if there is one
abbrev pub header_of : Option Shape → List ℕ
header_of None = []
header_of (Some shape) = header_text shape

-- the header of a table, unless the last row is of that one
abbrev pub header_before : List Shape → Option ℕ → ℕ → List ℕ
header_before tables None table = header_of (slice_get tables table)
header_before tables (Some last) table = if last == table then []
    else header_of (slice_get tables table)

-- a row of a table, after one of the table `last`
abbrev pub row_changeset : List Shape → Option ℕ → ℕ → List Value → List ℕ
row_changeset tables last table row = header_before tables last table ++ insert_bytes row

-- rows in their order, those of each table after its header
abbrev pub rows_changeset : List Shape → Option ℕ → List (RowKey × List Value) → List ℕ
rows_changeset tables last [] = []
rows_changeset tables last (row ∷ rows) =
    row_changeset tables last row.0.table row.1 ++ rows_changeset tables (Some row.0.table) rows
