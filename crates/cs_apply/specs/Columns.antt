-- Tables whose rows have a value for each column.
use Rattle.std.specs.Prelude.{◌≡◌, ℕ, List, [], length, Some, get_or}
use Rattle.std.specs.FinMap as map
use Rattle.cs_model.specs.declared.row_key.RowKey.{RowKey}
use Rattle.cs_model.specs.declared.shape.Shape.{Shape}
use Rattle.cs_model.specs.declared.value.Value.{Value}
use Rattle.cs_apply.specs.State.{Rows, TableState}

-- the key flags of the table with this index; none if there is no such table
abbrev pub table_flags : List Shape → ℕ → List ℕ
table_flags schema table = (get_or schema table (record { name = []; flags = [] })).flags

-- each row has one value for each column of its table
abbrev pub RowsHaveColumns : List Shape → Rows → Type 0
RowsHaveColumns schema rows = (key : RowKey) (row : List Value) → map.get rows key ≡ Some row
    → length row ≡ length (table_flags schema key.table)

abbrev pub HaveColumns : TableState → Type 0
HaveColumns tables = RowsHaveColumns tables.schema tables.rows
