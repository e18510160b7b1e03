-- The rows of a schema that a replica stores, and tables that have them.
use Rattle.std.specs.Prelude.{◌≡◌, ℕ, true, pos, List, length, Option, Some, option_map}
use Rattle.std.specs.Prelude.{slice_get, replicate, if◌then◌else◌}
use Rattle.std.specs.List.{AllByRecursion}
use Rattle.std.specs.FinMap as map
use Rattle.sqlite_value.specs.declared.value.Value.TheVariants.{Int, Blob}
use Rattle.sqlite_value.specs.Order.{column}
use Rattle.sqlite.specs.Order.{Row}
use Rattle.cs_model.specs.KeyBytes.{key_bytes}
use Rattle.cs_model.specs.Packed.{Fits}
use Rattle.cs_model.specs.Row.{row_fields}
use Rattle.cs_model.specs.declared.row_key.RowKey.{RowKey}
use Rattle.cs_model.specs.declared.shape.Shape.{Shape}
use Rattle.cs_model.specs.declared.value.Value.{Value}
use Rattle.sqlite_rules.specs.Lists.{Has}
use Rattle.cs_apply.specs.SameKey.{same_key}
use Rattle.cs_apply.specs.State.{Rows, TableState}
use Rattle.replica_store.specs.Changes.{row_body}
use Rattle.replica_store.specs.Picture.{StoredRows, AreSameRows}

-- A row of a table, with the bytes of its key: one value for each column, each of which has
-- canonical bytes, and the key's values joined.
pub record IsKeyedRow (shape : Shape) (bytes : List ℕ) (row : List Value) : Type 0 where
  pub columns : length row ≡ length shape.flags
  pub fit : AllByRecursion Fits (row_fields row)
  pub keyed : bytes ≡ key_bytes shape.flags (row_fields row)

-- the same of a key, whose table is one of the schema
abbrev pub IsSchemaRow : List Shape → RowKey → List Value → Type 0
IsSchemaRow schema key row = (shape : Shape) × (slice_get schema key.table ≡ Some shape)
    × IsKeyedRow shape key.bytes row

-- What is stored is rows of the schema: each body is that of such a row, and no key has two.
pub record AreSchemaRows (schema : List Shape) (rows : StoredRows) : Type 0 where
  pub each : (key : RowKey) (body : List ℕ) → rows key body
      → (row : List Value) × (body ≡ row_body row) × IsSchemaRow schema key row
  pub once : (key : RowKey) (first second : List ℕ) → rows key first → rows key second
      → first ≡ second

-- a row of an answer shows this key and this body
pub record ShowsBody (shown : Row) (key : RowKey) (body : List ℕ) : Type 0 where
  pub table : column shown 0 ≡ Int (pos key.table)
  pub bytes : column shown 1 ≡ Blob key.bytes
  pub is : column shown 2 ≡ Blob body

-- the body of the row that tables have for a key
abbrev pub body_at : Rows → RowKey → Option (List ℕ)
body_at rows key = option_map row_body (map.get rows key)

-- the bodies of the rows that tables have
abbrev pub TableBodies : Rows → StoredRows
TableBodies rows key body = body_at rows key ≡ Some body

-- tables of this schema that keep every table, with the rows that are stored
pub record LoadsRows (schema : List Shape) (rows : StoredRows) (tables : TableState) : Type 0 where
  pub schema_is : tables.schema ≡ schema
  pub keeps_all : tables.kept ≡ replicate (length schema) true
  pub rows_are : AreSameRows rows (TableBodies tables.rows)

-- the rows that an answer shows
abbrev pub ShownBodies : List Row → StoredRows
ShownBodies answer key body = (shown : Row) × Has answer shown × ShowsBody shown key body

-- each row of the answer shows a key and a body
abbrev pub AllShow : List Row → Type 0
AllShow answer = (shown : Row) → Has answer shown
    → (key : RowKey) × (body : List ℕ) × ShowsBody shown key body

-- The tables with this body at this key. It had none, or this one.
pub record PutsBody (key : RowKey) (body : List ℕ) (old new : TableState) : Type 0 where
  pub same_schema : new.schema ≡ old.schema
  pub same_kept : new.kept ≡ old.kept
  pub was : (other : List ℕ) → body_at old.rows key ≡ Some other → other ≡ body
  pub now : (q : RowKey) → body_at new.rows q
      ≡ (if same_key q key then Some body else body_at old.rows q)

-- the tables with what the row of an answer shows, which is a row of their schema
pub record AddsShown (shown : Row) (old new : TableState) : Type 0 where
  pub key : RowKey
  pub row : List Value
  pub fits : IsSchemaRow old.schema key row
  pub shows : ShowsBody shown key (row_body row)
  pub puts : PutsBody key (row_body row) old new

-- the tables have another body for this key
pub record HasOtherBody (tables : TableState) (key : RowKey) (body : List ℕ) : Type 0 where
  pub there : List ℕ
  pub has : body_at tables.rows key ≡ Some there
  pub differs : there ≡ body → ⊥

-- what the row of an answer shows is no row of the schema, or the tables have another for its key
abbrev pub CannotAdd : Row → TableState → Type 0
CannotAdd shown tables = (key : RowKey) (row : List Value) → ShowsBody shown key (row_body row)
    → IsSchemaRow tables.schema key row → HasOtherBody tables key (row_body row)
