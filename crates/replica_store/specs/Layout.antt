-- The tables of a replica's database, as SQLite reads the two statements that make them:
--   CREATE TABLE rb_row(tab INTEGER NOT NULL, rowkey BLOB NOT NULL, body BLOB NOT NULL,
--     PRIMARY KEY (tab, rowkey))
--   CREATE TABLE rb_mark(id INTEGER PRIMARY KEY, place INTEGER NOT NULL)
-- Tree 0 has the rows, tree 1 the index of their primary key, and tree 2 the mark.
use Rattle.std.specs.Prelude.{◌≡◌, ℕ, List, [], ◌∷◌, Some, None, Bool, true, false, codes}
use Rattle.sqlite_value.specs.Keys.{plain}
use Rattle.sqlite_value.specs.declared.value.Value.TheVariants.{Null}
use Rattle.sqlite.specs.Collation.TheVariants.{Binary}
use Rattle.sqlite_schema.specs.declared.schema.Column.{Column}
use Rattle.sqlite_schema.specs.declared.schema.Index.{Index}
use Rattle.sqlite.specs.Kind.{Kind}
use Rattle.sqlite.specs.Kind.TheVariants.{Integer, Any}
use Rattle.sqlite.specs.Schema.{Schema}
use Rattle.sqlite.specs.Table.{Table}

-- a column without a default; SQLite calls the affinity of a BLOB column `Any` here
abbrev pub plain_column : List ℕ → Kind → Bool → Column
plain_column name kind not_null = record {
  name = name;
  kind = kind;
  is_strict = false;
  not_null = not_null;
  default = Null;
  collation = Binary;
}

-- the rows: (tab, rowkey) is the primary key
abbrev pub rb_row : Table
rb_row = record {
  name = codes "rb_row";
  tree = 0;
  columns = plain_column (codes "tab") Integer true ∷ plain_column (codes "rowkey") Any true
      ∷ plain_column (codes "body") Any true ∷ [];
  key = None;
  primary = 1 ∷ 2 ∷ [];
  uniques = (1 ∷ 2 ∷ []) ∷ [];
  orders = plain ∷ [];
  checks = [];
  references = [];
  computed = [];
  stamps = record { places = []; terms = []; formats = [] };
  is_counted = false;
}

-- the mark: `id` is the rowid
abbrev pub rb_mark : Table
rb_mark = record {
  name = codes "rb_mark";
  tree = 2;
  columns = plain_column (codes "id") Integer false ∷ plain_column (codes "place") Integer true
      ∷ [];
  key = Some 0;
  primary = 0 ∷ [];
  uniques = [];
  orders = [];
  checks = [];
  references = [];
  computed = [];
  stamps = record { places = []; terms = []; formats = [] };
  is_counted = false;
}

-- the index that SQLite makes for the key of rb_row
abbrev pub key_index : Index
key_index = record {
  name = codes "sqlite_autoindex_rb_row_1";
  tree = 1;
  table = 0;
  columns = 1 ∷ 2 ∷ [];
  order = plain;
  is_unique = true;
}

-- no CHECK, reference, computed default or AUTOINCREMENT
pub record HasNoRules (table : Table) : Type 0 where
  pub checks : table.checks ≡ []
  pub references : table.references ≡ []
  pub computed : table.computed ≡ []
  pub stamps : table.stamps ≡ record { places = []; terms = []; formats = [] }
  pub uncounted : table.is_counted ≡ false

-- no table, no index and no view
abbrev pub empty_schema : Schema
empty_schema = record { tables = []; indexes = []; views = [] }

-- the first table alone, with its index
abbrev pub rows_schema : Schema
rows_schema = record { tables = rb_row ∷ []; indexes = key_index ∷ []; views = [] }

-- both tables, and nothing else
abbrev pub replica_schema : Schema
replica_schema = record { tables = rb_row ∷ rb_mark ∷ []; indexes = key_index ∷ []; views = [] }
