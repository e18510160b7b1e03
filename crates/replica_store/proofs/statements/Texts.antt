-- What the texts of the statements mean under the schemas that they run over.
use Rattle.std.proofs.Common.{◌≡◌, ◌++◌, pos, negsuc, List, ℕ, [], ◌∷◌, codes, false, None, Ok, refl, arith}
use Rattle.sqlite_value.specs.declared.value.Value.TheVariants.{Null, Int}
use Rattle.sqlite_value.specs.declared.keys.Collation.TheVariants.{Binary}
use Rattle.sqlite_sql.specs.declared.ops.BinaryOp.TheVariants.{Compare}
use Rattle.sqlite_sql.specs.declared.ops.CompareOp.TheVariants.{Eq}
use Rattle.sqlite_sql.specs.declared.ops.UnaryOp.TheVariants.{ToNumeric}
use Rattle.sqlite_sql.specs.Term.{Term, lit, col, op1, op2}
use Rattle.sqlite_sql.specs.Query.{Query, inner, end}
use Rattle.sqlite_schema.specs.declared.schema.Schema.{Schema}
use Rattle.sqlite_schema.specs.declared.schema.Table.{Table}
use Rattle.sqlite.specs.Source.TheVariants.{Values}
use Rattle.sqlite.specs.Command.{Command}
use Rattle.sqlite.specs.Command.TheVariants.{Insert, Delete, Update, CreateTable}
use Rattle.std.proofs.lemmas.Fmt.{decimal_digit}
use Rattle.sqlite.specs.Change.{created}
use Rattle.sqlite.specs.Compile.{table_defined_by}
use Rattle.sqlite_rules.proofs.ProbeLemmas.{rowid_query}
use Rattle.sqlite_tied.specs.Compute.{everything}
use Rattle.sqlite.specs.Listing.{understood}
use Rattle.sqlite.proofs.Callers.{IsPlain, command_of, statement_of}
use Rattle.replica_store.specs.Layout.{empty_schema, rows_schema, replica_schema, rb_row, rb_mark}

-- the text makes this table
pub record MakesThisTable (schema : Schema) (text : List ℕ) (table : Table) : Type 0 where
  pub command : command_of (understood schema text) ≡ CreateTable
  pub statement : statement_of text (understood schema text) ≡ text
  pub defines : table_defined_by text ≡ Ok table
  pub plain : IsPlain (understood schema text)

abbrev pub create_row_text : List ℕ
create_row_text =
    codes "CREATE TABLE rb_row(tab INTEGER NOT NULL, rowkey BLOB NOT NULL, body BLOB NOT NULL, "
    ++ codes "PRIMARY KEY (tab, rowkey))"

abbrev pub create_mark_text : List ℕ
create_mark_text = codes "CREATE TABLE rb_mark(id INTEGER PRIMARY KEY, place INTEGER NOT NULL)"

-- the mark's table before it gets its tree
abbrev pub unplaced_mark : Table
unplaced_mark = record rb_mark { tree = 0 }

pub with_row_table : created empty_schema rb_row ≡ rows_schema
with_row_table = rw (decimal_digit 1 (omega arith))

pub with_mark_table : created rows_schema unplaced_mark ≡ replica_schema
with_mark_table = refl

pub makes_row_table : MakesThisTable empty_schema create_row_text rb_row
unfolding understood everything
makes_row_table = record { command = refl; statement = refl; defines = refl; plain = (refl, refl) }

pub makes_mark_table : MakesThisTable rows_schema create_mark_text unplaced_mark
unfolding understood everything
makes_mark_table = record { command = refl; statement = refl; defines = refl; plain = (refl, refl) }

-- over a replica's tables the text means this command
pub record Means (text : List ℕ) (meant : Command) : Type 0 where
  pub command : command_of (understood replica_schema text) ≡ meant
  pub plain : IsPlain (understood replica_schema text)

abbrev pub first_mark_text : List ℕ
first_mark_text = codes "INSERT INTO rb_mark VALUES (1, 0)"

abbrev pub first_mark_terms : List Term
first_mark_terms = lit (Int (pos 1)) ∷ lit Null ∷ lit (Int (pos 0)) ∷ []

pub means_first_mark : Means first_mark_text (Insert 1 (Values first_mark_terms 3))
unfolding understood everything
means_first_mark = record { command = refl; plain = (refl, refl) }

abbrev pub delete_text : List ℕ
delete_text = codes "DELETE FROM rb_row WHERE tab = ?1 AND rowkey = ?2"

-- the tests for the row of a key
abbrev pub key_tests : List Term
key_tests = op2 (Compare Eq Binary) (col 1 1) (op1 ToNumeric (col 0 0)) ∷ op2 (Compare Eq Binary) (col 1 2)
    (col 0 1) ∷ []

abbrev pub delete_query : Query
delete_query = record (rowid_query 0 key_tests) { limit = lit (Int (negsuc 0)); offset = lit (Int (pos 0)) }

pub means_delete : Means delete_text (Delete 0 (record { lets = []; body = delete_query }))
unfolding understood everything
means_delete = record { command = refl; plain = (refl, refl) }

abbrev pub update_text : List ℕ
update_text = codes "UPDATE rb_row SET body = ?3 WHERE tab = ?1 AND rowkey = ?2"

abbrev pub update_terms : List Term
update_terms = col 1 0 ∷ col 1 0 ∷ col 1 1 ∷ col 1 2 ∷ col 0 2 ∷ []

abbrev pub update_query : Query
update_query = record delete_query { project = update_terms }

pub means_update : Means update_text (Update 0 (record { lets = []; body = update_query }))
unfolding understood everything
means_update = record { command = refl; plain = (refl, refl) }

abbrev pub insert_text : List ℕ
insert_text = codes "INSERT INTO rb_row VALUES (?1, ?2, ?3)"

abbrev pub insert_terms : List Term
insert_terms = lit Null ∷ col 0 0 ∷ col 0 1 ∷ col 0 2 ∷ []

pub means_insert : Means insert_text (Insert 0 (Values insert_terms 4))
unfolding understood everything
means_insert = record { command = refl; plain = (refl, refl) }

abbrev pub set_cursor_text : List ℕ
set_cursor_text = codes "UPDATE rb_mark SET place = ?1"

abbrev pub cursor_query : Query
cursor_query = record {
  from = inner 2 end;
  filter = [];
  group = None;
  project = col 1 0 ∷ col 1 0 ∷ lit Null ∷ col 0 0 ∷ [];
  distinct = false;
  collations = [];
  order = [];
  limit = lit (Int (negsuc 0));
  offset = lit (Int (pos 0));
}

pub means_set_cursor : Means set_cursor_text (Update 1 (record { lets = []; body = cursor_query }))
unfolding understood everything
means_set_cursor = record { command = refl; plain = (refl, refl) }
