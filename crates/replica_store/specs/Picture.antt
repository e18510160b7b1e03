-- The picture that a replica's database shows: which rows it stores, and the cursor. The order of
-- the rows in their table does not show.
use Rattle.std.specs.Prelude.{◌≡◌, ◌↔◌, ℕ, ℤ, pos, false, List, [], ◌∷◌, IsTrue}
use Rattle.sqlite_value.specs.declared.value.Value.TheVariants.{Null, Int, Blob}
use Rattle.sqlite.specs.Order.{Row}
use Rattle.sqlite.specs.State.{State}
use Rattle.sqlite.specs.Tree.{Trees, IsTable}
use Rattle.sqlite_rules.specs.Lists.{Has}
use Rattle.cs_model.specs.declared.row_key.RowKey.{RowKey}
use Rattle.replica_store.specs.Layout.{replica_schema}

-- which bytes are stored under a key: a row's values in canonical form
abbrev pub StoredRows : Type 1
StoredRows = RowKey → List ℕ → Type 0

-- a row of rb_row after its rowid: the table's number, the key's bytes and the body
abbrev pub row_record : ℤ → RowKey → List ℕ → Row
row_record id key body = Int id ∷ Int (pos key.table) ∷ Blob key.bytes ∷ Blob body ∷ []

-- the row of rb_mark: its id is the rowid 1, which the column itself keeps as NULL
abbrev pub mark_record : ℕ → Row
mark_record place = Int (pos 1) ∷ Null ∷ Int (pos place) ∷ []

-- the rows that the trees store
abbrev pub Stores : Trees → StoredRows
Stores db key body = (id : ℤ) × Has (db 0) (row_record id key body)

-- the cursor that the trees store: there is one mark, with this place
abbrev pub HasCursor : Trees → ℕ → Type 0
HasCursor db place = db 2 ≡ mark_record place ∷ []

-- the same bodies are stored under the same keys
abbrev pub AreSameRows : StoredRows → StoredRows → Type 0
AreSameRows a b = (key : RowKey) (body : List ℕ) → a key body ↔ b key body

-- The trees are those of a replica: rowids rise, each row has a table's number, a key and a body,
-- and there is one mark.
pub record IsReplica (db : Trees) : Type 0 where
  pub rising : IsTable (db 0)
  pub rows : (r : Row) → Has (db 0) r
      → (id : ℤ) × (key : RowKey) × (body : List ℕ) × (r ≡ row_record id key body)
  pub mark : (place : ℕ) × HasCursor db place

-- a replica without rows whose cursor is 0
pub record IsNewReplica (db : Trees) : Type 0 where
  pub replica : IsReplica db
  pub empty : (key : RowKey) (body : List ℕ) → Stores db key body → ⊥
  pub cursor : HasCursor db 0

-- The connection is open, no transaction is, and what is committed is a replica.
pub record HoldsReplica (s : State) : Type 0 where
  pub is_open : IsTrue s.is_open
  pub outside : s.in_transaction ≡ false
  pub settled : s.now ≡ s.committed
  pub schema : s.now.schema ≡ replica_schema
  pub replica : IsReplica s.committed.trees
