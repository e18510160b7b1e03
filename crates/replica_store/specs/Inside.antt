-- What the statements of a transaction do to a replica's trees.
use Rattle.std.specs.Prelude.{◌≡◌, ◌⊎◌, ℕ, List, [], IsTrue}
use Rattle.sqlite.specs.Effect.{IsDatabase}
use Rattle.sqlite.specs.State.{State}
use Rattle.cs_model.specs.declared.row_key.RowKey.{RowKey}
use Rattle.replica_store.specs.Layout.{empty_schema, rows_schema, replica_schema}
use Rattle.replica_store.specs.Picture.{StoredRows, Stores, AreSameRows, IsReplica, IsNewReplica}
use Rattle.replica_store.specs.Picture.{HasCursor}

-- the rows but the one under this key
abbrev pub WithoutRow : RowKey → StoredRows → StoredRows
WithoutRow removed rows key body = (key ≡ removed → ⊥) × rows key body

-- the rows with this one under its key, in place of any other there
abbrev pub WithBody : RowKey → List ℕ → StoredRows → StoredRows
WithBody put value rows key body =
    ((key ≡ put) × (body ≡ value)) ⊎ ((key ≡ put → ⊥) × rows key body)

-- a transaction is open over a replica's trees, which obey their schema
pub record IsInside (s : State) : Type 0 where
  pub is_open : IsTrue s.is_open
  pub inside : IsTrue s.in_transaction
  pub schema : s.now.schema ≡ replica_schema
  pub sound : IsDatabase s.now
  pub replica : IsReplica s.now.trees

-- the rows change so, and the cursor stays
pub record ChangesRows (change : StoredRows → StoredRows) (old new : State) : Type 0 where
  pub inside : IsInside new
  pub rows : AreSameRows (Stores new.now.trees) (change (Stores old.now.trees))
  pub mark : new.now.trees 2 ≡ old.now.trees 2

-- the cursor is set, and the rows stay
pub record SetsCursor (place : ℕ) (old new : State) : Type 0 where
  pub inside : IsInside new
  pub rows : new.now.trees 0 ≡ old.now.trees 0
  pub mark : HasCursor new.now.trees place

-- a transaction is open over a database without a table
pub record IsBlankInside (s : State) : Type 0 where
  pub inside : IsTrue s.in_transaction
  pub schema : s.now.schema ≡ empty_schema

-- a transaction is open, and the table of rows is there and empty
pub record HasRowTable (s : State) : Type 0 where
  pub is_open : IsTrue s.is_open
  pub inside : IsTrue s.in_transaction
  pub schema : s.now.schema ≡ rows_schema
  pub empty : s.now.trees 0 ≡ []

-- a transaction is open, and both tables are there and empty
pub record HasBothTables (s : State) : Type 0 where
  pub is_open : IsTrue s.is_open
  pub inside : IsTrue s.in_transaction
  pub schema : s.now.schema ≡ replica_schema
  pub sound : IsDatabase s.now
  pub empty : s.now.trees 0 ≡ []
  pub unmarked : s.now.trees 2 ≡ []

-- a transaction is open over the trees of a new replica
pub record IsNewInside (s : State) : Type 0 where
  pub inside : IsTrue s.in_transaction
  pub schema : s.now.schema ≡ replica_schema
  pub replica : IsNewReplica s.now.trees
