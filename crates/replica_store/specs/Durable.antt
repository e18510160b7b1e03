-- A replica as a durable store of the rows of tables and a cursor.
use Rattle.std.specs.Prelude.{◌≡◌, ◌≢◌, ◌⊎◌, ℕ, ◌≤◌, ◌^◌}
use Rattle.cs_apply.specs.State.{Rows}
use Rattle.sqlite.specs.State.{HasCleanDisk, State}
use Rattle.sqlite.specs.Tree.{Trees}
use Rattle.par_apply.specs.RowChanges.{RowChanges}
use Rattle.replica_store.specs.Causes.{CannotCommit, HasStoreCause}
use Rattle.replica_store.specs.Loading.{TableBodies}
use Rattle.replica_store.specs.Picture.{AreSameRows, HasCursor, HoldsReplica, Stores}
use Rattle.replica_store.specs.declared.error.ReplicaError.{ReplicaError}
use Rattle.replica_store.specs.declared.error.ReplicaError.TheVariants.{Store, Unusable}

-- the trees store the bodies of these rows, and this cursor
pub record HasRows (db : Trees) (rows : Rows) (place : ℕ) : Type 0 where
  pub rows_are : AreSameRows (Stores db) (TableBodies rows)
  pub cursor : HasCursor db place

-- A replica is held, with these rows and this cursor, and a crash leaves them.
pub record HoldsRows (s : State) (rows : Rows) (place : ℕ) : Type 0 where
  pub held : HoldsReplica s
  pub now : HasRows s.committed.trees rows place
  pub stands : (db : Trees) → s.may_leave db → HasRows db rows place

-- the same, where nobody else writes the database and the disk returns what was written
abbrev pub KeepsRows : State → Rows → ℕ → Type 0
KeepsRows s rows place = HasCleanDisk s → HoldsRows s rows place

-- a crash leaves the first rows with the first cursor, or the second rows with the second
abbrev pub LeavesEither : State → Rows → ℕ → Rows → ℕ → Type 0
LeavesEither s first at second later = HasCleanDisk s → (db : Trees) → s.may_leave db
    → HasRows db first at ⊎ HasRows db second later

-- Why a commit of these changes and this cursor returned this error, which is never `Unusable`: if
-- `Store`, the cursor is 2^63 or more, or the commit has a cause.
abbrev pub FailsToKeep : State → RowChanges → ℕ → State → ReplicaError → Type 0
FailsToKeep old changes cursor new why = (why ≢ Unusable) × (HasCleanDisk new → why ≡ Store
    → (2 ^ 63 ≤ cursor) ⊎ HasStoreCause (CannotCommit changes old.committed.trees) old new)
