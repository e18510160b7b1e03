-- What a call leaves of a connection, where the disk returned what was written.
use Rattle.std.specs.Prelude.{◌≡◌, ◌⊎◌, ℕ, false, IsTrue, OnOk, OnErr, IfOk, Result}
use Rattle.std.specs.Global.{Vec}
use Rattle.sqlite.specs.Order.{Row}
use Rattle.sqlite.specs.State.{HasCleanDisk, IsRolledBack, IsUnchanged, State, Survives}
use Rattle.sqlite.specs.Tree.{Trees}
use Rattle.par_apply.specs.RowChanges.{RowChanges}
use Rattle.replica_store.specs.Changes.{Commits}
use Rattle.replica_store.specs.Picture.{HoldsReplica, IsNewReplica}
use Rattle.replica_store.specs.Reading.{HasTableColumns, ListsRows}

-- this is so, where the disk returned what was written
abbrev pub WhereClean : (State → Type 0) → State → Type 0
WhereClean Is s = HasCleanDisk s → Is s

-- the same after a call that returned Ok
abbrev pub Reaches : {T E : Type 0} → Result T E → (State → Type 0) → State → Type 0
Reaches result Is new = HasCleanDisk new → OnOk result (Is new)

-- the same of what was before the call and what is after it
abbrev pub Makes : {T E : Type 0} → Result T E → (State → State → Type 0) → State → State → Type 0
Makes result Is old new = HasCleanDisk new → OnOk result (Is old new)

-- the same after a call that returned an error
abbrev pub AfterError : {T E : Type 0} → Result T E → (State → State → Type 0) → State → State
    → Type 0
AfterError result Is old new = HasCleanDisk new → OnErr result (Is old new)

-- a crash leaves nothing that it didn't leave before
abbrev pub AddsNone : State → State → Type 0
AddsNone old new = Survives old new (λ _. ⊥)

-- nothing changed, or the transaction is undone
abbrev pub IsUndone : State → State → Type 0
IsUndone old new = IsUnchanged old new ⊎ IsRolledBack old new

-- No transaction is open, and an open connection holds the replica that it held.
pub record StillHolds (old new : State) : Type 0 where
  pub outside : new.in_transaction ≡ false
  pub held : IsTrue new.is_open → HoldsReplica new × (new.committed ≡ old.committed)

-- A connection that is handed back: a transaction is open exactly if one was. An open connection
-- was open before, and has the same tables.
pub record IsHandedBack (old new : State) : Type 0 where
  pub mode : new.in_transaction ≡ old.in_transaction
  pub same : HasCleanDisk new → IsTrue new.is_open
      → IsTrue old.is_open × (new.now ≡ old.now) × (new.committed ≡ old.committed)

-- a query that shows each row of a tree so, and changes nothing
abbrev pub ListsTree : {E : Type 0} → (Row → Row) → ℕ → Result (Vec Row) E → State → State → Type 0
ListsTree show tree result old new =
    (HasCleanDisk new → IfOk result (λ rows. ListsRows show (old.now.trees tree) rows.items))
    × Makes result IsUnchanged old new × AddsNone old new

-- a call that reads a replica, and changes nothing
abbrev pub ReadsReplica : {T E : Type 0} → Result T E → State → State → Type 0
ReadsReplica result old new = Makes result IsUnchanged old new
    × Reaches result HoldsReplica new × AddsNone old new

-- a crash leaves what is committed
abbrev pub LeavesCommitted : State → Type 0
LeavesCommitted s = (db : Trees) → s.may_leave db → db ≡ s.committed.trees

-- an open connection has the columns of a replica's tables in each row
abbrev pub KeepsColumns : State → Type 0
KeepsColumns s = IsTrue s.is_open → HasTableColumns s.now.trees

-- a new replica is held
abbrev pub HoldsNew : State → Type 0
HoldsNew s = HoldsReplica s × IsNewReplica s.committed.trees

-- a replica is held, in which these changes and this cursor are committed
abbrev pub HoldsCommit : RowChanges → ℕ → State → State → Type 0
HoldsCommit changes place old new = HoldsReplica new
    × Commits changes place old.committed.trees new.committed.trees

-- a replica is held, as it was or with these changes and this cursor
abbrev pub HoldsOneOf : RowChanges → ℕ → State → State → Type 0
HoldsOneOf changes place old new = HoldsReplica new
    × ((new.committed.trees ≡ old.committed.trees)
    ⊎ Commits changes place old.committed.trees new.committed.trees)
