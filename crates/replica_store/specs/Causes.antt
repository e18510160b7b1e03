-- Why a call answers `Store`, where the disk returned what was written.
use Rattle.std.specs.Prelude.{◌≡◌, ◌⊎◌, ℕ, ℤ, pos, negsuc, ◌+◌, ◌-◌, ◌^◌, ◌<◌, ◌≤◌, ◌+ℤ◌, ◌<ℤ◌}
use Rattle.std.specs.Prelude.{◌≤ℤ◌, List}
use Rattle.std.specs.Prelude.{length, false, Option, Some, Result, Err, IfErr, IsSome, IsTrue}
use Rattle.sqlite.specs.Disk.{MoreFaults}
use Rattle.sqlite_rules.specs.Lists.{Has}
use Rattle.sqlite.specs.State.{HasCleanDisk, State}
use Rattle.sqlite.specs.Tree.{Trees}
use Rattle.sqlite.specs.declared.error.Error.{Error}
use Rattle.cs_model.specs.declared.row_key.RowKey.{RowKey}
use Rattle.cs_model.specs.declared.value.Value.{Value}
use Rattle.par_apply.specs.RowChanges.{RowChanges}
use Rattle.replica_store.specs.Changes.{row_body}
use Rattle.replica_store.specs.Errors.{replica_error}
use Rattle.replica_store.specs.Layout.{empty_schema}
use Rattle.replica_store.specs.Picture.{row_record}
use Rattle.replica_store.specs.declared.error.ReplicaError.{ReplicaError}
use Rattle.replica_store.specs.declared.error.ReplicaError.TheVariants.{Store}

-- ---- what may stop each call

-- The disk failed or refused during the call: the connection counts one failure more than before.
abbrev pub DiskFailed : State → State → Type 0
DiskFailed old new = MoreFaults old.faults new.faults

-- The connection limits the steps of a query. The database's contracts don't say how many steps a
-- query takes, so each query may be stopped where there is a limit. Without one, none is.
abbrev pub HasStepLimit : State → Type 0
HasStepLimit s = IsSome s.step_limit

-- The cause of `Store`: the disk failed, the connection limits the steps of a query, or what may
-- stop this call alone.
abbrev pub HasStoreCause : Type 0 → State → State → Type 0
HasStoreCause Own old new = DiskFailed old new ⊎ (HasStepLimit old ⊎ Own)

-- A call that answers `Store` has a cause, where the disk returned what was written.
abbrev pub StoreHasCause : {T : Type 0} → Result T ReplicaError → Type 0 → State → State → Type 0
StoreHasCause result Own old new =
    HasCleanDisk new → result ≡ Err Store → HasStoreCause Own old new

-- so does a call of the database whose error a replica reports as `Store`
abbrev pub ErrorHasCause : {T : Type 0} → Result T Error → Type 0 → State → State → Type 0
ErrorHasCause result Own old new =
    HasCleanDisk new → IfErr result (λ e. replica_error e ≡ Store → HasStoreCause Own old new)

-- ---- what may stop one call alone

-- `open` and `create`: the connection is shut, as an earlier call failed, or a transaction is open.
abbrev pub CannotBegin : State → Type 0
CannotBegin s = (s.is_open ≡ false) ⊎ IsTrue s.in_transaction

-- `create`: the same, or the schema has a table, an index or a view.
abbrev pub CannotCreate : State → Type 0
CannotCreate s = CannotBegin s ⊎ (s.now.schema ≡ empty_schema → ⊥)

-- SQLite stores no row of more than a billion bytes: those of its key and its body, and 18 for each
-- of its four values.
abbrev pub IsTooBig : RowKey → List ℕ → Type 0
IsTooBig key body = 10 ^ 9 < 72 + length key.bytes + length body

-- SQLite can't store a change: its table's index is 2^63 or more, or its row is too big.
abbrev pub CannotStore : RowKey × Option (List Value) → Type 0
CannotStore change = (2 ^ 63 ≤ change.0.table)
    ⊎ ((row : List Value) × (change.1 ≡ Some row) × IsTooBig change.0 (row_body row))

-- The id of each stored row is an `i64`, and so are this number of ids after it. It is false only
-- where a stored id is near 2^63. (The database's contracts don't say that stored ids are `i64`s.)
abbrev pub HasIdsFor : ℕ → Trees → Type 0
HasIdsFor n db = (n < 2 ^ 63) × ((id : ℤ) (key : RowKey) (body : List ℕ)
    → Has (db 0) (row_record id key body)
    → (negsuc (2 ^ 63 - 1) ≤ℤ id) × ((id +ℤ pos n) <ℤ pos (2 ^ 63)))

-- a call that uses up this number of ids, or fewer
abbrev pub UsesIds : ℕ → State → State → Type 0
UsesIds used old new = (n : ℕ) → HasIdsFor (n + used) old.now.trees → HasIdsFor n new.now.trees

-- one change: SQLite can't store it, or there is no id for its row
abbrev pub CannotMake : RowKey × Option (List Value) → Trees → Type 0
CannotMake change db = CannotStore change ⊎ (HasIdsFor 1 db → ⊥)

-- `commit`: SQLite can't store one of the changes, or there aren't ids for that number of rows. A
-- new row has the id after the last one.
abbrev pub CannotCommit : RowChanges → Trees → Type 0
CannotCommit changes db = ((change : RowKey × Option (List Value)) × Has changes change
    × CannotStore change) ⊎ (HasIdsFor (length changes) db → ⊥)
