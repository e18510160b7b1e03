use Rattle.std.proofs.Common.{◌≡◌, take}
use Rattle.sqlite.specs.State.{HasCleanDisk, KeepsCommit, Survives}
use Rattle.sqlite.specs.Held.{state}
use Rattle.replica_store.specs.Causes.{UsesIds}
use Rattle.replica_store.specs.Changes.{AfterChanges}
use Rattle.replica_store.specs.Inside.{ChangesRows}
use Rattle.replica_store.proofs.commit.change_all.Given as goal

abbrev pub invariant-loop-change : goal.invariant-loop-change
invariant-loop-change g l =
    let old = state g.S.Store l.fn.tx.conn.now in
    let now = state g.S.Store l.tx.conn.now in
    (l.tx.conn.ghost_name ≡ l.initial.tx.conn.ghost_name) × Survives old now (λ _. ⊥)
    × (HasCleanDisk now → ChangesRows (AfterChanges (take l.change-index l.changes)) old now)
    × (HasCleanDisk now → UsesIds l.change-index old now) × (HasCleanDisk now → KeepsCommit old now)
