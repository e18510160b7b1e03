use Rattle.std.proofs.Common.{◌≡◌, ℕ, Ok, pos, w64, to_z, of_z, to_z-of_z, arith, rules}
use Rattle.replica_store.proofs.statements.Parts.{was_clean}
use Rattle.replica_store.proofs.statements.Updates.{updates_key, updates_and_puts, updates_no_id, updates_and_takes_one}
use Rattle.sqlite.specs.Held.{state}
use Rattle.replica_store.proofs.causes.Reported.{handed_on, put_cause, update_cause, update_and_insert_cause}
use Rattle.replica_store.proofs.commit.upsert_row.Goals as goal

pub returns-in_ok-execute-clause-puts : goal.returns-in_ok-execute-clause-puts
returns-in_ok-execute-clause-puts g c clean =
    let key = c.args.key.now in
    let early = was_clean _ _ _ c.execute-then-updated-eq0.ensures.survives clean in
    let i = c.requires (was_clean _ _ _ c.execute.ensures.survives early) in
    let number : c.in_ok-table.table ≡ pos key.table = search rules in
    let same : to_z w64 (of_z w64 c.in_ok-table.table) ≡ c.in_ok-table.table = grind (arith, to_z-of_z) in
    let none : ◌≡◌ {A = ℕ} c.in_ok-updated.updated 0 = c.if-updated-eq0.true in
    let updated = updates_key _ _ key c.bytes-body.result.now c.in_ok-updated.updated i
    (rw (
      c.params-to_sql.ensures,
      c.params-to_sql-2.ensures,
      c.params-to_sql-3.ensures,
      same,
      number,
      c.deref-bytes.ensures,
    ) at (c.in_ok-updated.ensures.runs early i.inside)) in
    let put = updates_and_puts _ _ _ key c.bytes-body.result.now c.in_ok-updated.updated (Ok c.in_ok-execute.field-0)
    updated none
    (rw (
      c.params-to_sql-then-updated-eq0.ensures,
      c.params-to_sql-then-updated-eq0-2.ensures,
      c.params-to_sql-then-updated-eq0-3.ensures,
      same,
      number,
      c.deref-bytes.ensures,
    ) at (c.in_ok-execute.ensures.runs clean (updated.same none).inside.inside)) in
    rw c.bytes-body.ensures.bytes at put

pub returns-else-updated-eq0-clause-puts : goal.returns-else-updated-eq0-clause-puts
returns-else-updated-eq0-clause-puts g c clean =
    let key = c.args.key.now in
    let i = c.requires (was_clean _ _ _ c.execute.ensures.survives clean) in
    let number : c.in_ok-table.table ≡ pos key.table = search rules in
    let same : to_z w64 (of_z w64 c.in_ok-table.table) ≡ c.in_ok-table.table = grind (arith, to_z-of_z) in
    let updated = updates_key _ _ key c.bytes-body.result.now c.in_ok-updated.updated i
    (rw (
      c.params-to_sql.ensures,
      c.params-to_sql-2.ensures,
      c.params-to_sql-3.ensures,
      same,
      number,
      c.deref-bytes.ensures,
    ) at (c.in_ok-updated.ensures.runs clean i.inside)) in
    rw c.bytes-body.ensures.bytes at (updated.some c.if-updated-eq0.false)

pub returns-in_ok-execute-clause-ids : goal.returns-in_ok-execute-clause-ids
returns-in_ok-execute-clause-ids g c clean =
    let key = c.args.key.now in
    let early = was_clean _ _ _ c.execute-then-updated-eq0.ensures.survives clean in
    let i = c.requires (was_clean _ _ _ c.execute.ensures.survives early) in
    let number : c.in_ok-table.table ≡ pos key.table = search rules in
    let same : to_z w64 (of_z w64 c.in_ok-table.table) ≡ c.in_ok-table.table = grind (arith, to_z-of_z) in
    let none : ◌≡◌ {A = ℕ} c.in_ok-updated.updated 0 = c.if-updated-eq0.true in
    let updated = updates_key _ _ key c.bytes-body.result.now c.in_ok-updated.updated i
    (rw (
      c.params-to_sql.ensures,
      c.params-to_sql-2.ensures,
      c.params-to_sql-3.ensures,
      same,
      number,
      c.deref-bytes.ensures,
    ) at (c.in_ok-updated.ensures.runs early i.inside)) in
    updates_and_takes_one _ _ _ key c.bytes-body.result.now c.in_ok-updated.updated c.in_ok-execute.field-0 updated none
    (rw (
      c.params-to_sql-then-updated-eq0.ensures,
      c.params-to_sql-then-updated-eq0-2.ensures,
      c.params-to_sql-then-updated-eq0-3.ensures,
      same,
      number,
      c.deref-bytes.ensures,
    ) at (c.in_ok-execute.ensures.runs clean (updated.same none).inside.inside))

pub returns-else-updated-eq0-clause-ids : goal.returns-else-updated-eq0-clause-ids
returns-else-updated-eq0-clause-ids g c clean =
    let key = c.args.key.now in
    let i = c.requires (was_clean _ _ _ c.execute.ensures.survives clean) in
    let number : c.in_ok-table.table ≡ pos key.table = search rules in
    let same : to_z w64 (of_z w64 c.in_ok-table.table) ≡ c.in_ok-table.table = grind (arith, to_z-of_z) in
    updates_no_id _ _ key c.bytes-body.result.now c.in_ok-updated.updated
    (updates_key _ _ key c.bytes-body.result.now c.in_ok-updated.updated i
    (rw (
      c.params-to_sql.ensures,
      c.params-to_sql-2.ensures,
      c.params-to_sql-3.ensures,
      same,
      number,
      c.deref-bytes.ensures,
    ) at (c.in_ok-updated.ensures.runs clean i.inside)))

pub returns-in_err-updated-clause-cause : goal.returns-in_err-updated-clause-cause
returns-in_err-updated-clause-cause g c clean =
    let old = state g.S.Store c.args.tx.now.conn.now in
    let new = state g.S.Store c.execute.new.self.conn.now in
    let key = c.args.key.now in
    let i = c.requires (was_clean old new _ c.execute.ensures.survives clean) in
    let number : c.in_ok-table.table ≡ pos key.table = search rules in
    let same : to_z w64 (of_z w64 c.in_ok-table.table) ≡ c.in_ok-table.table = grind (arith, to_z-of_z) in
    handed_on c.from_residual-in_err-updated.result _ _ c.from_residual-in_err-updated.ensures.1 (λ says.
    put_cause old new key c.args.row.now old.now.trees (rw c.bytes-body.ensures.bytes at
    (update_cause old new key c.bytes-body.result.now _ i
    (rw (
      c.params-to_sql.ensures,
      c.params-to_sql-2.ensures,
      c.params-to_sql-3.ensures,
      same,
      number,
      c.deref-bytes.ensures,
    ) at (c.in_err-updated.ensures.runs clean i.inside)) says)))

pub returns-in_err-execute-clause-cause : goal.returns-in_err-execute-clause-cause
returns-in_err-execute-clause-cause g c clean =
    let old = state g.S.Store c.args.tx.now.conn.now in
    let mid = state g.S.Store c.execute.new.self.conn.now in
    let new = state g.S.Store c.execute-then-updated-eq0.new.self.conn.now in
    let key = c.args.key.now in
    let body = c.bytes-body.result.now in
    let early = was_clean mid new _ c.execute-then-updated-eq0.ensures.survives clean in
    let i = c.requires (was_clean old mid _ c.execute.ensures.survives early) in
    let number : c.in_ok-table.table ≡ pos key.table = search rules in
    let same : to_z w64 (of_z w64 c.in_ok-table.table) ≡ c.in_ok-table.table = grind (arith, to_z-of_z) in
    let none : ◌≡◌ {A = ℕ} c.in_ok-updated.updated 0 = c.if-updated-eq0.true in
    let updated = updates_key old mid key body c.in_ok-updated.updated i
    (rw (
      c.params-to_sql.ensures,
      c.params-to_sql-2.ensures,
      c.params-to_sql-3.ensures,
      same,
      number,
      c.deref-bytes.ensures,
    ) at (c.in_ok-updated.ensures.runs early i.inside)) in
    handed_on c.from_residual-in_err-execute.result _ _ c.from_residual-in_err-execute.ensures.1 (λ says.
    put_cause old new key c.args.row.now old.now.trees (rw c.bytes-body.ensures.bytes at
    (update_and_insert_cause old mid new key body c.in_ok-updated.updated _ updated none c.execute.ensures.survives
    (rw (
      c.params-to_sql-then-updated-eq0.ensures,
      c.params-to_sql-then-updated-eq0-2.ensures,
      c.params-to_sql-then-updated-eq0-3.ensures,
      same,
      number,
      c.deref-bytes.ensures,
    ) at (c.in_err-execute.ensures.runs clean (updated.same none).inside.inside)) says)))
