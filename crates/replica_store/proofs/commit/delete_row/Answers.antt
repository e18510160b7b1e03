use Rattle.std.proofs.Common.{◌≡◌, Ok, pos, w64, to_z, of_z, to_z-of_z, arith, rules, None}
use Rattle.replica_store.proofs.statements.Deletes.{takes_out_key, takes_no_id}
use Rattle.replica_store.proofs.statements.Parts.{was_clean}
use Rattle.sqlite.specs.Held.{state}
use Rattle.replica_store.specs.Causes.{CannotMake}
use Rattle.replica_store.proofs.causes.Reported.{delete_cause, handed_on, own_cause}
use Rattle.replica_store.proofs.commit.delete_row.Goals as goal

pub returns-clause-deletes : goal.returns-clause-deletes
returns-clause-deletes g c clean =
    let key = c.args.key.now in
    let i = c.requires (was_clean _ _ _ c.execute.ensures.survives clean) in
    let number : c.in_ok-table.table ≡ pos key.table = search rules in
    let same : to_z w64 (of_z w64 c.in_ok-table.table) ≡ c.in_ok-table.table = grind (arith, to_z-of_z) in
    takes_out_key _ _ key (Ok c.in_ok-execute.field-0) i
    (rw (c.params-to_sql.ensures, c.params-to_sql-2.ensures, same, number, c.deref-bytes.ensures) at
    (c.in_ok-execute.ensures.runs clean i.inside))

pub returns-clause-ids : goal.returns-clause-ids
returns-clause-ids g c clean =
    let key = c.args.key.now in
    let i = c.requires (was_clean _ _ _ c.execute.ensures.survives clean) in
    let number : c.in_ok-table.table ≡ pos key.table = search rules in
    let same : to_z w64 (of_z w64 c.in_ok-table.table) ≡ c.in_ok-table.table = grind (arith, to_z-of_z) in
    takes_no_id _ _ key (Ok c.in_ok-execute.field-0) i
    (rw (c.params-to_sql.ensures, c.params-to_sql-2.ensures, same, number, c.deref-bytes.ensures) at
    (c.in_ok-execute.ensures.runs clean i.inside))

pub returns-in_err-execute-clause-cause : goal.returns-in_err-execute-clause-cause
returns-in_err-execute-clause-cause g c clean =
    let old = state g.S.Store c.args.tx.now.conn.now in
    let new = state g.S.Store c.execute.new.self.conn.now in
    let key = c.args.key.now in
    let i = c.requires (was_clean old new _ c.execute.ensures.survives clean) in
    let number : c.in_ok-table.table ≡ pos key.table = search rules in
    let same : to_z w64 (of_z w64 c.in_ok-table.table) ≡ c.in_ok-table.table = grind (arith, to_z-of_z) in
    handed_on c.from_residual-in_err-execute.result _ _ c.from_residual-in_err-execute.ensures.1 (λ says.
    own_cause old new ⊥ (CannotMake (key, None) old.now.trees) (λ none. absurd none) (delete_cause old new key _ i
    (rw (c.params-to_sql.ensures, c.params-to_sql-2.ensures, same, number, c.deref-bytes.ensures) at
    (c.in_err-execute.ensures.runs clean i.inside)) says))
