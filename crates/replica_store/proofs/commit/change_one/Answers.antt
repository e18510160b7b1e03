use Rattle.std.proofs.Common.{rules}
use Rattle.sqlite.specs.Held.{state}
use Rattle.replica_store.proofs.causes.Reported.{change_cause}
use Rattle.replica_store.proofs.replicas.ChangeLaws.{changed_to_none, changed_to_row}
use Rattle.replica_store.proofs.statements.Parts.{on_ok_then}
use Rattle.replica_store.proofs.commit.change_one.Goals as goal

pub returns-in-Some-clause-changes : goal.returns-in-Some-clause-changes
returns-in-Some-clause-changes g c clean =
    on_ok_then _ (changed_to_row c.args.change.now c.in-Some.row _ _ (search rules)) (c.upsert_row.ensures.puts clean)

pub returns-in-None-clause-changes : goal.returns-in-None-clause-changes
returns-in-None-clause-changes g c clean =
    on_ok_then _ (changed_to_none c.args.change.now _ _ (search rules)) (c.delete_row.ensures.deletes clean)

pub returns-in-Some-clause-cause : goal.returns-in-Some-clause-cause
returns-in-Some-clause-cause g c =
    let old = state g.S.Store c.args.tx.now.conn.now in
    let new = state g.S.Store c.upsert_row.new.tx.conn.now in
    change_cause c.upsert_row.result old new c.args.change.now c.in-Some.row old.now.trees (search rules)
    c.upsert_row.ensures.cause
