use Rattle.std.proofs.Common.{arith}
use Rattle.sqlite.specs.State.{HasCleanDisk}
use Rattle.sqlite.specs.Held.{state}
use Rattle.par_apply.specs.RowChanges.{overlaid}
use Rattle.replica_store.proofs.replicas.DurableLaws.{if_clean, committed_rows_stand, commit_has_rows, crash_has_rows}
use Rattle.replica_store.proofs.replicas.DurableLaws.{error_of_commit}
use Rattle.replica_store.proofs.durable.ReplicaDurableRows.commit.Goals as goal

pub returns-clause-ok : goal.returns-clause-ok
returns-clause-ok g c rows at keeps =
    let old = state g.S.Store c.args.self.now.conn in
    let new = state g.S.Store c.commit.new.self.conn in
    let early : HasCleanDisk new → HasCleanDisk old = λ clean. omega (arith, c.commit.ensures.survives.clean) in
    if_clean c.commit.result
    (λ clean made stands. committed_rows_stand new (overlaid rows c.args.changes.now) c.args.cursor made.0
    (commit_has_rows c.args.changes.now c.args.cursor rows at old.committed.trees new.committed.trees
    c.requires.distinct (keeps (early clean)).now made.1) stands)
    c.commit.ensures.ok c.commit.ensures.stands

pub returns-clause-leaves : goal.returns-clause-leaves
returns-clause-leaves g c rows at keeps clean db left =
    let old = state g.S.Store c.args.self.now.conn in
    let early : HasCleanDisk old = omega (arith, c.commit.ensures.survives.clean) in
    crash_has_rows c.args.changes.now c.args.cursor rows at old.committed.trees db c.requires.distinct
    (keeps early).now (c.commit.ensures.crash clean db left)

pub returns-clause-failed : goal.returns-clause-failed
returns-clause-failed g c =
    error_of_commit c.commit.result (state g.S.Store c.args.self.now.conn) (state g.S.Store c.commit.new.self.conn)
    c.args.changes.now c.args.cursor c.commit.ensures.named c.commit.ensures.cause
