use Rattle.std.proofs.Common.{arith}
use Rattle.sqlite.specs.State.{HasCleanDisk}
use Rattle.sqlite.specs.Held.{state}
use Rattle.replica_store.specs.Picture.{HoldsReplica}
use Rattle.replica_store.proofs.replicas.DurableLaws.{committed_rows_stand, read_has_rows}
use Rattle.replica_store.proofs.replica.Replica.load.Goals as goal

pub returns-clause-keeps : goal.returns-clause-keeps
returns-clause-keeps g c clean =
    let old = state g.S.Store c.args.self.now.conn in
    let mid = state g.S.Store c.cursor.new.self.conn in
    let new = state g.S.Store c.tables.new.self.conn in
    let rows = c.in_ok-tables.tables.rows in
    let place = c.in_ok-cursor.cursor in
    let between : HasCleanDisk mid = omega (arith, c.tables.ensures.reads.2.clean) in
    let held : HoldsReplica new = c.in_ok-tables.ensures.reads.1 clean in
    committed_rows_stand new rows place held
    (read_has_rows old mid new rows place (c.in_ok-cursor.ensures.same between) (c.in_ok-tables.ensures.reads.0 clean)
    (c.in_ok-cursor.ensures.stored between) (c.in_ok-tables.ensures.rows clean).rows_are)
    (λ db left. g.met.S.Store.settled c.tables.new.self.conn.store db held.is_open left)
