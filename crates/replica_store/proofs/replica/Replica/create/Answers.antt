use Rattle.std.proofs.Common.{◌≡◌, ◌∙◌, sym, rules}
use Rattle.std.specs.FinMap as map
use Rattle.sqlite.specs.Held.{state}
use Rattle.sqlite.specs.Tree.{Trees}
use Rattle.replica_store.specs.Causes.{CannotCreate}
use Rattle.replica_store.specs.Picture.{HoldsReplica, IsNewReplica}
use Rattle.replica_store.proofs.causes.Reported.{reported_cause}
use Rattle.replica_store.proofs.replicas.DurableLaws.{committed_rows_stand, new_has_no_rows}
use Rattle.replica_store.proofs.replica.Replica.create.Goals as goal

pub returns-in-Ok-clause-keeps : goal.returns-in-Ok-clause-keeps
returns-in-Ok-clause-keeps g c clean =
    let new = state g.S.Store c.create_once.new.conn in
    let made : HoldsReplica new × IsNewReplica new.committed.trees = search rules in
    let stands : (db : Trees) → new.may_leave db → db ≡ new.committed.trees = search rules in
    committed_rows_stand new map.empty 0 made.0 (new_has_no_rows new.committed.trees made.1) stands

pub returns-in-Err-clause-cause : goal.returns-in-Err-clause-cause
returns-in-Err-clause-cause g c =
    let old = state g.S.Store c.args.conn in
    let new = state g.S.Store c.create_once.new.conn in
    reported_cause c.create_once.result c.in-Err.why old new (CannotCreate old) c.create_once.ensures.cause
    (sym c.reported.ensures ∙ c.in-Err.is)
