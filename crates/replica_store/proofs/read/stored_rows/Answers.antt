use Rattle.std.proofs.Common.{refl}
use Rattle.replica_store.proofs.replicas.ReadLaws.{asks_rows, tree_listed}
use Rattle.replica_store.proofs.causes.Reported.{rows_query_cause}
use Rattle.replica_store.proofs.replicas.UndoneLaws.{query_leaves}
use Rattle.replica_store.proofs.read.stored_rows.Goals as goal

pub returns-clause-lists : goal.returns-clause-lists
returns-clause-lists g c =
    tree_listed _ _ _ _ asks_rows (λ db. refl) c.query_all.result _ _ c.requires c.query_all.ensures.ok
    c.query_all.ensures.survives

pub returns-clause-cause : goal.returns-clause-cause
returns-clause-cause g c =
    rows_query_cause c.query_all.result _ _ _ c.requires c.query_all.ensures.survives c.query_all.ensures.err

pub returns-clause-undone : goal.returns-clause-undone
returns-clause-undone g c = query_leaves c.query_all.result _ _ _ _ c.query_all.ensures.err
