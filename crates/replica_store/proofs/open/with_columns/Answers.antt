use Rattle.std.proofs.Common.{subst}
use Rattle.sqlite_schema.specs.declared.schema.Schema.{Schema}
use Rattle.sqlite_catalog.specs.Listing.{IsSound}
use Rattle.replica_store.proofs.replicas.OpenLaws.{columns_are_there}
use Rattle.replica_store.proofs.open.with_columns.Goals as goal

pub returns-clause-columns : goal.returns-clause-columns
returns-clause-columns g c is_open is =
    let v = g.S.Store.view c.args.conn.store in
    let serves = c.served.ensures.serves is_open in
    columns_are_there v (g.met.S.Store.ordered c.args.conn.store serves.unbroken)
    (g.met.S.Alter.listed c.args.conn.store serves.unbroken)
    (subst (λ (s : Schema). IsSound s v.trees) is serves.sound)
