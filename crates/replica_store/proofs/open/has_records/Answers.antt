use Rattle.std.proofs.Common.{rules}
use Rattle.sqlite.specs.State.{IsUnchanged}
use Rattle.sqlite.specs.Held.{state}
use Rattle.replica_store.specs.Reading.{ListsRows, shown_row}
use Rattle.replica_store.proofs.replicas.OpenLaws.{columns_read, rows_are_records}
use Rattle.replica_store.proofs.open.has_records.Goals as goal

pub returns-clause-fits : goal.returns-clause-fits
returns-clause-fits g c clean =
    let old = state g.S.Store c.args.conn.now in
    let lists : ListsRows shown_row (old.now.trees 0) c.in_ok-rows.rows.items = search rules in
    let same : IsUnchanged old (state g.S.Store c.stored_rows.new.conn) = search rules in
    rw (c.are_records.ensures, c.deref.ensures.value)
    (rows_are_records old.now.trees c.in_ok-rows.rows.items
    (columns_read _ _ c.requires.columns c.stored_rows.ensures.lists.2 same clean) lists)
