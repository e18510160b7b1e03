use Rattle.std.proofs.Common.{rules}
use Rattle.sqlite.specs.State.{IsUnchanged}
use Rattle.sqlite.specs.Held.{state}
use Rattle.replica_store.specs.Reading.{ListsRows, shown_mark}
use Rattle.replica_store.proofs.replicas.OpenLaws.{columns_read, mark_fits}
use Rattle.replica_store.proofs.open.has_mark.Goals as goal

pub returns-clause-fits : goal.returns-clause-fits
returns-clause-fits g c clean =
    let old = state g.S.Store c.args.conn.now in
    let lists : ListsRows shown_mark (old.now.trees 2) c.in_ok-marks.marks.items = search rules in
    let same : IsUnchanged old (state g.S.Store c.stored_marks.new.conn) = search rules in
    rw c.is_some.ensures (mark_fits old.now.trees c.in_ok-marks.marks.items c.only_mark.result
    (columns_read _ _ c.requires.columns c.stored_marks.ensures.lists.2 same clean) lists
    (rw c.deref.ensures.value at c.only_mark.ensures))
