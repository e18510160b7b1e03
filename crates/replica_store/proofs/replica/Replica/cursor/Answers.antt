use Rattle.std.proofs.Common.{rules}
use Rattle.sqlite.specs.Held.{state}
use Rattle.replica_store.specs.Reading.{ListsRows, shown_mark}
use Rattle.replica_store.proofs.replicas.OpenLaws.{mark_answered, cursor_read}
use Rattle.replica_store.proofs.statements.Parts.{was_clean}
use Rattle.replica_store.proofs.replica.Replica.cursor.Goals as goal

pub returns-in-Some-clause-stored : goal.returns-in-Some-clause-stored
returns-in-Some-clause-stored g c clean =
    let old = state g.S.Store c.args.self.now.conn in
    let held = c.requires (was_clean _ _ _ c.stored_marks.ensures.lists.2 clean) in
    let lists : ListsRows shown_mark (old.now.trees 2) c.in_ok-marks.marks.items = search rules in
    cursor_read old _ c.in-Some.place held lists (rw c.deref.ensures.value at c.in-Some.ensures)

pub returns-clause-usable : goal.returns-clause-usable
returns-clause-usable g c clean same =
    let old = state g.S.Store c.args.self.now.conn in
    let held = c.requires (was_clean _ _ _ c.stored_marks.ensures.lists.2 clean) in
    let lists : ListsRows shown_mark (old.now.trees 2) c.in_ok-marks.marks.items = search rules in
    c.in-None.ensures held.replica.mark.0 (rw c.deref.ensures.value (mark_answered old _ held lists))
