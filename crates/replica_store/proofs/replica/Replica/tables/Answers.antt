use Rattle.std.proofs.Common.{rules}
use Rattle.std.specs.Arc.{arc_value}
use Rattle.std.proofs.lemmas.Result.{IfOk-weaker}
use Rattle.sqlite.specs.Held.{state}
use Rattle.replica_store.specs.Loading.{ShownBodies}
use Rattle.replica_store.specs.Picture.{Stores}
use Rattle.replica_store.specs.Reading.{ListsRows, shown_row}
use Rattle.replica_store.proofs.replicas.ShownLaws.{all_show, shown_is_stored, loads_same_rows, same_schema_rows}
use Rattle.replica_store.proofs.statements.Parts.{on_ok_then, was_clean}
use Rattle.replica_store.proofs.replica.Replica.tables.Goals as goal

pub returns-clause-rows : goal.returns-clause-rows
returns-clause-rows g c clean =
    let old = state g.S.Store c.args.self.now.conn in
    let held = c.requires (was_clean _ _ _ c.stored_rows.ensures.lists.2 clean) in
    let answer = c.in_ok-answer.answer.items in
    let lists : ListsRows shown_row (old.now.trees 0) answer = search rules in
    IfOk-weaker c.tables_of.result _ _
    (λ tables. loads_same_rows (arc_value c.args.self.now.schema) (Stores old.committed.trees)
    (ShownBodies answer) tables (shown_is_stored old answer held lists))
    (rw c.deref.ensures.value at c.tables_of.ensures.loads)

pub returns-clause-fits : goal.returns-clause-fits
returns-clause-fits g c clean =
    let old = state g.S.Store c.args.self.now.conn in
    let held = c.requires (was_clean _ _ _ c.stored_rows.ensures.lists.2 clean) in
    let answer = c.in_ok-answer.answer.items in
    let lists : ListsRows shown_row (old.now.trees 0) answer = search rules in
    let same = shown_is_stored old answer held lists in
    on_ok_then c.tables_of.result
    (same_schema_rows (arc_value c.args.self.now.schema) (ShownBodies answer) (Stores old.committed.trees)
    (λ key body. ((same key body).1, (same key body).0)))
    (rw c.deref.ensures.value at c.tables_of.ensures.fits)

pub returns-clause-unusable : goal.returns-clause-unusable
returns-clause-unusable g c clean err are =
    let old = state g.S.Store c.args.self.now.conn in
    let held = c.requires (was_clean _ _ _ c.stored_rows.ensures.lists.2 clean) in
    let answer = c.in_ok-answer.answer.items in
    let lists : ListsRows shown_row (old.now.trees 0) answer = search rules in
    (rw c.deref.ensures.value at c.tables_of.ensures.unusable) err (all_show old answer held lists)
    (same_schema_rows (arc_value c.args.self.now.schema) (Stores old.committed.trees)
    (ShownBodies answer) (shown_is_stored old answer held lists) are)
