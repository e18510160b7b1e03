use Rattle.std.proofs.Common.{sym, ap, ◌∙◌}
use Rattle.cs_model.specs.Schema.{table_index}
use Rattle.par_apply.specs.KeyedChanges.{positions_by_key}
use Rattle.par_apply.proofs.workers.PositionLaws.{all_noted, section_left_out, section_noted}
use Rattle.par_apply.proofs.positions.keyed_changes.Goals as goal

pub loop-section-preserved-in_ok-add_changes : goal.loop-section-preserved-in_ok-add_changes
loop-section-preserved-in_ok-add_changes c = λ takes.
    let schema = c.args.schema.now in
    let counted = rw c.len.ensures at c.in-Some-checked_add.ensures.1 in
    let here = sym (c.table.ensures ∙ ap (table_index schema) c.shape.ensures) ∙ c.in-Some-table.is in
    section_noted schema takes c.in-Some.section c.next.new.self c.loop-section.section-iterator c.in-Some-table.table
    c.loop-section.start c.in-Some-checked_add.end (positions_by_key takes c.loop-section.changes.items)
    (positions_by_key takes c.add_changes.new.changes.items) _ c.in-Some.ensures.steps here counted
    (c.in_ok-add_changes.ensures takes) (c.loop-section.invariant takes)

pub loop-section-preserved : goal.loop-section-preserved
loop-section-preserved c = λ takes.
    let schema = c.args.schema.now in
    let counted = rw c.len.ensures at c.in-Some-checked_add.ensures.1 in
    let none = sym (c.table.ensures ∙ ap (table_index schema) c.shape.ensures) ∙ c.in_default-table.is in
    section_left_out schema takes c.in-Some.section c.next.new.self c.loop-section.section-iterator
    c.loop-section.start c.in-Some-checked_add.end (positions_by_key takes c.loop-section.changes.items) _
    c.in-Some.ensures.steps none counted (c.loop-section.invariant takes)

pub returns : goal.returns
returns c = λ takes.
    all_noted c.args.schema.now takes c.loop-section.section-iterator c.loop-section.start
    (positions_by_key takes c.loop-section.changes.items) _ (c.in-None.ensures).steps.0 (c.loop-section.invariant takes)
