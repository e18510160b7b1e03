use Rattle.std.proofs.Common.{◌≡◌, Some, sym, ap, subst, ◌∙◌}
use Rattle.std.proofs.lemmas.Result.{err_from_is_err_and}
use Rattle.cs_apply.specs.State.{compatible}
use Rattle.cs_model.specs.Changeset.{IsChangeset}
use Rattle.par_apply.specs.RowChanges.{overlaid}
use Rattle.par_apply.specs.Shards.{of_shard, shard_number}
use Rattle.par_apply.proofs.workers.PartLaws.{part_ends, part_goes, part_passed, part_stops}
use Rattle.par_apply.proofs.worker.change_all.Goals as goal
use Rattle.par_apply.proofs.worker.change_all.Goals.{In-Some-kept_table}

-- the section's table is kept
table_is_kept : (c : In-Some-kept_table)
    → compatible c.args.tables.now.schema c.args.tables.now.kept c.in-Some.section.shape
    ≡ Some c.in-Some-kept_table.table
table_is_kept c =
    sym (c.kept_table.ensures ∙ ap (compatible c.args.tables.now.schema c.args.tables.now.kept) c.shape.ensures)
    ∙ c.in-Some-kept_table.is

pub returns-in_err-change_section-clause-refused : goal.returns-in_err-change_section-clause-refused
returns-in_err-change_section-clause-refused c =
    let t = c.args.tables.now in
    let counted = rw c.len.ensures at c.in-Some-checked_add.ensures.1 in
    let p = err_from_is_err_and c.from_residual.result c.from_residual.ensures.1 in
    rw (p.1, p.2) (part_stops t.schema t.kept (of_shard (shard_number c.args.shard.n) c.args.shard.number)
    c.in-Some.section c.next.new.self c.loop-section.section-iterator c.in-Some-kept_table.table c.loop-section.start
    c.in-Some-checked_add.end (overlaid t.rows c.loop-section.rows.rows.entries) _ c.in_err-change_section.field-0.0
    c.in-Some.ensures.steps
    (table_is_kept (goal.at.returns-in_err-change_section-clause-refused c).In-Some-kept_table) counted
    c.in_err-change_section.ensures.refused c.loop-section.invariant.so_far)

pub loop-section-preserved-in_ok-change_section : goal.loop-section-preserved-in_ok-change_section
loop-section-preserved-in_ok-change_section c =
    let t = c.args.tables.now in
    let counted = rw c.len.ensures at c.in-Some-checked_add.ensures.1 in
    record {
      so_far = part_goes t.schema t.kept (of_shard (shard_number c.args.shard.n) c.args.shard.number)
          c.in-Some.section c.next.new.self c.loop-section.section-iterator c.in-Some-kept_table.table
          c.loop-section.start c.in-Some-checked_add.end (overlaid t.rows c.loop-section.rows.rows.entries)
          (overlaid t.rows c.change_section.new.rows.rows.entries) _
          c.in-Some.ensures.steps
          (table_is_kept (goal.at.loop-section-preserved-in_ok-change_section c).In-Some-kept_table) counted
          c.in_ok-change_section.ensures.ok c.loop-section.invariant.so_far;
      fits = (subst IsChangeset c.in-Some.ensures.steps c.loop-section.invariant.fits).1;
      own = λ old. c.change_section.ensures.own (c.loop-section.invariant.own old);
    }

pub loop-section-preserved : goal.loop-section-preserved
loop-section-preserved c =
    let t = c.args.tables.now in
    let counted = rw c.len.ensures at c.in-Some-checked_add.ensures.1 in
    let passed = sym (c.kept_table.ensures ∙ ap (compatible t.schema t.kept) c.shape.ensures)
    ∙ c.in_default-kept_table.is in
    record {
      so_far = part_passed t.schema t.kept (of_shard (shard_number c.args.shard.n) c.args.shard.number)
          c.in-Some.section c.next.new.self c.loop-section.section-iterator c.loop-section.start
          c.in-Some-checked_add.end (overlaid t.rows c.loop-section.rows.rows.entries) _
          c.in-Some.ensures.steps passed counted c.loop-section.invariant.so_far;
      fits = (subst IsChangeset c.in-Some.ensures.steps c.loop-section.invariant.fits).1;
      own = c.loop-section.invariant.own;
    }

pub returns-clause-ok : goal.returns-clause-ok
returns-clause-ok c =
    part_ends c.args.tables.now.schema c.args.tables.now.kept
    (of_shard (shard_number c.args.shard.n) c.args.shard.number) c.loop-section.section-iterator c.loop-section.start
    (overlaid c.args.tables.now.rows c.loop-section.rows.rows.entries) _ (c.in-None.ensures).steps.0
    c.loop-section.invariant.so_far
