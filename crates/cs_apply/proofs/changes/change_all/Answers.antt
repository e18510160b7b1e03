use Rattle.std.proofs.Common.{sym, ap, subst, ◌∙◌}
use Rattle.std.proofs.lemmas.Result.{err_from_is_err_and}
use Rattle.cs_model.specs.Changeset.{IsChangeset}
use Rattle.cs_apply.specs.State.{compatible}
use Rattle.cs_apply.specs.Steps.{rows_of}
use Rattle.cs_apply.proofs.stored.Log.{Back-trans}
use Rattle.cs_apply.proofs.effects.Sections.{section_done, section_stops, section_passed, sections_done}
use Rattle.cs_apply.proofs.changes.change_all.Goals as goal

pub returns-in_err-change_section-clause-refused : goal.returns-in_err-change_section-clause-refused
returns-in_err-change_section-clause-refused c =
    let counted = rw c.len.ensures at c.in-Some-checked_add.ensures.1 in
    let kept = sym (c.kept_table.ensures ∙ ap (compatible c.args.schema.now c.args.kept.now) c.shape.ensures)
    ∙ c.in-Some-kept_table.is in
    let p = err_from_is_err_and c.from_residual.result c.from_residual.ensures.1 in
    rw (p.1, p.2) (section_stops c.args.schema.now c.args.kept.now c.in-Some.section c.next.new.self
    c.loop-section.section-iterator c.in-Some-kept_table.table c.loop-section.start c.in-Some-checked_add.end
    (rows_of c.loop-section.places.rows.entries) _ c.in_err-change_section.field-0.0
    c.in-Some.ensures.steps kept counted c.in_err-change_section.ensures.refused c.loop-section.invariant.so_far)

pub loop-section-preserved-in_ok-change_section : goal.loop-section-preserved-in_ok-change_section
loop-section-preserved-in_ok-change_section c =
    let counted = rw c.len.ensures at c.in-Some-checked_add.ensures.1 in
    let kept = sym (c.kept_table.ensures ∙ ap (compatible c.args.schema.now c.args.kept.now) c.shape.ensures)
    ∙ c.in-Some-kept_table.is in
    record {
      so_far = section_done c.args.schema.now c.args.kept.now c.in-Some.section c.next.new.self
          c.loop-section.section-iterator c.in-Some-kept_table.table c.loop-section.start c.in-Some-checked_add.end
          (rows_of c.loop-section.places.rows.entries) (rows_of c.change_section.new.places.rows.entries) _
          c.in-Some.ensures.steps kept counted c.in_ok-change_section.ensures.ok c.loop-section.invariant.so_far;
      fits = (subst IsChangeset c.in-Some.ensures.steps c.loop-section.invariant.fits).1;
      back = Back-trans c.args.places.now c.loop-section.places c.change_section.new.places
          c.loop-section.invariant.back c.change_section.ensures.back;
    }

pub loop-section-preserved : goal.loop-section-preserved
loop-section-preserved c =
    let counted = rw c.len.ensures at c.in-Some-checked_add.ensures.1 in
    let passed = sym (c.kept_table.ensures ∙ ap (compatible c.args.schema.now c.args.kept.now) c.shape.ensures)
    ∙ c.in_default-kept_table.is in
    record {
      so_far = section_passed c.args.schema.now c.args.kept.now c.in-Some.section c.next.new.self
          c.loop-section.section-iterator c.loop-section.start c.in-Some-checked_add.end
          (rows_of c.loop-section.places.rows.entries) _
          c.in-Some.ensures.steps passed counted c.loop-section.invariant.so_far;
      fits = (subst IsChangeset c.in-Some.ensures.steps c.loop-section.invariant.fits).1;
      back = c.loop-section.invariant.back;
    }

pub returns-clause-ok : goal.returns-clause-ok
returns-clause-ok c =
    sections_done c.args.schema.now c.args.kept.now c.loop-section.section-iterator c.loop-section.start
    (rows_of c.loop-section.places.rows.entries) _ (c.in-None.ensures).steps.0 c.loop-section.invariant.so_far
