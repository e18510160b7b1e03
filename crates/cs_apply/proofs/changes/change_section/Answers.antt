use Rattle.std.proofs.Common.{◌≡◌, ◌+◌, List, length, sym, ap, subst, ◌∙◌, arith}
use Rattle.std.specs.List.{AllByRecursion}
use Rattle.cs_model.specs.declared.change.Change.{Change}
use Rattle.cs_model.specs.declared.shape.Shape.{Shape}
use Rattle.cs_model.specs.Changeset.{IsChange}
use Rattle.cs_model.specs.Seen.{change_seen}
use Rattle.cs_apply.specs.Steps.{rows_of}
use Rattle.cs_apply.proofs.stored.Log.{Back-trans}
use Rattle.cs_apply.proofs.effects.Sections.{change_done, change_stops, changes_done}
use Rattle.cs_apply.proofs.changes.change_section.Goals as goal

pub change_row-requires : goal.change_row-requires
change_row-requires c =
    let fits = subst (AllByRecursion (IsChange c.args.section.now.shape)) c.in-Some.ensures.steps
    c.loop-change.invariant.fits in
    subst (λ (shape : Shape). IsChange shape (change_seen c.in-Some.change)) (sym c.shape-shape.ensures) fits.0

pub loop-change-preserved : goal.loop-change-preserved
loop-change-preserved c =
    let s = c.args.section.now in
    let is = c.in-Some.ensures.steps in
    let old = rows_of c.loop-change.places.rows.entries in
    let ok = rw c.shape-shape.ensures at c.in_default.ensures.ok in
    let counted : length c.loop-change.change-iterator ≡ length c.next.new.self + 1 =
    ap (λ (cs : List Change). length cs) is ∙ omega arith in
    record {
      so_far = change_done c.args.table s.shape.flags (change_seen c.in-Some.change) c.next.new.self
          c.loop-change.change-iterator c.loop-change.position (c.loop-change.position + 1) old _ _ is (omega arith) ok
          c.loop-change.invariant.so_far;
      fits = (subst (AllByRecursion (IsChange s.shape)) is c.loop-change.invariant.fits).1;
      counted = omega (arith, counted, c.loop-change.invariant.counted);
      back = Back-trans c.args.places.now c.loop-change.places c.change_row.new.places c.loop-change.invariant.back
          c.in_default.ensures.back;
    }

pub returns-in-Err-clause-refused : goal.returns-in-Err-clause-refused
returns-in-Err-clause-refused c =
    let s = c.args.section.now in
    let refused = rw c.shape-shape.ensures at c.in-Err.ensures.refused in
    rw c.at.ensures (change_stops c.args.table s.shape.flags (change_seen c.in-Some.change) c.next.new.self
    c.loop-change.change-iterator c.loop-change.position (rows_of c.loop-change.places.rows.entries) _
    c.in-Err.error c.in-Some.ensures.steps refused c.loop-change.invariant.so_far)

pub returns-clause-ok : goal.returns-clause-ok
returns-clause-ok c =
    changes_done c.args.table c.args.section.now.shape.flags c.loop-change.change-iterator c.loop-change.position
    (rows_of c.loop-change.places.rows.entries) _ (c.in-None.ensures).steps.0 c.loop-change.invariant.so_far
