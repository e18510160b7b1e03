use Rattle.std.proofs.Common.{sym, subst, ◌∙◌}
use Rattle.std.specs.Arc.{arc_value}
use Rattle.cs_apply.specs.Columns.{RowsHaveColumns}
use Rattle.cs_apply.specs.Steps.{rows_in, rows_of}
use Rattle.cs_apply.proofs.rows_by_key.Lengths.{apply_keeps, all_taken_back}
use Rattle.cs_apply.proofs.held.HeldTables.apply.Goals as goal

pub invariant_of-self : goal.invariant_of-self
invariant_of-self c = (
  c.self.invariant.0,
  c.keep.ensures.log,
  apply_keeps _ c.deref.result.now c.deref-2.result.now c.args.changeset.now c.change_all-applied.result
      (rows_in c.self.inside.places) (rows_in c.change_all-applied.new.places) (rows_in c.keep.new.self)
      c.deref.ensures c.change_all-applied.ensures.valid c.self.invariant.2
      c.change_all-applied.ensures.ok (sym c.is_ok.ensures.value ∙ c.if-is_ok.true) c.keep.ensures.rows,
)

pub invariant_of-self-else-is_ok : goal.invariant_of-self-else-is_ok
invariant_of-self-else-is_ok c = (
  c.self.invariant.0,
  c.take_back.ensures.log,
  subst (λ es. RowsHaveColumns (arc_value c.self.inside.schema) (rows_of es))
      (sym (all_taken_back c.self.inside.places c.change_all-applied.new.places c.len-places.result
      c.take_back.new.self.rows.entries c.change_all-applied.ensures.back c.self.invariant.1 c.len-places.ensures
      c.take_back.ensures.rows)) c.self.invariant.2,
)
