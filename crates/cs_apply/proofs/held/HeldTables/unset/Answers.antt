use Rattle.std.proofs.Common.{None, refl, sym, ap, subst, ◌∙◌}
use Rattle.std.specs.Arc.{arc_value}
use Rattle.cs_apply.specs.Columns.{RowsHaveColumns}
use Rattle.cs_apply.specs.Held.{with_row}
use Rattle.cs_apply.proofs.stored.PlaceLaws.{put_keeps_columns, edit_shown, rows_differ}
use Rattle.cs_apply.proofs.held.HeldTables.unset.Goals as goal

pub returns : goal.returns
returns c =
    edit_shown (arc_value c.self.inside.schema) c.self.inside.kept.items c.self.inside.places.rows.entries
    c.swap_remove.new.self.entries c.args.key.now None refl c.len-places.ensures.unique c.swap_remove.ensures.unique
    c.swap_remove.ensures.updates.0
    ∙ ap (λ t. with_row t c.args.key.now None) c.self.view_is

pub invariant_of-self : goal.invariant_of-self
invariant_of-self c = (
  c.self.invariant.0,
  c.self.invariant.1,
  subst (RowsHaveColumns (arc_value c.self.inside.schema))
      (sym (rows_differ c.self.inside.places.rows.entries c.swap_remove.new.self.entries c.args.key.now None
      c.len-places.ensures.unique c.swap_remove.ensures.unique c.swap_remove.ensures.updates.0))
      (put_keeps_columns (arc_value c.self.inside.schema) _ c.args.key.now None c.self.invariant.2 tt),
)
