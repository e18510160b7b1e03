use Rattle.std.proofs.Common.{None, Some, is_some, not, sym, ap, subst, ◌∙◌}
use Rattle.std.specs.Arc.{arc_value}
use Rattle.cs_apply.specs.Columns.{RowsHaveColumns}
use Rattle.cs_apply.specs.Held.{held_also, is_key_placed}
use Rattle.cs_apply.proofs.stored.PlaceLaws.{put_keeps_columns, hold_shown, hold_kept, placed_found, rows_differ}
use Rattle.cs_apply.proofs.held.HeldTables.hold.Goals as goal

pub returns-in-Some-clause-ok : goal.returns-in-Some-clause-ok
returns-in-Some-clause-ok c =
    sym c.self.view_is
    ∙ hold_kept (arc_value c.self.inside.schema) c.self.inside.kept.items c.self.inside.places.rows.entries
    c.args.key _ c.len-places.ensures.unique (sym c.in-Some.ensures.value)
    ∙ ap (λ t. held_also t c.args.key) c.self.view_is

pub returns-clause-ok : goal.returns-clause-ok
returns-clause-ok c =
    hold_shown (arc_value c.self.inside.schema) c.self.inside.kept.items c.self.inside.places.rows.entries
    c.insert.new.self.entries c.args.key c.len-places.ensures.unique c.insert.ensures.unique
    (sym c.in_default.ensures.value) c.in_ok-insert.ensures.updates.0
    ∙ ap (λ t. held_also t c.args.key) c.self.view_is

pub invariant_of-self-2 : goal.invariant_of-self-2
invariant_of-self-2 c = (
  c.self.invariant.0,
  c.self.invariant.1,
  subst (RowsHaveColumns (arc_value c.self.inside.schema))
      (sym (rows_differ c.self.inside.places.rows.entries c.insert.new.self.entries c.args.key (Some None)
      c.len-places.ensures.unique c.insert.ensures.unique c.in_ok-insert.ensures.updates.0))
      (put_keeps_columns (arc_value c.self.inside.schema) _ c.args.key None c.self.invariant.2 tt),
)

pub returns-in-Some-clause-made : goal.returns-in-Some-clause-made
returns-in-Some-clause-made c =
    ap not (sym (ap is_some (sym c.in-Some.ensures.value))
    ∙ sym (placed_found (arc_value c.self.inside.schema) c.self.inside.kept.items c.self.inside.places.rows.entries
    c.args.key c.len-places.ensures.unique)
    ∙ ap (λ t. is_key_placed t c.args.key) c.self.view_is)

pub returns-clause-made : goal.returns-clause-made
returns-clause-made c =
    ap not (sym (ap is_some (sym c.in_default.ensures.value))
    ∙ sym (placed_found (arc_value c.self.inside.schema) c.self.inside.kept.items c.self.inside.places.rows.entries
    c.args.key c.len-places.ensures.unique)
    ∙ ap (λ t. is_key_placed t c.args.key) c.self.view_is)
