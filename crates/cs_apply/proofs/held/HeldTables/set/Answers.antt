use Rattle.std.proofs.Common.{Some, is_some, refl, sym, ap, subst, ◌∙◌}
use Rattle.std.proofs.lemmas.Bool.{false≢true}
use Rattle.std.specs.Arc.{arc_value}
use Rattle.cs_apply.specs.Columns.{RowsHaveColumns}
use Rattle.cs_apply.specs.Held.{with_row, KeyHasPlace, FitsKey}
use Rattle.cs_apply.proofs.stored.PlaceLaws.{put_keeps_columns, edit_shown, rows_differ, placed_found}
use Rattle.cs_apply.proofs.held.HeldTables.set.Goals as goal

pub returns-in_default : goal.returns-in_default
returns-in_default c =
    let found = sym (placed_found (arc_value c.self.inside.schema) c.self.inside.kept.items
    c.self.inside.places.rows.entries c.args.key.now c.in_default.ensures.unique)
    ∙ subst (λ t. KeyHasPlace t c.args.key.now) (sym c.self.view_is) c.requires.there in
    absurd (false≢true (ap is_some c.in_default.ensures.value ∙ found))

pub returns : goal.returns
returns c =
    let found = sym (placed_found (arc_value c.self.inside.schema) c.self.inside.kept.items
    c.self.inside.places.rows.entries c.args.key.now c.in-Some.ensures.unique)
    ∙ subst (λ t. KeyHasPlace t c.args.key.now) (sym c.self.view_is) c.requires.there in
    let written = c.get_mut.follows.holds (Some c.args.row) in
    edit_shown (arc_value c.self.inside.schema) c.self.inside.kept.items c.self.inside.places.rows.entries
    (c.get_mut.follows.lender (Some c.args.row)).entries c.args.key.now (Some (Some c.args.row)) refl
    c.in-Some.ensures.unique written.4 (written.3 found).0
    ∙ ap (λ t. with_row t c.args.key.now (Some c.args.row)) c.self.view_is

pub invariant_of-self-2 : goal.invariant_of-self-2
invariant_of-self-2 c =
    let found = sym (placed_found (arc_value c.self.inside.schema) c.self.inside.kept.items
    c.self.inside.places.rows.entries c.args.key.now c.in-Some.ensures.unique)
    ∙ subst (λ t. KeyHasPlace t c.args.key.now) (sym c.self.view_is) c.requires.there in
    let written = c.get_mut.follows.holds (Some c.args.row) in (
      c.self.invariant.0,
      c.self.invariant.1,
      subst (RowsHaveColumns (arc_value c.self.inside.schema))
          (sym (rows_differ c.self.inside.places.rows.entries (c.get_mut.follows.lender (Some c.args.row)).entries
          c.args.key.now (Some (Some c.args.row))
          c.in-Some.ensures.unique written.4 (written.3 found).0))
          (put_keeps_columns (arc_value c.self.inside.schema) _ c.args.key.now (Some c.args.row) c.self.invariant.2
          (subst (λ t. FitsKey t.state c.args.key.now c.args.row) (sym c.self.view_is) c.requires.fits)),
    )
