use Rattle.std.proofs.Common.{◌≡◌, ℕ, sym, ap, subst, ◌∙◌}
use Rattle.rb_sequence.specs.Segments.{IsLocated, id_at}
use Rattle.rb_sequence.specs.Cells.{CellToken}
use Rattle.rb_sequence.proofs.cells.Cells.get_occupant.Goals as goal

pub value-cells-requires : goal.value-cells-requires
value-cells-requires c =
    let k = c.locate-segment.result.0 in
    let j = c.locate-segment.result.1 in
    let numbers : c.occupant.inside.number ≡ c.args.occupant.now.number =
    ap (λ (t : CellToken). t.number) c.occupant.view_is in
    let here = c.requires.segment k j (subst (λ (n : ℕ). IsLocated n k j) numbers c.locate-segment.ensures) in
    ap (λ (t : CellToken). t.segment) c.occupant.view_is ∙ here ∙ c.slot.ensures

pub value-requires : goal.value-requires
value-requires c =
    let k = c.locate-segment.result.0 in
    let j = c.locate-segment.result.1 in
    c.occupant.invariant.1 k j c.locate-segment.ensures
    ∙ ap (λ v. id_at v j) (sym c.value-cells.ensures) ∙ c.cell.ensures
