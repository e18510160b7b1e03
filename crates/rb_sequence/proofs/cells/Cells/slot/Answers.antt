use Rattle.std.proofs.Common.{◌<◌, length, arith, rules, sym, ap, ◌∙◌}
use Rattle.std.proofs.lemmas.List.{length-map}
use Rattle.once_cell.specs.Once.{cell_name}
use Rattle.rb_sequence.specs.Cells.{Cells}
use Rattle.rb_sequence.specs.Segments.{id_at}
use Rattle.rb_sequence.proofs.Names.{id_is}
use Rattle.rb_sequence.proofs.cells.Cells.slot.Goals as goal

pub returns : goal.returns
returns c =
    let slots = c.self.inside.segments.items in
    let one_each = ap (λ (s : Cells). length s.segments) c.self.view_is in
    let near : c.args.segment < length slots =
    omega (arith, c.requires, one_each, length-map slots cell_name) in
    ap (λ (s : Cells). id_at s.segments c.args.segment) (sym c.self.view_is)
    ∙ id_is slots c.args.segment c.index.result.now near (search rules)
