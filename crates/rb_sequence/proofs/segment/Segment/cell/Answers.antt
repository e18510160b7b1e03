use Rattle.std.proofs.Common.{ℕ, List, rules, sym, ap, ◌∙◌}
use Rattle.rb_sequence.specs.Segments.{id_at}
use Rattle.rb_sequence.proofs.Names.{id_is}
use Rattle.rb_sequence.proofs.segment.Segment.cell.Goals as goal

pub returns : goal.returns
returns c = ap (λ (s : List ℕ). id_at s c.args.place) (sym c.self.view_is)
    ∙ id_is c.self.inside.cells.items c.args.place c.index.result.now (search rules) (search rules)
