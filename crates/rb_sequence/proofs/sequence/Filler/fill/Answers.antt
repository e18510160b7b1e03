use Rattle.std.proofs.Common.{◌≡◌, sym, subst, ◌∙◌}
use Rattle.rb_sequence.specs.Cells.{Cells, IsReadyFor}
use Rattle.rb_sequence.proofs.sequence.Filler.fill.Goals as goal

pub fill-requires : goal.fill-requires
fill-requires c =
    let same : c.deref.result.now ≡ c.args.self.now = c.deref.ensures ∙ c.self.view_is in
    subst (λ (s : Cells). IsReadyFor s c.args.ready) (sym same) c.requires
