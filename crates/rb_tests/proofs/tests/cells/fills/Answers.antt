use Rattle.std.proofs.Common.{subst, sym, ◌∙◌}
use Rattle.rb_sequence.specs.Cells.{IsReadyFor}
use Rattle.rb_tests.proofs.tests.cells.fills.Goals as goal

pub fill-requires : goal.fill-requires
fill-requires g c =
    subst (λ cells. IsReadyFor cells c.in_ok-first.first) (c.requires.preparer.0 ∙ sym c.requires.filler)
    c.in_ok-first.ensures.ok.0

pub fill-requires-2 : goal.fill-requires-2
fill-requires-2 g c =
    subst (λ cells. IsReadyFor cells c.in_ok-second.second)
    (c.requires.preparer.0 ∙ sym (c.fill.ensures.same ∙ c.requires.filler)) c.in_ok-second.ensures.ok.0
