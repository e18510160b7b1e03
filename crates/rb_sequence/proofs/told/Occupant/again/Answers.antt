use Rattle.std.proofs.Common.{sym, ap, ◌∙◌}
use Rattle.rb_sequence.specs.Segments.{id_at}
use Rattle.rb_sequence.proofs.told.Occupant.again.Goals as goal

pub invariant_of-result : goal.invariant_of-result
invariant_of-result c = (
  c.self.invariant.0,
  λ k j at. c.again-2.ensures.0 ∙ c.self.invariant.1 k j at
      ∙ ap (λ v. id_at v j) (sym c.again.ensures.1),
)
