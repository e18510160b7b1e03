use Rattle.std.proofs.Common.{◌≡◌, ℕ, rules, sym, ap, subst, ◌∙◌}
use Rattle.rb_sequence.specs.Segments.{IsLocated, id_at}
use Rattle.rb_sequence.proofs.told.Occupant.same.Goals as goal

pub agrees-requires-2 : goal.agrees-requires-2
agrees-requires-2 c =
    let k = c.locate-place.result.0 in
    let j = c.locate-place.result.1 in
    let numbers : c.self.inside.number ≡ c.other.inside.number = search rules in
    let at = c.locate-place.ensures in
    c.self.invariant.1 k j at ∙ ap (λ v. id_at v j) c.agrees.ensures
    ∙ sym (c.other.invariant.1 k j (subst (λ (n : ℕ). IsLocated n k j) numbers at))
