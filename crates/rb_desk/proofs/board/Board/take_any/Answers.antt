use Rattle.std.proofs.Common.{subst, sym, ◌∙◌}
use Rattle.rb_deliveries.specs.Changes.{MayDeliver}
use Rattle.rb_desk.proofs.calls.AnyLaws.{first_may}
use Rattle.rb_desk.proofs.calls.BoardLaws.{same_deliveries}
use Rattle.rb_desk.proofs.board.Board.take_any.Goals as goal

pub deliver-requires-clause-may : goal.deliver-requires-clause-may
deliver-requires-clause-may c =
    let d = c.self.inside in
    let may = first_may d.deliveries.picture c.in-Some.sub c.in-Some.span (sym c.first_of_all.ensures ∙ c.in-Some.is) in
    rw (← c.self.view_is) (subst (λ p. MayDeliver p c.in-Some.sub c.in-Some.span)
    (sym (same_deliveries d.config d.closing d.clock d.next_link d.deliveries.picture c.self.invariant)) may)
