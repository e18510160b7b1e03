use Rattle.std.proofs.Common.{ap, sym, ◌∙◌}
use Rattle.rb_deliveries.specs.Changes.{first_of_all}
use Rattle.rb_desk.proofs.calls.AnyLaws.{take_any_goes, take_any_is_refused}
use Rattle.rb_desk.proofs.calls.BoardLaws.{same_deliveries}
use Rattle.rb_desk.proofs.board.Board.refuses_take_any.Goals as goal

pub returns-in-Some : goal.returns-in-Some
returns-in-Some c now =
    let d = c.self.inside in
    let same = same_deliveries d.config d.closing d.clock d.next_link d.deliveries.picture c.self.invariant in
    rw (← c.self.view_is) (take_any_goes _ now c.in-Some.field-0
    (ap first_of_all same ∙ sym c.first_of_all.ensures ∙ c.in-Some.is))

pub returns-in-None : goal.returns-in-None
returns-in-None c now =
    let d = c.self.inside in
    let same = same_deliveries d.config d.closing d.clock d.next_link d.deliveries.picture c.self.invariant in
    rw (c.front.ensures, ← c.self.view_is) (take_any_is_refused _ now
    (ap first_of_all same ∙ sym c.first_of_all.ensures ∙ c.in-None.is))
