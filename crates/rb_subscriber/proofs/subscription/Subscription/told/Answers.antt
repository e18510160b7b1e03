use Rattle.std.proofs.Common.{suc, List, subst, sym, arith}
use Rattle.rb_sequence.specs.Cells.{AreInCells, CellToken}
use Rattle.rb_subscriber.proofs.accepting.TokenLaws.{lent_token}
use Rattle.rb_subscriber.proofs.subscription.Subscription.told.Goals as goal

pub returns-clause-shown : goal.returns-clause-shown
returns-clause-shown g c =
    let cells = g.L.StepLedger.cells in
    let tokens = subst (λ (xs : List CellToken). AreInCells cells (suc c.self.inside.end.start) xs)
    (sym c.deref.ensures.value) c.self.invariant.1 in
    lent_token cells (suc c.self.inside.end.start) c.in_ok-place.place c.args.number c.deref.result.now c.get.result tokens
    c.get.ensures.lookup.0 c.get.ensures.lookup.1
    (omega (arith, c.in_ok-place.ensures, c.in_ok-checked_sub.ensures, c.start.ensures.value))
