use Rattle.std.proofs.Common.{◌∙◌, ap, arith, refl, subst, sym}
use Rattle.rb_desk.specs.Limits.{Limits}
use Rattle.rb_sequence.specs.Cells.{HasCell}
use Rattle.rb_broker.proofs.PlaceLaws.{placed_fits}
use Rattle.rb_broker.proofs.locked.Locked.refuses.Goals as goal

-- the number that the desk places has a cell
pub returns-in-Ok-clause-why : goal.returns-in-Ok-clause-why
returns-in-Ok-clause-why g c =
    let locked = c.args.self.now in
    let is = sym c.prepare.ensures ∙ c.in-Ok.is in
    let fits = placed_fits locked.desk c.in-Ok.next is in
    let room = ap (λ (l : Limits). l.capacity) locked.limits ∙ locked.fits in
    let cell : HasCell g.L.StepLedger.cells c.in-Ok.next = (fits.0, omega (arith, fits.1, room)) in
    (c.in-Ok.next, is, (refl, λ e. c.requires (subst (HasCell g.L.StepLedger.cells) e cell)))
