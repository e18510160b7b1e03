use Rattle.std.proofs.Common.{◌∙◌, ap, sym, arith}
use Rattle.rb_sequence.specs.Entry.{Entry}
use Rattle.rb_core.specs.State.{State}
use Rattle.rb_core.proofs.invariants.Numbers.{none_below, found_by_place}
use Rattle.rb_core.proofs.parts.Parts.placed.Goals as goal

pub returns-in_err-place : goal.returns-in_err-place
returns-in_err-place c =
    rw c.from_residual.ensures
    (sym (none_below (λ (e : Entry). e.number) 1 c.args.self.now.sequence c.args.number c.requires
    (omega (arith, c.in_err-place.ensures))))

pub returns : goal.returns
returns c =
    found_by_place (λ (e : Entry). e.number) c.deref.result.now c.args.self.now.sequence c.args.number
    c.in_ok-place.place c.get.result (c.deref.ensures.value ∙ ap (λ (w : State). w.sequence) c.self.view_is)
    c.requires c.in_ok-place.ensures.0 c.in_ok-place.ensures.1 c.get.ensures.lookup
