use Rattle.std.proofs.Common.{subst, sym}
use Rattle.rb_deliveries.specs.Pictured.{DeliveriesAgree}
use Rattle.rb_deliveries.proofs.pictures.CallLaws.{suc_is_more, placed_kept, placed_seen}
use Rattle.rb_deliveries.proofs.deliveries.Deliveries.place.Goals as goal

pub invariant_of-self : goal.invariant_of-self
invariant_of-self c =
    let d = c.self.inside in
    subst (λ n. DeliveriesAgree d.batch n d.turn d.next_delivery d.subs.subs) (sym (suc_is_more d.front))
    (placed_kept c.self.invariant d.subs.window
    (rw (← c.self.view_is) at c.requires.room))

pub returns : goal.returns
returns c =
    let d = c.self.inside in
    rw (← c.self.view_is, suc_is_more d.front)
    (placed_seen c.self.invariant d.subs.window)
