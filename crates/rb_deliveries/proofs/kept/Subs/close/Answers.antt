use Rattle.std.proofs.Common.{◌≡◌, refl}
use Rattle.rb_deliveries.specs.Subs.{closed_sub}
use Rattle.rb_deliveries.proofs.orders.DueLaws.{changed_as, waiting_as}
use Rattle.rb_deliveries.proofs.kept.Subs.close.Goals as goal

pub invariant_of-self : goal.invariant_of-self
invariant_of-self c =
    waiting_as _ _ c.self.invariant (rw (← c.self.view_is) at c.requires) c.deref.ensures.value c.stand.ensures

pub returns : goal.returns
returns c sub found =
    let made : c.close.new.self ≡ closed_sub sub =
    changed_as c.self.inside.subs.items c.args.s c.index_mut.result.now sub closed_sub
    c.index_mut.ensures.value (rw (← c.self.view_is) at found) c.close.ensures in
    rw (← c.self.view_is, made) refl
