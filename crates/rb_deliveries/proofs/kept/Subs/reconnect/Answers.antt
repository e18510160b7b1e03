use Rattle.std.proofs.Common.{◌≡◌, refl}
use Rattle.rb_deliveries.specs.Subs.{reconnected_sub}
use Rattle.rb_deliveries.proofs.orders.DueLaws.{changed_as, waiting_as}
use Rattle.rb_deliveries.proofs.kept.Subs.reconnect.Goals as goal

pub invariant_of-self : goal.invariant_of-self
invariant_of-self c =
    waiting_as _ _ c.self.invariant (rw (← c.self.view_is) at c.requires.there) c.deref.ensures.value c.stand.ensures

pub returns : goal.returns
returns c sub found =
    let made : c.reconnect.new.self ≡ reconnected_sub sub c.args.cursor c.args.link c.args.rank =
    changed_as c.self.inside.subs.items c.args.s c.index_mut.result.now sub
    (λ sub. reconnected_sub sub c.args.cursor c.args.link c.args.rank) c.index_mut.ensures.value
    (rw (← c.self.view_is) at found) c.reconnect.ensures in
    rw (← c.self.view_is, made) refl
