use Rattle.std.proofs.Common.{◌≡◌, refl}
use Rattle.rb_deliveries.specs.Opening.{opened_sub}
use Rattle.rb_deliveries.proofs.orders.DueLaws.{changed_as, waiting_as}
use Rattle.rb_deliveries.proofs.kept.Subs.open_up.Goals as goal

pub invariant_of-self-2 : goal.invariant_of-self-2
invariant_of-self-2 c =
    waiting_as _ _ c.self.invariant (rw (← c.self.view_is) at c.requires.there) c.deref.ensures.value c.stand.ensures

pub returns-clause-ok : goal.returns-clause-ok
returns-clause-ok c sub found =
    let made : c.open.new.self ≡ opened_sub sub c.args.first c.args.latest =
    changed_as c.self.inside.subs.items c.args.s c.index_mut.result.now sub
    (λ sub. opened_sub sub c.args.first c.args.latest) c.index_mut.ensures.value
    (rw (← c.self.view_is) at found) c.in_ok-open.ensures.ok in
    rw (← c.self.view_is, made) refl
