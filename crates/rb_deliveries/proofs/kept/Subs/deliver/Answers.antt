use Rattle.std.proofs.Common.{◌≡◌, refl}
use Rattle.rb_deliveries.specs.Subs.{delivered_sub}
use Rattle.rb_deliveries.proofs.orders.DueLaws.{changed_as, waiting_as}
use Rattle.rb_deliveries.proofs.kept.Subs.deliver.Goals as goal

pub invariant_of-self-2 : goal.invariant_of-self-2
invariant_of-self-2 c =
    waiting_as _ _ c.self.invariant (rw (← c.self.view_is) at c.requires.there) c.deref.ensures.value c.stand.ensures

pub returns-clause-ok : goal.returns-clause-ok
returns-clause-ok c sub found =
    let made : c.deliver.new.self ≡ delivered_sub sub c.args.span c.args.number c.args.tick =
    changed_as c.self.inside.subs.items c.args.s c.index_mut.result.now sub
    (λ sub. delivered_sub sub c.args.span c.args.number c.args.tick) c.index_mut.ensures.value
    (rw (← c.self.view_is) at found) c.in_ok-deliver.ensures.ok in
    rw (← c.self.view_is, made) refl
