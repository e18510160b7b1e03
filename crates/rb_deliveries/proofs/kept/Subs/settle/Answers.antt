use Rattle.std.proofs.Common.{◌≡◌, refl, ◌∙◌, ap}
use Rattle.rb_deliveries.specs.declared.sub.Sub.{Sub}
use Rattle.rb_deliveries.specs.Queues.{queue_floor, settled_queue}
use Rattle.rb_deliveries.specs.Subs.{settled_sub}
use Rattle.rb_deliveries.proofs.orders.DueLaws.{changed_as, waiting_as}
use Rattle.rb_deliveries.proofs.orders.Line.{read_there}
use Rattle.rb_deliveries.proofs.kept.Subs.settle.Goals as goal

pub invariant_of-self : goal.invariant_of-self
invariant_of-self c =
    waiting_as _ _ c.self.invariant (rw (← c.self.view_is) at c.requires) c.deref.ensures.value c.stand.ensures

pub returns-clause-kept : goal.returns-clause-kept
returns-clause-kept c sub found =
    let made : c.settle-floor.new.self ≡ settled_sub sub c.args.first =
    changed_as c.self.inside.subs.items c.args.s c.index_mut.result.now sub (λ sub. settled_sub sub c.args.first)
    c.index_mut.ensures.value (rw (← c.self.view_is) at found) c.settle-floor.ensures.sub in
    rw (← c.self.view_is, made) refl

pub returns-clause-floor : goal.returns-clause-floor
returns-clause-floor c sub found =
    c.settle-floor.ensures.floor
    ∙ ap (λ (sub : Sub). queue_floor (settled_queue sub.queue c.args.first))
    (read_there c.self.inside.subs.items c.args.s c.index_mut.result.now sub c.index_mut.ensures.value
    (rw (← c.self.view_is) at found))
