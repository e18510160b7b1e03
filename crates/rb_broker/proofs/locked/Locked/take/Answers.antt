use Rattle.std.proofs.Common.{◌∙◌, Result, ap}
use Rattle.rb_desk.specs.Calls.{take}
use Rattle.rb_desk.specs.declared.delivery.Delivery.{Delivery}
use Rattle.rb_desk.specs.declared.refusal.DeskRefusal.{DeskRefusal}
use Rattle.rb_subscriber.specs.Subscription.{SubscriptionState}
use Rattle.rb_broker.proofs.HoldLaws.{answered, drained_there, own_step_holds}
use Rattle.rb_broker.proofs.locked.Locked.take.Goals as goal

pub invariant_of-self : goal.invariant_of-self
invariant_of-self g c =
    let old = c.args.self.now in
    own_step_holds old.desk _ _ c.steps_are_counted.ensures.own (c.only_subscribe_and_close.ensures.take _ _ _ _ _)
    c.in-Ok.ensures.1 c.note.ensures.total old.limits old.fits old.fills old.closes old.all old.total old.made old.name
    old.replays c.note.ensures.replays
    (record { same = c.catch_up.ensures.same; named = c.note.ensures.name; log = c.note.ensures.log })

-- the delivery is of its subscription
pub returns-in-Ok-clause-of : goal.returns-in-Ok-clause-of
returns-in-Ok-clause-of g c =
    let p = c.args.self.now.desk.picture in
    let asked = take p c.sub-sub.result c.link-link.result c.cursor-cursor.result c.args.now in
    let ok = answered _ asked.0 c.in-Ok.delivery c.in-Ok.ensures.0 in
    let names = c.takes_are_as_asked.ensures p c.sub-sub.result c.link-link.result c.cursor-cursor.result c.args.now
    c.in-Ok.delivery asked.1 (ap (λ (r : Result Delivery DeskRefusal). (r, asked.1)) ok) in
    let seen = c.catch_up.ensures.seen in (
      names.0 ∙ c.sub-sub.ensures ∙ ap (λ (s : SubscriptionState). s.sub) seen,
      names.1 ∙ c.link-link.ensures ∙ ap (λ (s : SubscriptionState). s.link) seen,
    )

-- at `Drained` the cursor is the closing number
pub take_error-requires : goal.take_error-requires
take_error-requires g c =
    let p = c.args.self.now.desk.picture in
    drained_there c.sub-sub.result c.link-link.result c.cursor-cursor.result c.args.now c.in-Err.error c.args.self.now.desk
    c.take.new.self _
    (λ last e. c.drained_is_at_the_end.ensures p c.sub-sub.result c.link-link.result c.cursor-cursor.result c.args.now last e)
    c.in-Err.ensures
