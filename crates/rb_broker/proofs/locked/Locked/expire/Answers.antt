use Rattle.std.proofs.Common.{refl}
use Rattle.rb_broker.proofs.HoldLaws.{other_step_holds}
use Rattle.rb_broker.proofs.locked.Locked.expire.Goals as goal

pub invariant_of-self-2 : goal.invariant_of-self-2
invariant_of-self-2 g c =
    let old = c.args.self.now in
    other_step_holds old.desk _ _ c.steps_are_counted.ensures.own (c.only_subscribe_and_close.ensures.expire _ _)
    c.in_ok-count.ensures.1 refl old.limits old.fits old.fills old.closes old.all old.total old.made old.name
    old.replays c.steps-steps.ensures.replay
    (record { same = c.catch_up.ensures.same; named = c.append.ensures.name; log = c.append.ensures.log })
