use Rattle.rb_broker.proofs.HoldLaws.{own_step_holds}
use Rattle.rb_broker.proofs.locked.Locked.unsubscribe.Goals as goal

pub invariant_of-self-2 : goal.invariant_of-self-2
invariant_of-self-2 g c =
    let old = c.args.self.now in
    own_step_holds old.desk _ _ c.steps_are_counted.ensures.own (c.only_subscribe_and_close.ensures.unsubscribe _ _ _)
    c.in_ok-unsubscribe.ensures.1 c.note.ensures.total old.limits old.fits old.fills old.closes old.all old.total old.made old.name
    old.replays c.note.ensures.replays
    (record { same = c.catch_up.ensures.same; named = c.note.ensures.name; log = c.note.ensures.log })
