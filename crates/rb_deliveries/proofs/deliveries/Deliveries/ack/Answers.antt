use Rattle.rb_deliveries.proofs.deliveries.Deliveries.ack.Goals as goal
use Rattle.rb_deliveries.proofs.pictures.CallLaws.{acks, acked_floor}

pub invariant_of-self : goal.invariant_of-self
invariant_of-self c =
    (acks c.self.invariant c.self.inside.subs.window c.rise.ensures c.args.s c.args.span c.settle.new.self
    (rw (← c.self.view_is) at c.requires.out) c.settle.ensures.kept).0

pub returns-clause-new : goal.returns-clause-new
returns-clause-new c =
    rw (← c.self.view_is)
    (acks c.self.invariant c.self.inside.subs.window c.rise.ensures c.args.s c.args.span c.settle.new.self
    (rw (← c.self.view_is) at c.requires.out) c.settle.ensures.kept).1

pub returns-clause-floor : goal.returns-clause-floor
returns-clause-floor c =
    rw (← c.self.view_is)
    (acked_floor c.self.invariant c.self.inside.subs.window c.rise.ensures c.args.s c.args.span c.settle.result
    (rw (← c.self.view_is) at c.requires.out) c.settle.ensures.floor)
