use Rattle.rb_deliveries.proofs.pictures.CallLaws.{continues_placed, reconnects}
use Rattle.rb_deliveries.proofs.deliveries.Deliveries.reconnect.Goals as goal

pub reconnect-requires-clause-cursor : goal.reconnect-requires-clause-cursor
reconnect-requires-clause-cursor c =
    continues_placed c.self.invariant c.self.inside.subs.window c.args.s c.args.cursor
    (rw (← c.self.view_is) at c.requires.may)

pub invariant_of-self : goal.invariant_of-self
invariant_of-self c =
    (reconnects c.self.invariant c.self.inside.subs.window c.args.s c.args.cursor c.args.link
    c.next_rank-rank.result c.reconnect.new.self (rw (← c.self.view_is) at c.requires.may)
    (rw (← c.self.view_is) at c.next_rank-rank.ensures) c.reconnect.ensures).0

pub returns : goal.returns
returns c =
    rw (← c.self.view_is)
    (reconnects c.self.invariant c.self.inside.subs.window c.args.s c.args.cursor c.args.link
    c.next_rank-rank.result c.reconnect.new.self (rw (← c.self.view_is) at c.requires.may)
    (rw (← c.self.view_is) at c.next_rank-rank.ensures) c.reconnect.ensures).1
