use Rattle.std.proofs.Common.{◌≡◌, subst, sym, suc}
use Rattle.rb_deliveries.specs.Subs.{ComesLastAt}
use Rattle.rb_deliveries.proofs.pictures.CallLaws.{nacks}
use Rattle.rb_deliveries.proofs.pictures.OpenLaws.{next_comes_last}
use Rattle.rb_deliveries.proofs.deliveries.Deliveries.nack.Goals as goal

pub give_back-requires-clause-last : goal.give_back-requires-clause-last
give_back-requires-clause-last c =
    let d = c.self.inside in
    let rank : c.next_rank-rank.result ≡ record { front = d.front; turn = suc d.turn } =
    rw (← c.self.view_is) at c.next_rank-rank.ensures in
    subst (ComesLastAt d.subs.subs c.args.s) (sym rank)
    (next_comes_last d.front d.turn d.next_delivery c.args.s d.subs.subs c.self.invariant.belong)

pub invariant_of-self : goal.invariant_of-self
invariant_of-self c =
    (nacks c.self.invariant c.self.inside.subs.window c.rise.ensures c.args.s c.args.span c.next_rank-rank.result
    c.give_back.new.self (rw (← c.self.view_is) at c.requires.out)
    (rw (← c.self.view_is) at c.next_rank-rank.ensures) c.give_back.ensures).0

pub returns : goal.returns
returns c =
    rw (← c.self.view_is)
    (nacks c.self.invariant c.self.inside.subs.window c.rise.ensures c.args.s c.args.span c.next_rank-rank.result
    c.give_back.new.self (rw (← c.self.view_is) at c.requires.out)
    (rw (← c.self.view_is) at c.next_rank-rank.ensures) c.give_back.ensures).1
