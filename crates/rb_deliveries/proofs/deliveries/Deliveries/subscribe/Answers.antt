use Rattle.rb_deliveries.proofs.pictures.CallLaws.{subscribed_kept, subscribed_seen}
use Rattle.rb_deliveries.proofs.deliveries.Deliveries.subscribe.Goals as goal

pub invariant_of-self-2 : goal.invariant_of-self-2
invariant_of-self-2 c =
    subscribed_kept c.self.invariant c.self.inside.subs.window c.args.start c.args.link c.next_rank-rank.result
    c.add_subscriber.new.self (rw (← c.self.view_is) at c.requires.start) (rw (← c.self.view_is) at c.requires.few)
    (rw (← c.self.view_is) at c.next_rank-rank.ensures) c.in_ok-add_subscriber.ensures.ok

pub returns-clause-ok : goal.returns-clause-ok
returns-clause-ok c =
    rw (← c.self.view_is)
    (subscribed_seen c.self.invariant c.self.inside.subs.window c.args.start c.args.link c.next_rank-rank.result
    c.add_subscriber.new.self (rw (← c.self.view_is) at c.next_rank-rank.ensures)
    c.in_ok-add_subscriber.ensures.ok)
