use Rattle.std.proofs.Common.{◌∙◌, sym}
use Rattle.rb_deliveries.proofs.pictures.CallLaws.{expired_kept, expired_seen}
use Rattle.rb_deliveries.proofs.pictures.ExpireShown.{expired_count}
use Rattle.rb_deliveries.proofs.deliveries.Deliveries.expire.Goals as goal

pub invariant_of-self : goal.invariant_of-self
invariant_of-self c =
    expired_kept c.self.invariant c.self.inside.subs.window c.rise.ensures c.args.timeout c.args.clock
    c.latest_rank-latest.result c.expire-many.new.self (rw (← c.self.view_is) at c.latest_rank-latest.ensures)
    c.expire-many.ensures.kept

pub returns-clause-many : goal.returns-clause-many
returns-clause-many c =
    let d = c.self.inside in
    rw (← c.self.view_is) (c.expire-many.ensures.many
    ∙ sym (expired_count d.batch d.subs.window d.front d.turn d.next_delivery c.args.timeout c.args.clock d.subs.subs
    c.self.invariant.batch_is.0 c.self.invariant.belong c.rise.ensures))

pub returns-clause-picture : goal.returns-clause-picture
returns-clause-picture c =
    rw (← c.self.view_is)
    (expired_seen c.self.invariant c.self.inside.subs.window c.rise.ensures c.args.timeout c.args.clock
    c.latest_rank-latest.result c.expire-many.new.self (rw (← c.self.view_is) at c.latest_rank-latest.ensures)
    c.expire-many.ensures.kept)
