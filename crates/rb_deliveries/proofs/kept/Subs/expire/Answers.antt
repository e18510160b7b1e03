use Rattle.std.proofs.Common.{arith}
use Rattle.std.specs.List.{AllByRecursion}
use Rattle.rb_deliveries.specs.Subs.{Belongs}
use Rattle.rb_deliveries.proofs.orders.DueLaws.{few_due}
use Rattle.rb_deliveries.proofs.kept.Subs.expire.Goals as goal

pub expire_due-requires-clause-few : goal.expire_due-requires-clause-few
expire_due-requires-clause-few c =
    let belong : AllByRecursion (Belongs c.args.latest.front c.args.latest.turn c.args.next) c.self.inside.subs.items =
    rw (← c.self.view_is) at c.requires.belong in
    omega (
      arith,
      few_due c.args.timeout c.args.clock c.args.latest.front c.args.latest.turn c.args.next c.self.inside.subs.items
          belong c.self.invariant.rising c.requires.few.0,
      rw (← c.self.view_is) at c.requires.few.1,
    )
