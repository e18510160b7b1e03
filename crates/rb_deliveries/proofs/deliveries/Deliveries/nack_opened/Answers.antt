use Rattle.std.proofs.Common.{arith}
use Rattle.rb_deliveries.proofs.pictures.CallLaws.{opens, out_placed}
use Rattle.rb_deliveries.proofs.deliveries.Deliveries.nack_opened.Goals as goal

pub invariant_of-self-2 : goal.invariant_of-self-2
invariant_of-self-2 c =
    (opens c.self.invariant c.self.inside.subs.window c.rise.ensures c.args.s c.args.span
    c.latest_rank-latest.result c.open_up.new.self (rw (← c.self.view_is) at c.requires.out)
    (rw (← c.self.view_is) at c.latest_rank-latest.ensures) c.in_ok-open_up.ensures.ok).0

pub returns-clause-ok : goal.returns-clause-ok
returns-clause-ok c =
    rw (← c.self.view_is)
    (opens c.self.invariant c.self.inside.subs.window c.rise.ensures c.args.s c.args.span
    c.latest_rank-latest.result c.open_up.new.self (rw (← c.self.view_is) at c.requires.out)
    (rw (← c.self.view_is) at c.latest_rank-latest.ensures) c.in_ok-open_up.ensures.ok).1

pub overflow_sub-result : goal.overflow_sub-result
overflow_sub-result c =
    (out_placed c.self.invariant c.self.inside.subs.window c.rise.ensures c.args.s c.args.span
    (rw (← c.self.view_is) at c.requires.out)).0

pub overflow_add-result : goal.overflow_add-result
overflow_add-result c =
    omega (
      arith,
      out_placed c.self.invariant c.self.inside.subs.window c.rise.ensures c.args.s c.args.span
          (rw (← c.self.view_is) at c.requires.out),
    )

pub returns-clause-many : goal.returns-clause-many
returns-clause-many c =
    omega (
      arith,
      out_placed c.self.invariant c.self.inside.subs.window c.rise.ensures c.args.s c.args.span
          (rw (← c.self.view_is) at c.requires.out),
    )
