use Rattle.std.proofs.Common.{subst, sym}
use Rattle.rb_deliveries.specs.Pictured.{DeliveriesAgree}
use Rattle.rb_deliveries.proofs.pictures.CallLaws.{delivers, goes_numbered, on_any_error, only_fresh, suc_is_more}
use Rattle.rb_deliveries.proofs.pictures.OpenLaws.{next_is_newest}
use Rattle.rb_deliveries.proofs.deliveries.Deliveries.deliver.Goals as goal

pub deliver-requires-clause-span : goal.deliver-requires-clause-span
deliver-requires-clause-span c =
    let d = c.self.inside in
    goes_numbered c.self.invariant d.subs.window c.rise.ensures c.args.s c.args.span
    (rw (← c.self.view_is) at c.requires.may)

pub deliver-requires-clause-last : goal.deliver-requires-clause-last
deliver-requires-clause-last c =
    let d = c.self.inside in
    next_is_newest d.front d.turn d.next_delivery c.args.s d.subs.subs c.self.invariant.belong

pub invariant_of-self-2 : goal.invariant_of-self-2
invariant_of-self-2 c =
    let d = c.self.inside in
    subst (λ n. DeliveriesAgree d.batch d.front d.turn n c.deliver.new.self.subs) (sym (suc_is_more d.next_delivery))
    (delivers c.self.invariant d.subs.window c.rise.ensures c.args.s c.args.span c.args.tick c.deliver.new.self
    (rw (← c.self.view_is) at c.requires.may)
    c.in_ok-deliver.ensures.ok).0

pub returns-clause-ok : goal.returns-clause-ok
returns-clause-ok c =
    let d = c.self.inside in
    rw (← c.self.view_is, suc_is_more d.next_delivery)
    (delivers c.self.invariant d.subs.window c.rise.ensures c.args.s c.args.span c.args.tick c.deliver.new.self
    (rw (← c.self.view_is) at c.requires.may)
    c.in_ok-deliver.ensures.ok).1

pub returns-in_err-deliver-clause-memory : goal.returns-in_err-deliver-clause-memory
returns-in_err-deliver-clause-memory c =
    let d = c.self.inside in
    on_any_error c.from_residual.result
    (only_fresh c.self.invariant d.subs.window c.rise.ensures c.args.s c.args.span
    (rw (← c.self.view_is) at c.requires.may) c.in_err-deliver.ensures.memory)
