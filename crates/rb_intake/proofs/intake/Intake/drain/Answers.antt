use Rattle.std.proofs.Common.{ap, sym, ◌∙◌, subst, arith, length, ◌∷◌, []}
use Rattle.std.proofs.lemmas.List.{length-append}
use Rattle.rb_intake.specs.Passes.{LastKnows}
use Rattle.rb_intake.specs.Draining.{PopsLast}
use Rattle.rb_intake.proofs.DrainLaws.{drain_begins, drain_goes_on, drained, pulls_fit, Draining}
use Rattle.rb_intake.proofs.intake.Intake.drain.Goals as goal

pub loop-item-init : goal.loop-item-init
loop-item-init g c = (drain_begins c.args.pass c.args.left.now.items, c.requires.room)

pub pop_last-requires : goal.pop_last-requires
pop_last-requires g c = record {
  queue = ap (λ (p : LastKnows). p.queue) c.loop-item.invariant.0.2 ∙ c.requires.queue;
}

pub push_reserved-requires : goal.push_reserved-requires
push_reserved-requires g c =
    let pop = subst (λ r. PopsLast r c.loop-item.pass c.pop_last.new.pass) c.in-Some.is c.pop_last.ensures in
    let few = pulls_fit c.args.pass c.loop-item.pass c.pop_last.new.pass c.args.left.now.items c.loop-item.left.items
    c.in-Some.item c.loop-item.invariant.0 c.requires.all pop in
    let room = c.loop-item.invariant.1 in
    omega (arith, few, room)

pub loop-item-smaller : goal.loop-item-smaller
loop-item-smaller g c =
    let pop = subst (λ r. PopsLast r c.loop-item.pass c.pop_last.new.pass) c.in-Some.is c.pop_last.ensures in
    let few = pulls_fit c.args.pass c.loop-item.pass c.pop_last.new.pass c.args.left.now.items c.loop-item.left.items
    c.in-Some.item c.loop-item.invariant.0 c.requires.all pop in
    let longer = ap (λ (p : LastKnows). length p.pulled) pop.0 in
    let parts = length-append c.loop-item.pass.pulled (c.in-Some.item ∷ []) in
    omega (arith, few, longer, parts)

pub loop-item-preserved : goal.loop-item-preserved
loop-item-preserved g c =
    let pop = subst (λ r. PopsLast r c.loop-item.pass c.pop_last.new.pass) c.in-Some.is c.pop_last.ensures in
    let on = drain_goes_on c.args.pass c.loop-item.pass c.pop_last.new.pass c.args.left.now.items c.loop-item.left.items
    c.in-Some.item c.loop-item.invariant.0 pop in
    let room = c.loop-item.invariant.1 in
    let longer = ap (λ (p : LastKnows). length p.pulled) pop.0 in
    let parts = length-append c.loop-item.pass.pulled (c.in-Some.item ∷ []) in
    let len = c.push_reserved.ensures.len in
    let cap = c.push_reserved.ensures.capacity in (
      subst (λ xs. Draining c.args.pass c.pop_last.new.pass c.args.left.now.items xs)
          (sym c.push_reserved.ensures.items) on,
      omega (arith, room, longer, parts, len, cap),
    )

pub returns : goal.returns
returns g c =
    drained c.args.pass c.loop-item.pass c.pop_last.new.pass c.args.left.now.items c.loop-item.left.items
    c.loop-item.invariant.0 c.requires.all c.in_default.ensures
