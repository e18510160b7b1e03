use Rattle.std.proofs.Common.{◌∙◌, arith, sym}
use Rattle.rb_deliveries.specs.Taken.{held_in, with_state}
use Rattle.rb_deliveries.proofs.lists.StandLaws.{out_left}
use Rattle.rb_deliveries.proofs.lists.MoveLaws.{free_between}
use Rattle.rb_deliveries.proofs.lists.RestateLaws.{restated_absent}
use Rattle.rb_deliveries.proofs.lists.StateLaws.{back_kept, back_spans, few_left, flown_kept, flown_spans}
use Rattle.rb_deliveries.proofs.steps.restate.Goals as goal

pub returns-in_default-clause-spans : goal.returns-in_default-clause-spans
returns-in_default-clause-spans c =
    sym (restated_absent c.args.first c.args.status c.args.rank (held_in c.args.records.now) c.in_default.ensures)

pub push_back-requires-clause-free : goal.push_back-requires-clause-free
push_back-requires-clause-free c =
    free_between c.args.records.now c.without-rest.new.records c.set.new.records c.in-Some.key
    (with_state c.args.status c.args.rank)
    (record { unlinked = c.without-rest.ensures.lane; changed = c.set.ensures })

pub push_back-requires-else-is_out-clause-free : goal.push_back-requires-else-is_out-clause-free
push_back-requires-else-is_out-clause-free c =
    free_between c.args.records.now c.without-rest.new.records c.set.new.records c.in-Some.key
    (with_state c.args.status c.args.rank)
    (record { unlinked = c.without-rest.ensures.lane; changed = c.set.ensures })

pub overflow_add-result : goal.overflow_add-result
overflow_add-result c =
    let lanes = c.args.records.now in
    let left = out_left lanes c.without-rest.new.records c.in-Some.key c.requires.lists.0 c.without-rest.ensures.lane in
    let few = few_left lanes c.in-Some.key c.requires.lists.0 in
    omega (arith, left, few, c.without-rest.ensures.flying, c.requires.few)

pub returns-then-is_out-clause-lists : goal.returns-then-is_out-clause-lists
returns-then-is_out-clause-lists c =
    flown_kept c.args.records.now c.without-rest.new.records c.set.new.records c.push_back.new.self c.args.first
    c.in-Some.key c.args.status c.args.rank c.requires.lists.0 c.requires.rising c.requires.last
    c.in-Some.ensures (record { unlinked = c.without-rest.ensures.lane; changed = c.set.ensures })
    c.push_back.ensures (sym c.is_out.ensures ∙ c.if-is_out.true) c.without-rest.result c.without-rest.ensures.flying

pub returns-then-is_out-clause-spans : goal.returns-then-is_out-clause-spans
returns-then-is_out-clause-spans c =
    flown_spans c.args.records.now c.without-rest.new.records c.set.new.records c.push_back.new.self c.args.first
    c.in-Some.key c.args.status c.args.rank c.requires.lists.0 c.requires.rising c.requires.last
    c.in-Some.ensures (record { unlinked = c.without-rest.ensures.lane; changed = c.set.ensures })
    c.push_back.ensures (sym c.is_out.ensures ∙ c.if-is_out.true)

pub returns-else-is_out-clause-lists : goal.returns-else-is_out-clause-lists
returns-else-is_out-clause-lists c =
    back_kept c.args.records.now c.without-rest.new.records c.set.new.records c.push_back-else-is_out.new.self
    c.args.first c.in-Some.key c.args.status c.args.rank c.requires.lists.0 c.requires.rising c.requires.last
    c.in-Some.ensures (record { unlinked = c.without-rest.ensures.lane; changed = c.set.ensures })
    c.push_back-else-is_out.ensures (sym c.is_out.ensures ∙ c.if-is_out.false) c.without-rest.result
    c.without-rest.ensures.flying

pub returns-else-is_out-clause-spans : goal.returns-else-is_out-clause-spans
returns-else-is_out-clause-spans c =
    back_spans c.args.records.now c.without-rest.new.records c.set.new.records c.push_back-else-is_out.new.self
    c.args.first c.in-Some.key c.args.status c.args.rank c.requires.lists.0 c.requires.rising c.requires.last
    c.in-Some.ensures (record { unlinked = c.without-rest.ensures.lane; changed = c.set.ensures })
    c.push_back-else-is_out.ensures (sym c.is_out.ensures ∙ c.if-is_out.false)
