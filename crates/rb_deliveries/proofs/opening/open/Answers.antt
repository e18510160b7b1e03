use Rattle.std.proofs.Common.{◌+◌, ◌<◌, sym, arith}
use Rattle.rb_deliveries.specs.Opening.{single_held}
use Rattle.rb_deliveries.specs.Taken.{held_in, held_under, nth_list}
use Rattle.rb_deliveries.proofs.spans.OpenedLaws.{opened_absent}
use Rattle.rb_deliveries.proofs.lists.KeyLaws.{key_of_all}
use Rattle.rb_deliveries.proofs.lists.MoveLaws.{free_between}
use Rattle.rb_deliveries.proofs.lists.OpenLaws.{key_numbers, opening_ends, opening_goes, opening_starts}
use Rattle.rb_deliveries.proofs.opening.open.Goals as goal

pub returns-in_default-clause-spans : goal.returns-in_default-clause-spans
returns-in_default-clause-spans c =
    sym (opened_absent c.args.first c.args.latest (held_in c.args.records.now) c.in_default.ensures)

pub overflow_sub-last : goal.overflow_sub-last
overflow_sub-last c =
    let lanes = c.args.records.now in
    let n = key_numbers (held_under lanes.slots) 1 (nth_list 0 lanes.second) c.requires.rising.0 c.requires.rising.1
    c.in-Some.key c.in-Some.ensures.there in
    omega (arith, n.1, c.in-Some.ensures.begins, c.last_at-last.ensures)

pub set_single-requires-clause-fits : goal.set_single-requires-clause-fits
set_single-requires-clause-fits c =
    let lanes = c.args.records.now in
    let all = nth_list 0 lanes.second in
    let n = key_numbers (held_under lanes.slots) 1 all c.requires.rising.0 c.requires.rising.1 c.in-Some.key
    c.in-Some.ensures.there in
    let turn = key_of_all (λ h. c.args.latest.turn + h.span.last < 18446744073709551616) (held_under lanes.slots) all
    c.in-Some.key c.requires.turns c.in-Some.ensures.there in
    omega (arith, n.1, turn, c.in-Some.ensures.begins)

pub push_back-requires-clause-free : goal.push_back-requires-clause-free
push_back-requires-clause-free c =
    free_between c.reserve.new.self c.without-rest.new.records c.set_single.new.records c.in-Some.key
    (λ h. single_held c.args.latest c.args.first)
    (record { unlinked = c.without-rest.ensures.lane; changed = c.set_single.ensures })

pub loop-n-init : goal.loop-n-init
loop-n-init c =
    opening_starts c.args.records.now c.reserve.new.self c.without-rest.new.records c.set_single.new.records
    c.push_back.new.self c.args.first c.last_at-last.result c.in-Some.key c.without-rest.result c.args.latest
    c.in_ok-reserve.ensures.rest c.requires.lists.0 c.in-Some.ensures
    (record { unlinked = c.without-rest.ensures.lane; changed = c.set_single.ensures }) c.requires.rising
    c.requires.drawn c.push_back.ensures c.without-rest.ensures.flying c.last_at-last.ensures
    (omega (arith, c.in_ok-reserve.ensures.room))

pub add_after-at-requires-clause-fits : goal.add_after-at-requires-clause-fits
add_after-at-requires-clause-fits c =
    let lanes = c.args.records.now in
    let turn = key_of_all (λ h. c.args.latest.turn + h.span.last < 18446744073709551616) (held_under lanes.slots)
    (nth_list 0 lanes.second) c.in-Some.key c.requires.turns c.in-Some.ensures.there in
    omega (arith, turn, c.loop-n-test.true, c.last_at-last.ensures)

pub loop-n-preserved : goal.loop-n-preserved
loop-n-preserved c =
    opening_goes c.args.first c.last_at-last.result c.args.latest (held_in c.args.records.now) c.loop-n.records
    c.add_after-at.new.records c.without-rest.result c.loop-n.n c.loop-n.at c.add_after-at.result c.loop-n.invariant
    c.add_after-at.ensures

pub returns-clause-spans : goal.returns-clause-spans
returns-clause-spans c =
    let lanes = c.args.records.now in
    let n = key_numbers (held_under lanes.slots) 1 (nth_list 0 lanes.second) c.requires.rising.0 c.requires.rising.1
    c.in-Some.key c.in-Some.ensures.there in
    opening_ends c.args.first c.last_at-last.result c.args.latest (held_in lanes) c.loop-n.records c.without-rest.result
    c.loop-n.n c.loop-n.at c.loop-n.invariant
    (omega (arith, n.1, c.in-Some.ensures.begins, c.last_at-last.ensures, c.loop-n-test.false, c.loop-n.auto.n-end))
