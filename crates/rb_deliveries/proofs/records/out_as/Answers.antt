use Rattle.std.proofs.Common.{◌≤◌, ◌∙◌, sym, length, arith}
use Rattle.rb_deliveries.specs.Spans.{is_out_as}
use Rattle.rb_deliveries.specs.Taken.{nth_list, slot_passes}
use Rattle.rb_deliveries.proofs.lists.FindLaws.{NonePass, none_pass_more}
use Rattle.rb_deliveries.proofs.lists.WalkLaws.{walk_ends, walk_goes, walk_over}
use Rattle.rb_deliveries.proofs.lists.StandLaws.{out_there}
use Rattle.rb_deliveries.proofs.lists.OutLaws.{none_out, out_here}
use Rattle.rb_deliveries.proofs.records.out_as.Goals as goal

pub returns-in_err-key : goal.returns-in_err-key
returns-in_err-key c =
    let lanes = c.args.records.now in
    let test = slot_passes (is_out_as c.args.delivery) lanes.slots in
    c.from_residual.ensures
    ∙ sym (none_out lanes c.valid.ensures c.requires.0 c.args.delivery
    (walk_ends (NonePass test) (nth_list 1 lanes.first) c.loop.counter c.loop.at c.loop.invariant c.in_err-key.was))

pub returns-then-is_out_as_at : goal.returns-then-is_out_as_at
returns-then-is_out_as_at c =
    out_here c.args.records.now c.valid.ensures c.requires.0 c.args.delivery c.loop.counter c.in_ok-key.key
    c.loop.at c.loop.invariant c.in_ok-key.was (sym c.is_out_as_at.ensures ∙ c.if-is_out_as_at.true)
    c.span_at.result c.span_at.ensures

pub loop-preserved : goal.loop-preserved
loop-preserved c =
    let lanes = c.args.records.now in
    let test = slot_passes (is_out_as c.args.delivery) lanes.slots in
    walk_goes (NonePass test) (nth_list 1 lanes.first) c.loop.counter (NonePass test) lanes.first 1 c.loop.at
    c.next-at.result c.in_ok-key.key (out_there lanes c.requires.0) c.loop.invariant c.in_ok-key.was
    c.next-at.ensures (none_pass_more test c.in_ok-key.key (sym c.is_out_as_at.ensures ∙ c.if-is_out_as_at.false))

pub returns : goal.returns
returns c =
    let lanes = c.args.records.now in
    let test = slot_passes (is_out_as c.args.delivery) lanes.slots in
    let many : length (nth_list 1 lanes.first) ≤ c.loop.counter = omega (arith, c.loop-test.false, c.requires.1) in
    sym (none_out lanes c.valid.ensures c.requires.0 c.args.delivery
    (walk_over (NonePass test) (nth_list 1 lanes.first) c.loop.counter c.loop.at c.loop.invariant many))
