use Rattle.std.proofs.Common.{◌≤◌, ◌∙◌, sym, length, arith}
use Rattle.rb_deliveries.specs.Spans.{is_ready}
use Rattle.rb_deliveries.specs.Taken.{nth_list, slot_passes}
use Rattle.rb_deliveries.proofs.lists.FindLaws.{NonePass, none_pass_more}
use Rattle.rb_deliveries.proofs.lists.WalkLaws.{walk_goes}
use Rattle.rb_deliveries.proofs.lists.StandLaws.{second_there}
use Rattle.rb_deliveries.proofs.lists.ReadyLaws.{none_waits, ready_here, ready_next}
use Rattle.rb_deliveries.proofs.records.first_ready.Goals as goal

pub returns-in_err-_line : goal.returns-in_err-_line
returns-in_err-_line c =
    c.from_residual.ensures
    ∙ sym (none_waits c.args.records.now c.requires.0 c.front.result c.in_err-_line.was c.front.ensures)

pub returns-then-is_ready_at : goal.returns-then-is_ready_at
returns-then-is_ready_at c =
    ready_here c.args.records.now c.requires.0 c.loop.counter c.loop.at c.in_ok-key.key c.loop.invariant
    c.in_ok-key.was c.span_at.result c.span_at.ensures (sym c.is_ready_at.ensures ∙ c.if-is_ready_at.true)

pub loop-preserved : goal.loop-preserved
loop-preserved c =
    let lanes = c.args.records.now in
    let test = slot_passes is_ready lanes.slots in
    walk_goes (NonePass test) (nth_list 0 lanes.second) c.loop.counter (NonePass test) lanes.second 0 c.loop.at
    c.next-at.result c.in_ok-key.key (second_there lanes c.requires.0) c.loop.invariant c.in_ok-key.was
    c.next-at.ensures (none_pass_more test c.in_ok-key.key (sym c.is_ready_at.ensures ∙ c.if-is_ready_at.false))

pub returns : goal.returns
returns c =
    let many : length (nth_list 1 c.args.records.now.first) ≤ c.loop.counter =
    omega (arith, c.loop-test.false, c.requires.1) in
    ready_here c.args.records.now c.requires.0 c.loop.counter c.loop.at c.in_ok-at.field-0 c.loop.invariant
    c.in_ok-at.was c.span_at-2.result c.span_at-2.ensures
    (ready_next c.args.records.now c.requires.0 c.loop.counter c.loop.at c.in_ok-at.field-0 c.loop.invariant
    c.in_ok-at.was c.valid.ensures many)
