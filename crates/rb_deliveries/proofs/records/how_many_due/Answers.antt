use Rattle.std.proofs.Common.{ℕ, List, ◌≡◌, ◌≤◌, ◌+◌, ◌∙◌, ap, cond, filter, sym, length, arith}
use Rattle.rb_deliveries.specs.Spans.{is_due}
use Rattle.rb_deliveries.specs.Taken.{nth_list, slot_passes}
use Rattle.rb_deliveries.proofs.lists.WalkLaws.{walk_goes, walk_over}
use Rattle.rb_deliveries.proofs.lists.StandLaws.{out_there}
use Rattle.rb_deliveries.proofs.lists.OutLaws.{count_front, count_more, due_is_out, many_pass}
use Rattle.rb_deliveries.proofs.records.how_many_due.Goals.{then-is_due_at, else-is_due_at}
use Rattle.rb_deliveries.proofs.records.how_many_due.Goals as goal

pub overflow_add-count : goal.overflow_add-count
overflow_add-count c =
    let front = count_front (slot_passes (is_due c.args.timeout c.args.clock) c.args.records.now.slots)
    c.loop.invariant.before in
    omega (arith, front, c.loop.invariant.so_far, c.loop.invariant.count, c.loop-test.true, c.ranges.flying)

pub loop-preserved : goal.loop-preserved
loop-preserved c =
    let lanes = c.args.records.now in
    let test = slot_passes (is_due c.args.timeout c.args.clock) lanes.slots in
    let key = c.in-Some.key in
    let P = λ (before : List ℕ). c.loop.count ≡ length (filter test before) in
    let Q = λ (before : List ℕ). c.if-is_due_at.count ≡ length (filter test before) in
    let counted : c.if-is_due_at.count ≡ cond (test key) (c.loop.count + 1) c.loop.count =
    elim c.if-is_due_at.branch [
      | then-is_due_at w ↦
          w.count-is ∙ ap (λ b. cond b (c.loop.count + 1) c.loop.count) (sym w.if-is_due_at.true ∙ c.is_due_at.ensures)
      | else-is_due_at w ↦
          w.count-is ∙ ap (λ b. cond b (c.loop.count + 1) c.loop.count) (sym w.if-is_due_at.false ∙ c.is_due_at.ensures)
    ] in
    walk_goes P (nth_list 1 lanes.first) c.loop.counter Q lanes.first 1 c.loop.at c.next-at.result key
    (out_there lanes c.requires.0) c.loop.invariant c.in-Some.is c.next-at.ensures (λ before so_far.
    count_more test before key c.loop.count c.if-is_due_at.count so_far counted)

pub returns : goal.returns
returns c =
    let lanes = c.args.records.now in
    let test = is_due c.args.timeout c.args.clock in
    let many : length (nth_list 1 lanes.first) ≤ c.loop.counter = omega (arith, c.loop-test.false, c.requires.1) in
    walk_over (λ before. c.loop.count ≡ length (filter (slot_passes test lanes.slots) before)) (nth_list 1 lanes.first)
    c.loop.counter c.loop.at c.loop.invariant many
    ∙ many_pass lanes c.requires.0 test (due_is_out c.args.timeout c.args.clock) c.valid.ensures
