use Rattle.std.proofs.Common.{◌≡◌, filter, length}
use Rattle.rb_deliveries.specs.Spans.{is_due}
use Rattle.rb_deliveries.specs.Taken.{nth_list, slot_passes}
use Rattle.rb_deliveries.proofs.lists.WalkLaws.{IsWalk}
use Rattle.rb_deliveries.proofs.records.how_many_due.Given as goal

abbrev pub invariant-loop : goal.invariant-loop
invariant-loop l =
    IsWalk (λ before. l.count ≡ length (filter (slot_passes (is_due l.timeout l.clock) l.records.slots) before))
    (nth_list 1 l.records.first) l.counter l.at
