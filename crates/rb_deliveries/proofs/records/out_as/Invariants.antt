use Rattle.rb_deliveries.specs.Spans.{is_out_as}
use Rattle.rb_deliveries.specs.Taken.{nth_list, slot_passes}
use Rattle.rb_deliveries.proofs.lists.FindLaws.{NonePass}
use Rattle.rb_deliveries.proofs.lists.WalkLaws.{IsWalk}
use Rattle.rb_deliveries.proofs.records.out_as.Given as goal

abbrev pub invariant-loop : goal.invariant-loop
invariant-loop l =
    IsWalk (NonePass (slot_passes (is_out_as l.delivery) l.records.slots)) (nth_list 1 l.records.first) l.counter l.at
