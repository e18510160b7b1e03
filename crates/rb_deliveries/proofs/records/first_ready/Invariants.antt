use Rattle.rb_deliveries.specs.Spans.{is_ready}
use Rattle.rb_deliveries.specs.Taken.{nth_list, slot_passes}
use Rattle.rb_deliveries.proofs.lists.FindLaws.{NonePass}
use Rattle.rb_deliveries.proofs.lists.WalkLaws.{IsWalk}
use Rattle.rb_deliveries.proofs.records.first_ready.Given as goal

abbrev pub invariant-loop : goal.invariant-loop
invariant-loop l =
    IsWalk (NonePass (slot_passes is_ready l.records.slots)) (nth_list 0 l.records.second) l.counter l.at
