use Rattle.rb_deliveries.specs.Taken.{nth_list}
use Rattle.rb_deliveries.proofs.lists.BeginLaws.{begins_key}
use Rattle.rb_deliveries.proofs.lists.FindLaws.{NonePass}
use Rattle.rb_deliveries.proofs.lists.WalkLaws.{IsWalk}
use Rattle.rb_deliveries.proofs.steps.key_in_order.Given as goal

abbrev pub invariant-loop : goal.invariant-loop
invariant-loop l =
    IsWalk (NonePass (begins_key l.records.slots l.first)) (nth_list 0 l.records.second) l.counter l.at
