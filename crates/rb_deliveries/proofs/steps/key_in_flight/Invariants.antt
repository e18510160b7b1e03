use Rattle.rb_deliveries.specs.Taken.{nth_list}
use Rattle.rb_deliveries.proofs.lists.WalkLaws.{IsWalk}
use Rattle.rb_deliveries.proofs.steps.key_in_flight.Given as goal

abbrev pub invariant-loop : goal.invariant-loop
invariant-loop l = IsWalk (λ before. Unit {0}) (nth_list 1 l.records.first) l.counter l.at
