use Rattle.std.proofs.Common.{◌≡◌, map}
use Rattle.rb_deliveries.specs.Taken.{held_under, nth_list}
use Rattle.rb_deliveries.specs.Waiting as waiting
use Rattle.rb_deliveries.proofs.lists.WalkLaws.{IsWalk}
use Rattle.rb_deliveries.proofs.records.earliest.Given as goal

abbrev pub invariant-loop : goal.invariant-loop
invariant-loop l =
    IsWalk (λ before. l.first ≡ waiting.earliest (map (held_under l.records.slots) before)) (nth_list 1 l.records.first)
    l.counter l.at
