use Rattle.std.proofs.Common.{ℕ, List}
use Rattle.rb_deliveries.specs.Taken.{nth_list}
use Rattle.rb_deliveries.proofs.lists.WalkLaws.{walk_goes}
use Rattle.rb_deliveries.proofs.lists.StandLaws.{out_there}
use Rattle.rb_deliveries.proofs.steps.key_in_flight.Goals as goal

pub loop-preserved : goal.loop-preserved
loop-preserved c =
    let lanes = c.args.records.now in
    let P = λ (before : List ℕ). Unit {0} in
    walk_goes P (nth_list 1 lanes.first) c.loop.counter P lanes.first 1 c.loop.at c.next-at.result c.in_ok-key.key
    (out_there lanes c.requires.0) c.loop.invariant c.in_ok-key.was c.next-at.ensures (λ before so_far. tt)
