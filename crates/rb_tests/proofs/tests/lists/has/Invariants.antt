use Rattle.std.specs.Option.{IfSome}
use Rattle.link_lists.specs.Lanes.{lane_of, StandsIn}
use Rattle.rb_tests.proofs.tests.lists.has.Given as goal

-- the key that comes next stands in the lane
abbrev pub invariant-loop-key : goal.invariant-loop-key
invariant-loop-key g l = IfSome l.at (λ key. StandsIn key (lane_of l.lane l.woven))
