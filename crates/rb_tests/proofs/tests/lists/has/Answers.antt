use Rattle.std.proofs.Common.{ℕ, Option, subst}
use Rattle.std.specs.Option.{IfSome}
use Rattle.link_lists.specs.Lanes.{lane_of, StandsIn}
use Rattle.link_lists.proofs.CallerLemmas.{next_stands}
use Rattle.rb_tests.proofs.tests.lists.has.Goals as goal

pub loop-key-preserved : goal.loop-key-preserved
loop-key-preserved g c =
    let lane = lane_of c.args.lane c.args.woven.now in
    next_stands lane c.in-Some.found c.next-at.result
    (subst (λ (o : Option ℕ). IfSome o (λ key. StandsIn key lane)) c.in-Some.is c.loop-key.invariant) c.next-at.ensures
