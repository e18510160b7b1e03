use Rattle.link_lists.proofs.WovenLemmas.{cleared_lanes}
use Rattle.link_lists.proofs.woven.Woven.clear.Goals as goal

pub invariant_of-self : goal.invariant_of-self
invariant_of-self g c =
    (cleared_lanes c.self.inside.nodes c.clear.new.self c.args.self.now c.self.view_is c.self.invariant
    c.clear.ensures).spelled

pub returns : goal.returns
returns g c =
    (cleared_lanes c.self.inside.nodes c.clear.new.self c.args.self.now c.self.view_is c.self.invariant
    c.clear.ensures).seen
