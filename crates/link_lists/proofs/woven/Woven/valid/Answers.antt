use Rattle.link_lists.proofs.WovenLemmas.{are_lanes}
use Rattle.link_lists.proofs.woven.Woven.valid.Goals as goal

pub returns : goal.returns
returns g c = rw (← c.self.view_is) (are_lanes c.self.inside.nodes c.self.invariant c.alike.ensures)
