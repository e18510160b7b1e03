use Rattle.link_lists.proofs.NodeLemmas as nodes
use Rattle.link_lists.proofs.nodes.Nodes.alike.Goals as goal

pub returns : goal.returns
returns g c = rw (← c.self.view_is) (nodes.alike c.self.inside.nodes _ _)
