use Rattle.link_lists.proofs.NodeLemmas.{removed}
use Rattle.link_lists.proofs.nodes.Nodes.remove.Goals as goal

pub returns-clause-rest : goal.returns-clause-rest
returns-clause-rest g c =
    let e = c.remove-node.ensures in
    rw (← c.self.view_is) (removed c.self.inside.nodes c.remove-node.new.self _ _ c.args.key e.slots e.len e.room
    e.capacity)
