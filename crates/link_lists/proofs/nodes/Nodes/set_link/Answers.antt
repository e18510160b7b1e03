use Rattle.link_lists.specs.declared.lane.Lane.TheVariants.{First, Second}
use Rattle.link_lists.proofs.NodeLemmas.{link_written}
use Rattle.link_lists.proofs.nodes.Nodes.set_link.Goals as goal
use Rattle.link_lists.proofs.nodes.Nodes.set_link.Goals.{in-First, in-Second}

pub returns : goal.returns
returns g c =
    elim c.match-lane.branch [
      | in-First w ↦
          rw (w.self-inside-is, w.in-First.is, ← c.self.view_is)
          (link_written First c.self.inside.nodes _ _ c.args.key c.index_mut-node.result.now c.args.link
          c.index_mut-node.ensures.value)
      | in-Second w ↦
          rw (w.self-inside-is, w.in-Second.is, ← c.self.view_is)
          (link_written Second c.self.inside.nodes _ _ c.args.key c.index_mut-node.result.now c.args.link
          c.index_mut-node.ensures.value)
    ]
