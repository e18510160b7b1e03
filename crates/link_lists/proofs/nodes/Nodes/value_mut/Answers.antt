use Rattle.std.proofs.Common.{refl}
use Rattle.link_lists.proofs.NodeLemmas.{value_written, value_seen}
use Rattle.link_lists.proofs.nodes.Nodes.value_mut.Goals as goal

pub returns : goal.returns
returns g c =
    let node = c.index_mut-node.result.now in
    let found = c.index_mut-node.ensures.value in (
      (
        refl,
        λ w. rw (← c.self.view_is) (value_written c.self.inside.nodes c.self.inside.first.items
            c.self.inside.second.items c.args.key node w found),
      ),
      record { writes_back = tt; value = rw (← c.self.view_is) (value_seen c.self.inside.nodes c.args.key node found) },
    )
