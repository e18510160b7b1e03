use Rattle.std.proofs.Common.{◌<◌, subst, sym}
use Rattle.link_lists.specs.Nodes.{Nodes}
use Rattle.link_lists.proofs.NodeLemmas.{inserted}
use Rattle.link_lists.proofs.nodes.Nodes.insert.Goals as goal

pub returns-clause-gains : goal.returns-clause-gains
returns-clause-gains g c =
    let e = c.insert_reserved.ensures in
    let room = subst (λ (n : Nodes g.row.T.Denot). 0 < n.spare) (sym c.self.view_is) c.requires in
    rw (← c.self.view_is)
    (inserted c.self.inside.nodes c.insert_reserved.new.self _ _ c.insert_reserved.result _ e.updates e.len room
    e.capacity)
