use Rattle.link_lists.specs.declared.link.Side.TheVariants.{Next}
use Rattle.link_lists.proofs.LinkingLemmas.{strand_on_lane, write_after_side}
use Rattle.link_lists.proofs.nodes.Nodes.tie.Goals as goal

pub set_beside-requires-2 : goal.set_beside-requires-2
set_beside-requires-2 g c =
    rw (c.set_beside.ensures, strand_on_lane)
    (write_after_side Next c.args.list c.args.next _ _ c.args.next _ c.requires.after)
