use Rattle.std.proofs.Common.{Some}
use Rattle.link_lists.specs.declared.link.Side.TheVariants.{Next}
use Rattle.link_lists.specs.Nodes.{link_set}
use Rattle.link_lists.proofs.LinkingLemmas.{strand_on_lane, write_after_link, write_after_side}
use Rattle.link_lists.proofs.nodes.Nodes.place.Goals as goal

pub set_beside-requires-2 : goal.set_beside-requires-2
set_beside-requires-2 g c =
    let link = c.args.link in
    rw (
      c.set_beside.ensures,
      strand_on_lane,
      c.set_link.ensures,
      strand_on_lane c.args.lane
          (link_set c.args.key link) c.args.self.now,
    )
    (write_after_side Next link.list link.next _ _ (Some c.args.key) _
    (write_after_link link.list link.next c.args.key link _
    c.requires.after))
