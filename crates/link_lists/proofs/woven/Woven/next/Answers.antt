use Rattle.link_lists.proofs.WovenLemmas.{linked, after_key}
use Rattle.link_lists.proofs.woven.Woven.next.Goals as goal

pub link-requires : goal.link-requires
link-requires g c = linked c.args.lane c.self.inside.nodes c.args.self.now c.args.key c.self.view_is c.self.invariant
    c.requires

pub returns : goal.returns
returns g c = after_key c.args.lane c.self.inside.nodes c.args.self.now c.args.key c.link.result c.self.view_is
    c.self.invariant c.link.ensures
