use Rattle.link_lists.proofs.WovenLemmas.{linked, taken_out, write_round}
use Rattle.link_lists.proofs.woven.Woven.unlink.Goals as goal

pub link-link-requires : goal.link-link-requires
link-link-requires g c = linked c.args.lane c.self.inside.nodes c.args.self.now c.args.key c.self.view_is
    c.self.invariant c.requires

pub tie-requires-clause-before : goal.tie-requires-clause-before
tie-requires-clause-before g c =
    (write_round c.args.lane c.self.inside.nodes c.args.self.now c.args.key c.link-link.result c.self.view_is
    c.self.invariant c.requires c.link-link.ensures).0

pub tie-requires-clause-after : goal.tie-requires-clause-after
tie-requires-clause-after g c =
    (write_round c.args.lane c.self.inside.nodes c.args.self.now c.args.key c.link-link.result c.self.view_is
    c.self.invariant c.requires c.link-link.ensures).1

pub invariant_of-self : goal.invariant_of-self
invariant_of-self g c =
    (taken_out c.args.lane c.self.inside.nodes c.tie.new.self c.args.self.now c.args.key c.link-link.result
    c.self.view_is c.self.invariant c.requires c.link-link.ensures c.tie.ensures).spelled

pub returns : goal.returns
returns g c =
    (taken_out c.args.lane c.self.inside.nodes c.tie.new.self c.args.self.now c.args.key c.link-link.result
    c.self.view_is c.self.invariant c.requires c.link-link.ensures c.tie.ensures).seen
