use Rattle.link_lists.proofs.WovenLemmas.{freed}
use Rattle.link_lists.proofs.woven.Woven.remove.Goals as goal

pub invariant_of-self : goal.invariant_of-self
invariant_of-self g c =
    (freed c.self.inside.nodes c.remove.new.self c.args.self.now c.args.key c.self.view_is c.self.invariant
    c.requires.free_first c.requires.free_second c.remove.ensures.rest).spelled

pub returns-clause-rest : goal.returns-clause-rest
returns-clause-rest g c =
    (freed c.self.inside.nodes c.remove.new.self c.args.self.now c.args.key c.self.view_is c.self.invariant
    c.requires.free_first c.requires.free_second c.remove.ensures.rest).seen
