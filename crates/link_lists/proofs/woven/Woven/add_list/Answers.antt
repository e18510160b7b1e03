use Rattle.link_lists.proofs.WovenLemmas.{listed_or_same, listed_if_ok}
use Rattle.link_lists.proofs.woven.Woven.add_list.Goals as goal

pub invariant_of-self : goal.invariant_of-self
invariant_of-self g c =
    let e = c.add_list.ensures in
    listed_or_same c.args.lane c.self.inside.nodes c.add_list.new.self c.args.self.now c.add_list.result
    c.self.view_is c.self.invariant e.ok e.err

pub returns-clause-ok : goal.returns-clause-ok
returns-clause-ok g c =
    listed_if_ok c.args.lane c.self.inside.nodes c.add_list.new.self c.args.self.now c.add_list.result c.self.view_is
    c.self.invariant c.add_list.ensures.ok
