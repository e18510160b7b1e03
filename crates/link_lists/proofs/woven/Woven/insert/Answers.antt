use Rattle.link_lists.proofs.WovenLemmas.{stored, stored_free}
use Rattle.link_lists.proofs.woven.Woven.insert.Goals as goal

pub invariant_of-self : goal.invariant_of-self
invariant_of-self g c =
    (stored c.self.inside.nodes c.insert.new.self c.insert.result c.args.value c.self.invariant c.alike.ensures
    c.insert.ensures.vacant c.insert.ensures.gains).spelled

pub returns-clause-free_first : goal.returns-clause-free_first
returns-clause-free_first g c =
    (stored_free c.self.inside.nodes c.args.self.now c.insert.result c.self.view_is c.self.invariant c.alike.ensures
    c.insert.ensures.vacant).0

pub returns-clause-free_second : goal.returns-clause-free_second
returns-clause-free_second g c =
    (stored_free c.self.inside.nodes c.args.self.now c.insert.result c.self.view_is c.self.invariant c.alike.ensures
    c.insert.ensures.vacant).1

pub returns-clause-rest : goal.returns-clause-rest
returns-clause-rest g c =
    rw (← c.self.view_is)
    (stored c.self.inside.nodes c.insert.new.self c.insert.result c.args.value c.self.invariant c.alike.ensures
    c.insert.ensures.vacant c.insert.ensures.gains).seen
