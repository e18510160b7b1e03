use Rattle.link_lists.proofs.WovenLemmas.{pushed_key, write_last}
use Rattle.link_lists.proofs.woven.Woven.push_back.Goals as goal

pub place-requires-clause-before : goal.place-requires-clause-before
place-requires-clause-before g c =
    write_last c.args.lane c.self.inside.nodes c.args.self.now c.args.list c.ends-ends.result c.self.view_is
    c.self.invariant c.requires.has_list c.ends-ends.ensures

pub invariant_of-self : goal.invariant_of-self
invariant_of-self g c =
    let r = c.requires in
    (pushed_key c.args.lane c.self.inside.nodes c.place.new.self c.args.self.now c.args.list c.args.key
    c.ends-ends.result
    c.self.view_is c.self.invariant c.alike.ensures r.has_list r.has_value r.free c.ends-ends.ensures
    c.place.ensures).spelled

pub returns : goal.returns
returns g c =
    let r = c.requires in
    (pushed_key c.args.lane c.self.inside.nodes c.place.new.self c.args.self.now c.args.list c.args.key
    c.ends-ends.result
    c.self.view_is c.self.invariant c.alike.ensures r.has_list r.has_value r.free c.ends-ends.ensures
    c.place.ensures).seen
