use Rattle.link_lists.proofs.WovenLemmas.{linked, put_key, write_round}
use Rattle.link_lists.proofs.woven.Woven.insert_after.Goals as goal

pub link-found-requires : goal.link-found-requires
link-found-requires g c = linked c.args.lane c.self.inside.nodes c.args.self.now c.args.at c.self.view_is
    c.self.invariant c.requires.stands

pub place-requires-clause-after : goal.place-requires-clause-after
place-requires-clause-after g c =
    (write_round c.args.lane c.self.inside.nodes c.args.self.now c.args.at c.link-found.result c.self.view_is
    c.self.invariant c.requires.stands c.link-found.ensures).1

pub invariant_of-self : goal.invariant_of-self
invariant_of-self g c =
    let r = c.requires in
    (put_key c.args.lane c.self.inside.nodes c.place.new.self c.args.self.now c.args.at c.args.key c.link-found.result
    c.self.view_is c.self.invariant c.alike.ensures r.stands r.has_value r.free c.link-found.ensures
    c.place.ensures).spelled

pub returns : goal.returns
returns g c =
    let r = c.requires in
    (put_key c.args.lane c.self.inside.nodes c.place.new.self c.args.self.now c.args.at c.args.key c.link-found.result
    c.self.view_is c.self.invariant c.alike.ensures r.stands r.has_value r.free c.link-found.ensures
    c.place.ensures).seen
