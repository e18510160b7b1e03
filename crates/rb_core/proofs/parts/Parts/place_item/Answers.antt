use Rattle.rb_core.proofs.whole_placings.Calls.{item_put}
use Rattle.rb_core.proofs.parts.Parts.place_item.Goals as goal

pub returns-clause-ok : goal.returns-clause-ok
returns-clause-ok c =
    item_put c.args.publisher c.place-number.result c.own.result c.args.item c.new-2.result
    c.push_reserved.new.self.items c.self.view_is c.requires.front c.place-number.ensures.number
    c.new.ensures.progress c.own.ensures c.new-2.ensures
    (cc (c.push_reserved.ensures.items, c.make_room.ensures.entries)) c.place-number.ensures.new
