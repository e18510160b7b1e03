use Rattle.rb_core.proofs.whole_placings.Kept.{answer_keeps}
use Rattle.rb_core.proofs.world.World.place.Goals as goal

pub invariant_of-self : goal.invariant_of-self
invariant_of-self c =
    answer_keeps c.placings_keep_worlds.ensures c.self.inside.parts c.args.publisher c.args.text.now c.place.result
    c.place.new.self c.self.invariant c.place.ensures
