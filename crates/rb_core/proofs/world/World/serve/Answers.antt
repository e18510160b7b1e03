use Rattle.rb_core.proofs.whole_runs.RunLaws.{Stepped-from, stepped_keeps}
use Rattle.rb_core.proofs.world.World.serve.Goals as goal

pub invariant_of-self : goal.invariant_of-self
invariant_of-self c =
    let step = Stepped-from c.self.inside.parts c.moved_by.new.self c.args.event.now c.moved_by.result
    c.moved_by.ensures.ok c.moved_by.ensures.err in
    stepped_keeps c.events_keep_worlds.ensures c.self.inside.parts c.moved_by.new.self c.args.event.now
    c.moved_by.result step c.self.invariant
