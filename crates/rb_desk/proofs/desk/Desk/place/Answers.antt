use Rattle.rb_desk.proofs.journals.KeepLaws.{place_kept}
use Rattle.rb_desk.proofs.desk.Desk.place.Goals as goal

pub invariant_of-self : goal.invariant_of-self
invariant_of-self c = place_kept c.calls_keep_limits.ensures c.self.inside.board c.place-number.new.self
    c.place-number.result c.self.inside.journal c.place.new.self c.self.invariant c.place-number.ensures.number
    c.place-number.ensures.new c.place.ensures.steps c.place.ensures.room
