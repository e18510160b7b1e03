use Rattle.rb_deliveries.proofs.pictures.CallLaws.{closes}
use Rattle.rb_deliveries.proofs.deliveries.Deliveries.unsubscribe.Goals as goal

pub invariant_of-self : goal.invariant_of-self
invariant_of-self c =
    (closes c.self.invariant c.self.inside.subs.window c.rise.ensures c.args.s c.close.new.self
    (rw (← c.self.view_is) at c.requires.there) c.close.ensures).0

pub returns : goal.returns
returns c =
    rw (← c.self.view_is)
    (closes c.self.invariant c.self.inside.subs.window c.rise.ensures c.args.s c.close.new.self
    (rw (← c.self.view_is) at c.requires.there) c.close.ensures).1
