use Rattle.std.proofs.Common.{IfSome}
use Rattle.sqlite.specs.Held.{state}
use Rattle.rb_drive.specs.Kept.{KeepsSubscription}
use Rattle.rb_drive.proofs.outcomes.KeptLaws.{kept_by_call}
use Rattle.rb_drive.proofs.kept.KeptSubscription.take.Goals as goal

-- only the steps are counted
pub invariant_of-self : goal.invariant_of-self
invariant_of-self g c =
    kept_by_call (λ s. IfSome c.self.inside.replica (λ r. KeepsSubscription (state g.S.Store r.conn) s)) c.take.result
    c.self.inside.subscription c.take.new.subscription
    c.take.ensures.ok c.take.ensures.err c.self.invariant c.self.invariant
