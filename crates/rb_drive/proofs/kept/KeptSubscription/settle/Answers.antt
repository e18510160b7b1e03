use Rattle.std.proofs.Common.{IfSome}
use Rattle.sqlite.specs.Held.{state}
use Rattle.rb_subscriber.specs.Subscription.{SubscriptionState}
use Rattle.rb_drive.specs.Kept.{KeepsSubscription}
use Rattle.rb_drive.proofs.outcomes.KeptLaws.{kept_by_call}
use Rattle.rb_drive.proofs.kept.KeptSubscription.settle.Goals.{in-Ack, in-Nack, in-NackOpened}
use Rattle.rb_drive.proofs.kept.KeptSubscription.settle.Goals as goal

-- only the steps are counted
pub invariant_of-self : goal.invariant_of-self
invariant_of-self g c =
    let Keeps : SubscriptionState → Type 0 =
    λ s. IfSome c.self.inside.replica (λ r. KeepsSubscription (state g.S.Store r.conn) s) in
    elim c.match-how.branch [
      | in-Ack w ↦ rw w.self-inside-is (kept_by_call Keeps w.ack.result c.self.inside.subscription
          w.ack.new.subscription w.ack.ensures.ok w.ack.ensures.err
          c.self.invariant c.self.invariant)
      | in-Nack w ↦ rw w.self-inside-is (kept_by_call Keeps w.nack.result c.self.inside.subscription
          w.nack.new.subscription w.nack.ensures.ok w.nack.ensures.err
          c.self.invariant c.self.invariant)
      | in-NackOpened w ↦ rw w.self-inside-is (kept_by_call Keeps w.nack_opened.result c.self.inside.subscription
          w.nack_opened.new.subscription w.nack_opened.ensures.ok
          w.nack_opened.ensures.err c.self.invariant c.self.invariant)
    ]
