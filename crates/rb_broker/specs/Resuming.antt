-- Resuming a subscription that fell.
use Rattle.std.specs.Prelude.{◌≡◌, ℕ, Result, Ok, Err}
use Rattle.cs_apply.specs.State.{TableState}
use Rattle.rb_desk.specs.Calls.{reconnect}
use Rattle.rb_desk.specs.Journaled.{JournalAnswers, JournaledPicture}
use Rattle.rb_desk.specs.Limits.{Limits}
use Rattle.rb_desk.specs.declared.step.Step.TheVariants.{Reconnect}
use Rattle.rb_subscriber.specs.Lost.{FitsLost, gone_on}
use Rattle.rb_subscriber.specs.Owner.{Owner}
use Rattle.rb_subscriber.specs.Subscription.{SubscriptionState, with_owner}
use Rattle.rb_broker.specs.Holding.{DeskReturns, counted_step}
use Rattle.rb_broker.specs.declared.refusal.RefusedResume.{RefusedResume}
use Rattle.rb_broker.specs.declared.refusal.ResumeError.{ResumeError}
use Rattle.rb_broker.specs.declared.refusal.ResumeError.TheVariants as resuming

-- Another state is refused first of all, and only it.
abbrev pub IsStateWhy : SubscriptionState → TableState → ℕ → ResumeError → Type 0
IsStateWhy lost tables cursor resuming.OtherState = FitsLost lost tables cursor → ⊥
IsStateWhy lost tables cursor (resuming.Desk error) = FitsLost lost tables cursor

-- what was to be resumed comes back, with the reason; it may have seen more of the history
abbrev pub ResumesNothing : {L : Type 0} → SubscriptionState → TableState → ℕ → RefusedResume L
    → Type 0
ResumesNothing lost tables cursor refused = (refused.lost ≡ with_owner lost refused.lost.owner)
    × (refused.tables ≡ tables) × IsStateWhy lost tables cursor refused.why

-- The desk is asked for a reconnection of this subscription at this cursor. The new link, or the
-- error, is the one that it returns (*DeskReturns*). Where the state is another, it isn't asked.
abbrev pub ReconnectReturns : Limits → ℕ → ℕ → Result ℕ ResumeError → Owner → Owner → Type 0
ReconnectReturns limits sub cursor (Ok link) old new =
    DeskReturns limits (Ok link) (λ p. reconnect p sub cursor) (Reconnect sub cursor) old new
ReconnectReturns limits sub cursor (Err resuming.OtherState) old new = new ≡ old
ReconnectReturns limits sub cursor (Err (resuming.Desk error)) old new =
    DeskReturns {A = ℕ} limits (Err error) (λ p. reconnect p sub cursor) (Reconnect sub cursor)
    old new

-- ---- one hold of the lock

-- the desk reconnects the subscription at this cursor, and it goes on with these tables; or the
-- desk refuses, or memory runs out
abbrev pub RefusesReconnect : ResumeError → ℕ → ℕ → JournaledPicture → JournaledPicture → Type 0
RefusesReconnect resuming.OtherState sub cursor old new = ⊥
RefusesReconnect (resuming.Desk error) sub cursor old new =
    JournalAnswers {A = ℕ} (Err error) (reconnect old.picture sub cursor) (Reconnect sub cursor)
    old new

abbrev pub ResumesAsDesk : {L : Type 0} → Result SubscriptionState (RefusedResume L)
    → SubscriptionState → TableState → ℕ → JournaledPicture → JournaledPicture → Type 0
ResumesAsDesk (Ok s) lost tables cursor old new =
    (s ≡ counted_step (with_owner (gone_on lost tables cursor s.link) s.owner))
    × JournalAnswers (Ok s.link) (reconnect old.picture lost.sub cursor)
    (Reconnect lost.sub cursor) old new
ResumesAsDesk (Err refused) lost tables cursor old new =
    (refused.lost ≡ with_owner lost refused.lost.owner)
    × (refused.tables ≡ tables) × RefusesReconnect refused.why lost.sub cursor old new
