-- What `resume` refuses, and what it returns of the desk.
use Rattle.std.proofs.Common.{◌≡◌, ◌++◌, ℕ, List, [], Result, Ok, Err, IfErr, IfOk}
use Rattle.cs_apply.specs.State.{TableState}
use Rattle.rb_desk.specs.Journaled.{JournaledPicture}
use Rattle.rb_desk.specs.Limits.{Limits}
use Rattle.rb_subscriber.specs.Lost.{FitsLost}
use Rattle.rb_desk.specs.Calls.{reconnect}
use Rattle.rb_desk.specs.declared.step.Step.{Step}
use Rattle.rb_desk.specs.declared.step.Step.TheVariants.{Reconnect}
use Rattle.rb_subscriber.specs.Owner.{OthersSince, Owner, desk_after, has_seen}
use Rattle.rb_subscriber.specs.Subscription.{SubscriptionState}
use Rattle.rb_broker.specs.Holding.{own_step}
use Rattle.rb_broker.specs.Resuming.{IsStateWhy, ReconnectReturns, RefusesReconnect, ResumesAsDesk, ResumesNothing}
use Rattle.rb_broker.specs.declared.refusal.RefusedResume.{RefusedResume}
use Rattle.rb_broker.specs.declared.refusal.ResumeError.{ResumeError}
use Rattle.rb_broker.specs.declared.refusal.ResumeError.TheVariants.{Desk, OtherState}
use Rattle.rb_broker.proofs.StepLaws.{returns}

-- what the hold refuses isn't another state
state_why : (lost : SubscriptionState) (tables : TableState) (cursor : ℕ) (why : ResumeError) (old new : JournaledPicture)
    → FitsLost lost tables cursor → RefusesReconnect why lost.sub cursor old new → IsStateWhy lost tables cursor why
state_why lost tables cursor OtherState old new fits h = absurd h
state_why lost tables cursor (Desk error) old new fits h = fits

pub lost_comes_back : {L : Type 0} (result : Result SubscriptionState (RefusedResume L)) (lost : SubscriptionState)
    (tables : TableState) (cursor : ℕ) (old new : JournaledPicture) → FitsLost lost tables cursor
    → ResumesAsDesk result lost tables cursor old new → IfErr result (ResumesNothing lost tables cursor)
lost_comes_back (Ok s) lost tables cursor old new fits h = tt
lost_comes_back (Err refused) lost tables cursor old new fits h =
    (h.0, h.1, state_why lost tables cursor refused.why old new fits h.2)

-- what the hold returns is what its desk returns
why_returns : (limits : Limits) (why : ResumeError) (sub cursor : ℕ) (me mine : Owner) (log grown : List (ℕ × Step))
    (old new : JournaledPicture) → OthersSince me log
    → (old ≡ desk_after limits log) × (new ≡ desk_after limits grown) → grown ≡ log ++ [] → mine ≡ has_seen me grown
    → RefusesReconnect why sub cursor old new → ReconnectReturns limits sub cursor (Err why) me mine
why_returns limits OtherState sub cursor me mine log grown old new since held grows seen h = absurd h
why_returns limits (Desk error) sub cursor me mine log grown old new since held grows seen h =
    returns limits (Err error) (λ p. reconnect p sub cursor) (Reconnect sub cursor) me mine log grown old new since held grows
    seen h

pub link_returns : {L : Type 0} (limits : Limits) (result : Result SubscriptionState (RefusedResume L))
    (lost : SubscriptionState) (tables : TableState) (cursor : ℕ) (log grown : List (ℕ × Step)) (old new : JournaledPicture)
    → OthersSince lost.owner log → (old ≡ desk_after limits log) × (new ≡ desk_after limits grown)
    → grown ≡ log ++ own_step result lost.owner.number (Reconnect lost.sub cursor)
    → IfOk result (λ s. s.owner ≡ has_seen lost.owner grown) → ResumesAsDesk result lost tables cursor old new
    → IfOk result (λ s. ReconnectReturns limits lost.sub cursor (Ok s.link) lost.owner s.owner)
link_returns limits (Ok s) lost tables cursor log grown old new since held grows seen h =
    returns limits (Ok s.link) (λ p. reconnect p lost.sub cursor) (Reconnect lost.sub cursor) lost.owner s.owner log grown old new
    since held grows seen h.1
link_returns limits (Err refused) lost tables cursor log grown old new since held grows seen h = tt

pub refusal_returns : {L : Type 0} (limits : Limits) (result : Result SubscriptionState (RefusedResume L))
    (lost : SubscriptionState) (tables : TableState) (cursor : ℕ) (log grown : List (ℕ × Step)) (old new : JournaledPicture)
    → OthersSince lost.owner log → (old ≡ desk_after limits log) × (new ≡ desk_after limits grown)
    → grown ≡ log ++ own_step result lost.owner.number (Reconnect lost.sub cursor)
    → IfErr result (λ refused. refused.lost.owner ≡ has_seen lost.owner grown)
    → ResumesAsDesk result lost tables cursor old new
    → IfErr result (λ refused. ReconnectReturns limits lost.sub cursor (Err refused.why) lost.owner refused.lost.owner)
refusal_returns limits (Ok s) lost tables cursor log grown old new since held grows seen h = tt
refusal_returns limits (Err refused) lost tables cursor log grown old new since held grows seen h =
    why_returns limits refused.why lost.sub cursor lost.owner refused.lost.owner log grown old new since held grows seen h.2
