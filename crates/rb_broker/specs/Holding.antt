-- What one hold of the broker's lock does for a subscription.
use Rattle.std.specs.Prelude.{◌≡◌, ◌+◌, ◌++◌, ◌∷◌, [], ℕ, length, true, List, Option, Some}
use Rattle.std.specs.Prelude.{Result, Ok, Err}
use Rattle.cs_apply.specs.State as tables
use Rattle.cs_model.specs.declared.shape.Shape.{Shape}
use Rattle.rb_desk.specs.Calls.{subscribe}
use Rattle.rb_desk.specs.Journaled.{JournalAnswers, JournaledPicture}
use Rattle.rb_desk.specs.Limits.{Limits}
use Rattle.rb_desk.specs.Picture.{Picture}
use Rattle.rb_desk.specs.declared.delivery.Delivery.{Delivery}
use Rattle.rb_desk.specs.declared.refusal.DeskError.{DeskError}
use Rattle.rb_desk.specs.declared.refusal.DeskError.TheVariants.{Refused}
use Rattle.rb_desk.specs.declared.refusal.DeskRefusal.{DeskRefusal}
use Rattle.rb_desk.specs.declared.refusal.DeskRefusal.TheVariants as desk
use Rattle.rb_desk.specs.declared.step.Step.{Step}
use Rattle.rb_desk.specs.declared.step.Step.TheVariants.{Subscribe}
use Rattle.rb_history.specs.Kept.{count_under}
use Rattle.rb_sequence.specs.Cells.{Cells, IsLastToken}
use Rattle.rb_subscriber.specs.Owner.{Owner, desk_after, has_seen}
use Rattle.rb_subscriber.specs.Register.{AuditorState, all_steps}
use Rattle.rb_subscriber.specs.Subscription.{SubscriptionState, new_subscription}
use Rattle.rb_broker.specs.declared.refusal.RefusedSubscription.{RefusedSubscription}
use Rattle.rb_broker.specs.declared.refusal.SubscribeError.{SubscribeError}
use Rattle.rb_broker.specs.declared.refusal.SubscribeError.TheVariants as subscribing
use Rattle.rb_broker.specs.declared.refusal.TakeError.{TakeError}
use Rattle.rb_broker.specs.declared.refusal.TakeError.TheVariants as taking

-- a subscription of which one more step is counted
abbrev pub counted_step : SubscriptionState → SubscriptionState
counted_step s = record s { steps = s.steps + 1 }

-- the same under another link, and closed
abbrev pub relinked_step : ℕ → SubscriptionState → SubscriptionState
relinked_step link s = record (counted_step s) { link = link }

abbrev pub ended_step : SubscriptionState → SubscriptionState
ended_step s = record (counted_step s) { closed = true }

-- ---- what a call shows of the desk, which others change between two calls

-- the desk is what the history leads to, before a hold of the lock and after it
abbrev pub AreReplays : Limits → JournaledPicture → List (ℕ × Step) → JournaledPicture
    → List (ℕ × Step) → Type 0
AreReplays limits old log new grown = (old ≡ desk_after limits log)
    × (new ≡ desk_after limits grown)

-- the step of a call under its owner's number; none if the call is refused
abbrev pub own_step : {A E : Type 0} → Result A E → ℕ → Step → List (ℕ × Step)
own_step (Ok answer) number step = (number, step) ∷ []
own_step (Err why) number step = []

-- Others made these steps since the owner looked last. The desk then returned this to a call that
-- makes this step. The history went on by the owner's one step, or by none if the call was refused,
-- and the owner has seen all of it.
pub record ReturnsAfter {A : Type 0} (limits : Limits) (result : Result A DeskError)
    (call : Picture → Result A DeskRefusal × Picture) (step : Step) (old new : Owner)
    (others : List (ℕ × Step)) : Type 0 where
  pub apart : count_under old.number others ≡ 0
  pub answers : JournalAnswers result
      (call (desk_after limits (old.seen ++ others)).picture) step
      (desk_after limits (old.seen ++ others)) (desk_after limits new.seen)
  pub seen : new ≡ has_seen old ((old.seen ++ others) ++ own_step result old.number step)

-- What a call through the lock returns is what the desk returns after the history that its owner
-- had seen and the steps that others made since. It makes no other step than its own.
abbrev pub DeskReturns : {A : Type 0} → Limits → Result A DeskError
    → (Picture → Result A DeskRefusal × Picture) → Step → Owner → Owner → Type 0
DeskReturns limits result call step old new = (others : List (ℕ × Step))
    × ReturnsAfter limits result call step old new others

-- ---- subscribing

-- the desk subscribes after `start`, and the subscription has its number and link and these tables;
-- or the desk refuses, or memory runs out
abbrev pub RefusesAsDesk : SubscribeError → ℕ → JournaledPicture → JournaledPicture → Type 0
RefusesAsDesk subscribing.OtherSchema start old new = ⊥
RefusesAsDesk (subscribing.Desk error) start old new =
    JournalAnswers (Err error) (subscribe old.picture start) (Subscribe start) old new

abbrev pub MakesSubscription : Result SubscriptionState RefusedSubscription → tables.TableState → ℕ
    → JournaledPicture → JournaledPicture → Type 0
MakesSubscription (Ok s) base start old new =
    (s ≡ new_subscription s.sub start s.link base s.owner)
    × JournalAnswers (Ok (s.sub, s.link)) (subscribe old.picture start) (Subscribe start) old new
MakesSubscription (Err refused) base start old new = (refused.tables ≡ base)
    × RefusesAsDesk refused.why start old new

-- The number and the link of a new subscription, or the error, are those that the desk returns to
-- the keeper. The new subscription has seen what the keeper has, and made no step.
abbrev pub RefusesAfterDesk : Limits → SubscribeError → ℕ → Owner → Owner → Type 0
RefusesAfterDesk limits subscribing.OtherSchema start old new = new ≡ old
RefusesAfterDesk limits (subscribing.Desk error) start old new =
    DeskReturns {A = ℕ × ℕ} limits (Err error) (λ p. subscribe p start) (Subscribe start) old new

abbrev pub SubscribesAfterDesk : Limits → Result SubscriptionState RefusedSubscription → ℕ → Owner
    → Owner → Type 0
SubscribesAfterDesk limits (Ok s) start old new = (s.owner.seen ≡ new.seen)
    × (count_under s.owner.number new.seen ≡ 0)
    × DeskReturns limits (Ok (s.sub, s.link)) (λ p. subscribe p start) (Subscribe start) old new
SubscribesAfterDesk limits (Err refused) start old new =
    RefusesAfterDesk limits refused.why start old new

-- Tables of another schema are refused first of all, and only they. The tables come back.
abbrev pub IsSchemaWhy : List Shape → List Shape → SubscribeError → Type 0
IsSchemaWhy theirs own subscribing.OtherSchema = theirs ≡ own → ⊥
IsSchemaWhy theirs own (subscribing.Desk error) = theirs ≡ own

abbrev pub RefusesTables : List Shape → tables.TableState → RefusedSubscription → Type 0
RefusesTables own base refused =
    (refused.tables ≡ base) × IsSchemaWhy base.schema own refused.why

-- ---- taking

-- what `take` returns, as the desk returns it
abbrev pub desk_error : TakeError → DeskError
desk_error (taking.Drained told) = Refused (desk.Drained told.last)
desk_error (taking.Desk error) = error

abbrev pub desk_answer : Result Delivery TakeError → Result Delivery DeskError
desk_answer (Ok delivery) = Ok delivery
desk_answer (Err error) = Err (desk_error error)

-- where the desk says `Drained`, the cursor is the closing number
abbrev pub IsAtEnd : ℕ → Option ℕ → DeskError → Type 0
IsAtEnd cursor closing error = (last : ℕ) → error ≡ Refused (desk.Drained last)
    → (cursor ≡ last) × (closing ≡ Some last)

-- `Drained` comes with a token of the closing cell that shows the cursor; the desk's own never
-- comes without
abbrev pub ShowsDrained : Cells → ℕ → TakeError → Type 0
ShowsDrained cells cursor (taking.Drained told) = IsLastToken cells told × (told.last ≡ cursor)
ShowsDrained cells cursor (taking.Desk error) =
    (last : ℕ) → error ≡ Refused (desk.Drained last) → ⊥

-- ---- auditing

-- how many subscriptions this history made
abbrev pub made_after : Limits → List (ℕ × Step) → ℕ
made_after limits history = length (desk_after limits history).picture.subscriptions

-- an auditor that has heard these subscriptions too, when the history is this one
abbrev pub heard_too : AuditorState → List SubscriptionState → List (ℕ × Step) → AuditorState
heard_too auditor all history = record {
  sum = auditor.sum + all_steps all;
  heard = auditor.heard + length all;
  seen = history;
}
