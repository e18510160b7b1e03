-- What a call for an event does. `Outputs` says what its outputs are after a reply, and `Same` that
-- they are what they were.
use Rattle.std.specs.Prelude.{◌≡◌, ℕ, ℤ, pos, negsuc, zero, suc, List}
use Rattle.rb_core.specs.Memory.{MayRunOut}
use Rattle.rb_core.specs.Outcome.{outcome}
use Rattle.rb_core.specs.State.{State}
use Rattle.rb_core.specs.declared.event.Event.{Event}
use Rattle.rb_core.specs.declared.event.Event.TheVariants as event
use Rattle.rb_core.specs.declared.reply.Reply.{Reply}
use Rattle.rb_core.specs.declared.reply.Reply.TheVariants as reply
use Rattle.broker_c.specs.Codes.{code, numbers_after}
use Rattle.broker_c.specs.Handle.{HoldsWorld, IsBusy, IsShut, KeepsWorld}
use Rattle.broker_c.specs.declared.handle.Handle.{Handle}
use Rattle.broker_c.specs.declared.serving.DeliveryFields.{DeliveryFields}

-- ---- the results of a call

-- The event is served: the world behind the handle makes the event's step. The result is the
-- reply's code, and the handle's numbers and the outputs are the reply's.
pub record Served (result : ℤ) (event : Event) (before after : Handle) (Outputs : Reply → Type 0)
    : Type 0 where
  pub world : State
  pub reply : Reply
  pub next : State
  pub held : HoldsWorld before world
  pub step : outcome world event ≡ (reply, next)
  pub holds : HoldsWorld after next
  pub is_code : result ≡ code reply
  pub why : after.why ≡ numbers_after reply before.why
  pub outputs : Outputs reply

-- memory ran out for the event, as it may, and nothing changed
pub record Starved (event : Event) (before after : Handle) (Same : Type 0) : Type 0 where
  pub world : State
  pub held : HoldsWorld before world
  pub may : MayRunOut world event (outcome world event).0
  pub holds : HoldsWorld after world
  pub why : after.why ≡ before.why
  pub same : Same

-- What the result says: -1 for a handle that is shut, -6 for one that another call is in, and -2 if
-- memory ran out. Nothing changed then. Any other result says that the event is served.
abbrev pub Serves : ℤ → Event → Handle → Handle → (Reply → Type 0) → Type 0 → Type 0
Serves (pos n) event before after Outputs Same = Served (pos n) event before after Outputs
Serves (negsuc zero) event before after Outputs Same = IsShut before × (after ≡ before) × Same
Serves (negsuc (suc zero)) event before after Outputs Same = Starved event before after Same
Serves (negsuc (suc (suc (suc (suc (suc zero)))))) event before after Outputs Same =
    IsBusy before × (after ≡ before) × Same
Serves (negsuc n) event before after Outputs Same = Served (negsuc n) event before after Outputs

-- ---- outputs

-- the number that a reply gives, or the one from before
abbrev pub number_after : Reply → ℕ → ℕ
number_after (reply.Publisher number) before = number
number_after (reply.Sent own) before = own
number_after (reply.Placed number) before = number
number_after (reply.Closed last) before = last
number_after (reply.Subscriber number link) before = number
number_after (reply.Accepted number cursor) before = cursor
number_after (reply.Crashed number cursor) before = cursor
number_after (reply.Floor floor) before = floor
number_after (reply.Opened count) before = count
number_after (reply.Expired count) before = count
number_after (reply.Link link) before = link
number_after other before = before

-- a new subscription's link, or the one from before
abbrev pub link_after : Reply → ℕ → ℕ
link_after (reply.Subscriber number link) before = link
link_after other before = before

-- the delivery that a reply gives, or the one from before
abbrev pub taken_after : Reply → DeliveryFields → DeliveryFields
taken_after (reply.Delivery delivery) before = record {
  number = delivery.number;
  subscription = delivery.sub;
  first = delivery.first;
  last = delivery.last;
}
taken_after other before = before

-- ---- calls by their outputs

-- a call without outputs
abbrev pub ServesAlone : ℤ → Event → Handle → Handle → Type 0
ServesAlone result event before after =
    Serves result event before after (λ reply. Unit {0}) (Unit {0})

-- a call with one number as its output
abbrev pub ServesNumber : ℤ → Event → Handle → Handle → ℕ → ℕ → Type 0
ServesNumber result event before after was is =
    Serves result event before after (λ reply. is ≡ number_after reply was) (is ≡ was)

-- a call with a subscription and its link as outputs
abbrev pub ServesLink : ℤ → Event → Handle → Handle → ℕ → ℕ → ℕ → ℕ → Type 0
ServesLink result event before after was is link_was link_is =
    Serves result event before after
    (λ reply. (is ≡ number_after reply was) × (link_is ≡ link_after reply link_was))
    ((is ≡ was) × (link_is ≡ link_was))

-- a call with a delivery as its output
abbrev pub ServesTaken : ℤ → Event → Handle → Handle → DeliveryFields → DeliveryFields → Type 0
ServesTaken result event before after was is =
    Serves result event before after (λ reply. is ≡ taken_after reply was) (is ≡ was)

-- `broker_feed` copies the bytes first, so that memory can run out for any feed.
abbrev pub ServesFeed : ℤ → ℕ → List ℕ → Handle → Handle → Type 0
ServesFeed (pos n) publisher bytes before after =
    ServesAlone (pos n) (event.Feed publisher bytes) before after
ServesFeed (negsuc zero) publisher bytes before after = IsShut before × (after ≡ before)
ServesFeed (negsuc (suc zero)) publisher bytes before after = KeepsWorld before after
ServesFeed (negsuc (suc (suc (suc (suc (suc zero)))))) publisher bytes before after =
    IsBusy before × (after ≡ before)
ServesFeed (negsuc n) publisher bytes before after =
    ServesAlone (negsuc n) (event.Feed publisher bytes) before after
