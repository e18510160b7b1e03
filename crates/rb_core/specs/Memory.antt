-- When memory may run out for an event.
use Rattle.std.specs.Prelude.{◌≡◌, ℕ, List, [], ◌∷◌, Option, Some, None, slice_get}
use Rattle.cs_model.specs.Changeset.{most_bytes}
use Rattle.cs_parse.specs.Progress.{advanced}
use Rattle.rb_subscriber.specs.declared.refusal.AcceptRefusal.TheVariants.{Conflict}
use Rattle.rb_core.specs.State.{State}
use Rattle.rb_core.specs.declared.event.Event.{Event}
use Rattle.rb_core.specs.declared.event.Event.TheVariants as event
use Rattle.rb_core.specs.declared.publisher.PublisherState.{PublisherState}
use Rattle.rb_core.specs.declared.reply.Reply.{Reply}
use Rattle.rb_core.specs.declared.reply.Reply.TheVariants as reply
use Rattle.rb_core.specs.declared.reply.BrokerRefusal.TheVariants as refusal

-- A piece may need room while its stream has no fault and fewer bytes than a text may have. Where
-- no item is incomplete, a piece with a fault needs none.
abbrev pub NeedsRoom : Option PublisherState → List ℕ → Type 0
NeedsRoom None piece = ⊥
NeedsRoom (Some publisher) piece = (publisher.stream.fault ≡ None)
    × (publisher.stream.offset ≡ most_bytes → ⊥)
    × (publisher.stream.pending ≡ [] → (advanced publisher.stream piece).fault ≡ None)

-- Which events may run out of memory, by the world before and by the reply that they would have:
-- those that add or copy something. A refused event never does, except that the changes of a
-- delivery may be too many to apply up to their conflict. Nor does a piece of a stream that has its
-- fault.
abbrev pub MayRunOut : State → Event → Reply → Type 0
MayRunOut w event.Publisher (reply.Publisher p) = Unit {0}
MayRunOut w (event.Feed p (byte ∷ bytes)) reply.Fed =
    NeedsRoom (slice_get w.publishers p) (byte ∷ bytes)
MayRunOut w (event.Feed p (byte ∷ bytes)) (reply.Fault fault) =
    NeedsRoom (slice_get w.publishers p) (byte ∷ bytes)
MayRunOut w (event.Send p) (reply.Sent own) = Unit {0}
MayRunOut w (event.Withdraw p n) reply.Staged = Unit {0}
MayRunOut w event.Turn (reply.Placed number) = Unit {0}
MayRunOut w (event.Subscribe start) (reply.Subscriber s link) = Unit {0}
MayRunOut w (event.SubscribeBare start) (reply.Subscriber s link) = Unit {0}
MayRunOut w (event.Take s now) (reply.Delivery delivery) = Unit {0}
MayRunOut w (event.TakeAny now) (reply.Delivery delivery) = Unit {0}
MayRunOut w (event.Accept d) (reply.Accepted s last) = Unit {0}
MayRunOut w (event.Accept d) (reply.Refused (refusal.Accept (Conflict conflict))) = Unit {0}
MayRunOut w (event.Crash d kept) (reply.Crashed s last) = Unit {0}
MayRunOut w (event.Crash d kept) (reply.Refused (refusal.Accept (Conflict conflict))) = Unit {0}
MayRunOut w (event.NackOpened d) (reply.Opened count) = Unit {0}
MayRunOut w event reply = ⊥
