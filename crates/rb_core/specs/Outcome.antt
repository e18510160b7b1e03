-- What an event does: the reply, and the world after it. A refused event does not change the world,
-- except that a refused turn pulls the next item into the hand. Where an event is a step of the
-- desk, the desk's own refusals come after those of the world, and `JournalFull` is the first of
-- them.
use Rattle.std.specs.Prelude.{ℕ, suc, ◌+◌, ⊤, Bool, true, false, List, [], ◌∷◌, ◌++◌, length}
use Rattle.std.specs.Prelude.{Option, Some, None, Result, Ok, Err, slice_get}
use Rattle.std.specs.Prelude.{if◌then◌else◌, not}
use Rattle.cs_apply.specs.State.{TableState}
use Rattle.rb_desk.specs.Calls as desk
use Rattle.rb_desk.specs.Journaled.{answer_after, closing_steps}
use Rattle.rb_desk.specs.declared.delivery.Delivery.{Delivery}
use Rattle.rb_desk.specs.declared.refusal.DeskRefusal.{DeskRefusal}
use Rattle.rb_desk.specs.declared.refusal.DeskRefusal.TheVariants.{NoSuch}
use Rattle.rb_desk.specs.Picture.{Picture}
use Rattle.rb_sequence.specs.Item.{Item}
use Rattle.rb_subscriber.specs.Accept.{accept, crash}
use Rattle.rb_subscriber.specs.declared.refusal.AcceptRefusal.{AcceptRefusal}
use Rattle.rb_subscriber.specs.Endpoint.{Endpoint, new_endpoint}
use Rattle.rb_core.specs.declared.event.Event.{Event}
use Rattle.rb_core.specs.declared.event.Event.TheVariants as event
use Rattle.rb_core.specs.declared.reply.Reply.{Reply}
use Rattle.rb_core.specs.declared.reply.Reply.TheVariants as reply
use Rattle.rb_core.specs.declared.reply.BrokerRefusal.TheVariants as refusal
use Rattle.rb_core.specs.State.{State, bare_tables, empty_tables}
pub use Rattle.rb_core.specs.Publishing.{refused, with_publisher, with_endpoint, entry_of}
pub use Rattle.rb_core.specs.Publishing.{delivery_of, publisher_added, fed_reply, fed_stream}
pub use Rattle.rb_core.specs.Publishing.{fed_by}
pub use Rattle.rb_core.specs.Publishing.{fed, reset_by, reset, fault_refusal, end_reply, staged_by}
pub use Rattle.rb_core.specs.Publishing.{ended_by, ended_for, ended, sent_item, sent_while, sent_by}
pub use Rattle.rb_core.specs.Publishing.{sent_for, sent, withdrawn_entry, withdrawn_from}
pub use Rattle.rb_core.specs.Publishing.{withdrawn_by, withdrawn_for, withdrawn}

-- ---- the sequence

-- Turn: an empty hand pulls the intake's first item. The item in hand becomes the last entry of the
-- sequence, under the next number. If the desk refuses the number, it stays in hand.
abbrev pub hand_of : Option Item → List Item → Option Item
hand_of (Some item) intake = Some item
hand_of None [] = None
hand_of None (item ∷ rest) = Some item

abbrev pub rest_of : Option Item → List Item → List Item
rest_of (Some item) intake = intake
rest_of None [] = []
rest_of None (item ∷ rest) = rest

abbrev pub pulled : State → State
pulled old = record old { hand = hand_of old.hand old.intake; intake = rest_of old.hand old.intake }

abbrev pub placed : State → Item → Result ℕ DeskRefusal → Reply × State
placed mid item (Ok number) = (
  reply.Placed number,
  record mid {
    hand = None;
    sequence = mid.sequence
        ++ record { number = number; item = item } ∷ [];
    desk = desk.place mid.desk;
    steps = suc mid.steps;
  },
)
placed mid item (Err why) = refused mid (refusal.Desk why)

abbrev pub turned_with : State → Option Item → Reply × State
turned_with mid None = (reply.Idle, mid)
turned_with mid (Some item) = placed mid item (answer_after mid.steps (desk.prepare mid.desk))

abbrev pub turned : State → Reply × State
turned old = turned_with (pulled old) (pulled old).hand

-- Close: nothing more is placed. The first one is a step of the desk.
abbrev pub closed_by : State → ℕ × Picture → Reply × State
closed_by old call = (
  reply.Closed call.0,
  record old { desk = call.1; steps = old.steps + length (closing_steps old.desk.closing) },
)

abbrev pub closed : State → Reply × State
closed old = closed_by old (desk.close old.desk)

-- ---- subscriptions

-- Subscribe: as the desk does, with an endpoint that begins with these tables.
abbrev pub subscribed_by : State → ℕ → TableState → Result (ℕ × ℕ) DeskRefusal → Picture
    → Reply × State
subscribed_by old start begun (Ok made) picture = (
  reply.Subscriber made.0 made.1,
  record old {
    desk = picture;
    steps = suc old.steps;
    endpoints = old.endpoints
        ++ new_endpoint start made.1 begun ∷ [];
  },
)
subscribed_by old start begun (Err why) picture = refused old (refusal.Desk why)

abbrev pub subscribed : State → ℕ → TableState → Reply × State
subscribed old start begun = subscribed_by old start begun
    (answer_after old.steps (desk.subscribe old.desk start).0) (desk.subscribe old.desk start).1

-- Take: as the desk does, with the endpoint's link and cursor.
abbrev pub delivered_by : State → Result Delivery DeskRefusal → Picture → Reply × State
delivered_by old (Ok delivery) picture = (
  reply.Delivery delivery,
  record old {
    desk = picture;
    steps = suc old.steps;
    deliveries = old.deliveries ++ delivery ∷ [];
  },
)
delivered_by old (Err why) picture = refused old (refusal.Desk why)

abbrev pub delivered_for : State → ℕ → ℕ → Option Endpoint → Reply × State
delivered_for old s now None = refused old (refusal.Desk NoSuch)
delivered_for old s now (Some end) =
    delivered_by old (answer_after old.steps (desk.take old.desk s end.link end.cursor now).0)
    (desk.take old.desk s end.link end.cursor now).1

abbrev pub delivered : State → ℕ → ℕ → Reply × State
delivered old s now = delivered_for old s now (slice_get old.endpoints s)

-- TakeAny: as the desk does.
abbrev pub delivered_any : State → ℕ → Reply × State
delivered_any old now = delivered_by old (answer_after old.steps (desk.take_any old.desk now).0)
    (desk.take_any old.desk now).1

-- Accept: as the delivery's endpoint does, whether or not the delivery is in flight.
abbrev pub accepted_by : State → ℕ → Result Endpoint AcceptRefusal → Reply × State
accepted_by old s (Ok end) = (reply.Accepted s end.cursor, with_endpoint old s end)
accepted_by old s (Err why) = refused old (refusal.Accept why)

abbrev pub accepted_at : State → Delivery → Option Endpoint → Reply × State
accepted_at old delivery None = refused old refusal.NoDelivery
accepted_at old delivery (Some end) =
    accepted_by old delivery.sub (accept end old.sequence delivery)

abbrev pub accepted_as : State → Option Delivery → Reply × State
accepted_as old None = refused old refusal.NoDelivery
accepted_as old (Some delivery) = accepted_at old delivery (slice_get old.endpoints delivery.sub)

abbrev pub accepted : State → ℕ → Reply × State
accepted old d = accepted_as old (delivery_of old d)

-- Crash: as the delivery's endpoint does, which falls. It is refused where Accept is.
abbrev pub crashed_by : State → ℕ → Result Endpoint AcceptRefusal → Reply × State
crashed_by old s (Ok end) = (reply.Crashed s end.cursor, with_endpoint old s end)
crashed_by old s (Err why) = refused old (refusal.Accept why)

abbrev pub crashed_at : State → Delivery → Bool → Option Endpoint → Reply × State
crashed_at old delivery kept None = refused old refusal.NoDelivery
crashed_at old delivery kept (Some end) =
    crashed_by old delivery.sub (crash end old.sequence delivery kept)

abbrev pub crashed_for : State → Bool → Option Delivery → Reply × State
crashed_for old kept None = refused old refusal.NoDelivery
crashed_for old kept (Some delivery) =
    crashed_at old delivery kept (slice_get old.endpoints delivery.sub)

abbrev pub crashed : State → ℕ → Bool → Reply × State
crashed old d kept = crashed_for old kept (delivery_of old d)

-- A call of the desk that nothing else follows: the reply is what the desk answers.
abbrev pub by_desk : {A : Type 0} → (A → Reply) → State → Result A DeskRefusal → Picture
    → Reply × State
by_desk given old (Ok answer) picture =
    (given answer, record old { desk = picture; steps = suc old.steps })
by_desk given old (Err why) picture = refused old (refusal.Desk why)

-- Ack: as the desk does, with the delivery's link and its endpoint's cursor.
abbrev pub acked_at : State → Delivery → Option Endpoint → Reply × State
acked_at old delivery None = refused old refusal.NoDelivery
acked_at old delivery (Some end) =
    by_desk reply.Floor old
    (answer_after old.steps
    (desk.ack old.desk delivery.sub delivery.link delivery.number end.cursor).0)
    (desk.ack old.desk delivery.sub delivery.link delivery.number end.cursor).1

abbrev pub acked_for : State → Option Delivery → Reply × State
acked_for old None = refused old refusal.NoDelivery
acked_for old (Some delivery) = acked_at old delivery (slice_get old.endpoints delivery.sub)

abbrev pub acked : State → ℕ → Reply × State
acked old d = acked_for old (delivery_of old d)

-- Nack: as the desk does, with the delivery's link.
abbrev pub nacked_for : State → Option Delivery → Reply × State
nacked_for old None = refused old refusal.NoDelivery
nacked_for old (Some delivery) =
    by_desk (λ done. reply.Returned) old
    (answer_after old.steps (desk.nack old.desk delivery.sub delivery.link delivery.number).0)
    (desk.nack old.desk delivery.sub delivery.link delivery.number).1

abbrev pub nacked : State → ℕ → Reply × State
nacked old d = nacked_for old (delivery_of old d)

-- Nack opened: as the desk does, with the delivery's link.
abbrev pub opened_for : State → Option Delivery → Reply × State
opened_for old None = refused old refusal.NoDelivery
opened_for old (Some delivery) =
    by_desk reply.Opened old
    (answer_after old.steps
    (desk.nack_opened old.desk delivery.sub delivery.link delivery.number).0)
    (desk.nack_opened old.desk delivery.sub delivery.link delivery.number).1

abbrev pub nacked_opened : State → ℕ → Reply × State
nacked_opened old d = opened_for old (delivery_of old d)

-- Expire: as the desk does.
abbrev pub expired : State → ℕ → Reply × State
expired old now = by_desk reply.Expired old
    (answer_after old.steps (Ok (desk.expire old.desk now).0)) (desk.expire old.desk now).1

-- Reconnect: as the desk does; the endpoint continues under the new link.
abbrev pub reconnected_with : State → ℕ → Endpoint → Result ℕ DeskRefusal → Picture → Reply × State
reconnected_with old s end (Ok link) picture = (
  reply.Link link,
  record (with_endpoint old s (record end { link = link }))
      { desk = picture; steps = suc old.steps },
)
reconnected_with old s end (Err why) picture = refused old (refusal.Desk why)

abbrev pub reconnected_for : State → ℕ → ℕ → Option Endpoint → Reply × State
reconnected_for old s cursor None = refused old (refusal.Desk NoSuch)
reconnected_for old s cursor (Some end) =
    reconnected_with old s end (answer_after old.steps (desk.reconnect old.desk s cursor).0)
    (desk.reconnect old.desk s cursor).1

abbrev pub reconnected : State → ℕ → ℕ → Reply × State
reconnected old s cursor = reconnected_for old s cursor (slice_get old.endpoints s)

-- Resume: refused unless the endpoint has fallen. Else it is a reconnect with the endpoint's own
-- cursor; the endpoint continues under the new link, and has not fallen any more.
abbrev pub resumed_with : State → ℕ → Endpoint → Result ℕ DeskRefusal → Picture → Reply × State
resumed_with old s end (Ok link) picture = (
  reply.Link link,
  record (with_endpoint old s (record end { link = link; fallen = false }))
      { desk = picture; steps = suc old.steps },
)
resumed_with old s end (Err why) picture = refused old (refusal.Desk why)

abbrev pub resumed_for : State → ℕ → Option Endpoint → Reply × State
resumed_for old s None = refused old (refusal.Desk NoSuch)
resumed_for old s (Some end) = if not end.fallen then refused old refusal.NotFallen else
    resumed_with old s end (answer_after old.steps (desk.reconnect old.desk s end.cursor).0)
    (desk.reconnect old.desk s end.cursor).1

abbrev pub resumed : State → ℕ → Reply × State
resumed old s = resumed_for old s (slice_get old.endpoints s)

-- Unsubscribe: as the desk does, with the endpoint's link; the endpoint is closed.
abbrev pub unsubscribed_with : State → ℕ → Endpoint → Result ⊤ DeskRefusal → Picture → Reply × State
unsubscribed_with old s end (Ok done) picture = (
  reply.Unsubscribed,
  record (with_endpoint old s (record end { closed = true }))
      { desk = picture; steps = suc old.steps },
)
unsubscribed_with old s end (Err why) picture = refused old (refusal.Desk why)

abbrev pub unsubscribed_for : State → ℕ → Option Endpoint → Reply × State
unsubscribed_for old s None = refused old (refusal.Desk NoSuch)
unsubscribed_for old s (Some end) =
    unsubscribed_with old s end (answer_after old.steps (desk.unsubscribe old.desk s end.link).0)
    (desk.unsubscribe old.desk s end.link).1

abbrev pub unsubscribed : State → ℕ → Reply × State
unsubscribed old s = unsubscribed_for old s (slice_get old.endpoints s)

-- ---- all of these

-- the reply to an event, and the world after it
unfoldable pub outcome : State → Event → Reply × State
outcome old event.Publisher = publisher_added old
outcome old (event.Feed p bytes) = fed old p bytes
outcome old (event.Reset p) = reset old p
outcome old (event.End p) = ended old p
outcome old (event.Send p) = sent old p
outcome old (event.Withdraw p n) = withdrawn old p n
outcome old event.Turn = turned old
outcome old event.Close = closed old
outcome old (event.Subscribe start) = subscribed old start (empty_tables old.schema)
outcome old (event.SubscribeBare start) = subscribed old start (bare_tables old.schema)
outcome old (event.Take s now) = delivered old s now
outcome old (event.TakeAny now) = delivered_any old now
outcome old (event.Accept d) = accepted old d
outcome old (event.Crash d kept) = crashed old d kept
outcome old (event.Ack d) = acked old d
outcome old (event.Nack d) = nacked old d
outcome old (event.NackOpened d) = nacked_opened old d
outcome old (event.Expire now) = expired old now
outcome old (event.Reconnect s cursor) = reconnected old s cursor
outcome old (event.Resume s) = resumed old s
outcome old (event.Unsubscribe s) = unsubscribed old s
