-- The world that events and replies report: what was fed, staged, sent, placed, delivered and
-- accepted, without a look at the broker.
use Rattle.std.specs.Prelude.{◌≡◌, ◌==◌, ℕ, ◌-◌, ◌<◌, Bool, true, false, map, List, [], ◌∷◌, ◌++◌}
use Rattle.std.specs.Prelude.{length, ◌↔◌}
use Rattle.std.specs.Prelude.{Option, Some, None, Result, Ok, Err, slice_get}
use Rattle.std.specs.List.{AllByRecursion, find}
use Rattle.cs_invert.specs.Inverse.{withdrawal_of}
use Rattle.cs_model.specs.declared.origin.Origin.TheVariants.{Sent, Withdraws}
use Rattle.cs_model.specs.declared.shape.Shape.{Shape}
use Rattle.cs_model.specs.Section.{Section}
use Rattle.cs_parse.specs.declared.fault.ParseFault.{ParseFault}
use Rattle.cs_parse.specs.Progress.{Took}
use Rattle.cs_parse.specs.Reading.{answer_of}
use Rattle.cs_apply.specs.declared.conflict.Conflict.{Conflict}
use Rattle.cs_apply.specs.Single.{single}
use Rattle.cs_apply.specs.State as tables
use Rattle.cs_group.specs.Group.{group_of}
use Rattle.rb_desk.specs.declared.delivery.Delivery.{Delivery}
use Rattle.rb_desk.specs.Picture.{Picture}
use Rattle.rb_sequence.specs.Item.{Item}
use Rattle.rb_sequence.specs.Entry.{Entry}
use Rattle.rb_subscriber.specs.Accept.{brought, joined_bodies}
use Rattle.rb_subscriber.specs.Endpoint.{Endpoint}
use Rattle.rb_core.specs.declared.event.Event.{Event}
use Rattle.rb_core.specs.declared.event.Event.TheVariants as event
use Rattle.rb_core.specs.declared.publisher.PublisherState.{PublisherState}
use Rattle.rb_core.specs.declared.publisher.Staged.{Staged}
use Rattle.rb_core.specs.declared.reply.Reply.{Reply}
use Rattle.rb_core.specs.declared.reply.Reply.TheVariants as reply
use Rattle.rb_core.specs.Moves.{with_sender, with_subscriber, IsNew}
use Rattle.rb_core.specs.Run.{Answer}
use Rattle.rb_core.specs.State.{State, AreTablesBegun, bare_tables, empty_tables, is_withdrawn}
use Rattle.rb_core.specs.World.{Sender, Subscriber, World, world_begun, endpoint_of}
use Rattle.rb_core.specs.World.{subscriber_begun}

-- changes the publisher, or the subscription, with this number, if there is one
abbrev pub sender_set : World → ℕ → (Sender → Sender) → Option Sender → World
sender_set old p change None = old
sender_set old p change (Some sender) = with_sender old p (change sender)

abbrev pub sender_changed : World → ℕ → (Sender → Sender) → World
sender_changed old p change = sender_set old p change (slice_get old.senders p)

abbrev pub subscriber_set : World → ℕ → (Subscriber → Subscriber) → Option Subscriber → World
subscriber_set old s change None = old
subscriber_set old s change (Some subscriber) = with_subscriber old s (change subscriber)

abbrev pub subscriber_changed : World → ℕ → (Subscriber → Subscriber) → World
subscriber_changed old s change = subscriber_set old s change (slice_get old.subscribers s)

-- ---- publishers

-- adds a publisher with nothing fed, staged or sent
abbrev pub publisher_added : World → World
publisher_added old = record old
    { senders = old.senders ++ record { text = []; staged = None; sent = [] } ∷ [] }

-- appends the bytes to its text, even if they bring a fault; empties the text
abbrev pub fed : List ℕ → Sender → Sender
fed bytes sender = record sender { text = sender.text ++ bytes }

abbrev pub reset : Sender → Sender
reset sender = record sender { text = [] }

-- stages what the text spells, and empties the text
abbrev pub staged_by_text : Result (List Section) ParseFault → Option Staged
staged_by_text (Ok changeset) = Some (record { origin = Sent; body = changeset })
staged_by_text (Err fault) = None

abbrev pub ended : Sender → Sender
ended sender = record sender { text = []; staged = staged_by_text (answer_of sender.text) }

-- sends what is staged, as its sending with this number, to the end of the intake
abbrev pub with_sent : World → ℕ → Sender → Item → World
with_sent old p sender item =
    record (with_sender old p (record sender { staged = None; sent = sender.sent ++ item ∷ [] }))
    { intake = old.intake ++ item ∷ [] }

abbrev pub sent_staged : World → ℕ → ℕ → Sender → Option Staged → World
sent_staged old p own sender None = old
sent_staged old p own sender (Some staged) =
    with_sent old p sender
    (record { publisher = p; own = own; origin = staged.origin; body = staged.body })

abbrev pub sent_of : World → ℕ → ℕ → Option Sender → World
sent_of old p own None = old
sent_of old p own (Some sender) = sent_staged old p own sender sender.staged

abbrev pub sent : World → ℕ → ℕ → World
sent old p own = sent_of old p own (slice_get old.senders p)

-- stages the withdrawal of the entry with this number, which is withdrawn from then on
abbrev pub with_withdrawal : World → ℕ → ℕ → Sender → Entry → World
with_withdrawal old p number sender entry = record (with_sender old p (record sender {
  staged = Some (record { origin = Withdraws number; body = withdrawal_of entry.item.body });
})) { withdrawn = number ∷ old.withdrawn }

abbrev pub withdrawn_entry : World → ℕ → ℕ → Sender → Option Entry → World
withdrawn_entry old p number sender None = old
withdrawn_entry old p number sender (Some entry) = with_withdrawal old p number sender entry

abbrev pub withdrawn_of : World → ℕ → ℕ → Option Sender → World
withdrawn_of old p number None = old
withdrawn_of old p number (Some sender) =
    withdrawn_entry old p number sender (slice_get old.sequence (number - 1))

abbrev pub withdrawn : World → ℕ → ℕ → World
withdrawn old p number = withdrawn_of old p number (slice_get old.senders p)

-- ---- the sequence

-- an empty hand takes the first item of the intake
abbrev pub pulled_by : World → Option Item → List Item → World
pulled_by old (Some item) intake = old
pulled_by old None [] = old
pulled_by old None (item ∷ rest) = record old { hand = Some item; intake = rest }

abbrev pub pulled : World → World
pulled old = pulled_by old old.hand old.intake

-- places the item in hand under this number
abbrev pub placed_from : World → ℕ → Option Item → World
placed_from old number None = old
placed_from old number (Some item) =
    record old {
      hand = None;
      sequence = old.sequence ++ record { number = number; item = item }
          ∷ [];
    }

abbrev pub placed : World → ℕ → World
placed old number = placed_from old number old.hand

-- ---- subscriptions

-- adds a subscription after this number, under this link, which begins with these tables
abbrev pub subscribed : World → ℕ → ℕ → tables.TableState → World
subscribed old start link begun = record old {
  links = link ∷ old.links;
  subscribers = old.subscribers ++ subscriber_begun start link begun ∷ [];
}

abbrev pub delivered : Delivery → Subscriber → Subscriber
delivered delivery q = record q { deliveries = q.deliveries ++ delivery ∷ [] }

abbrev pub if_applied : tables.TableState → Result tables.TableState Conflict → tables.TableState
if_applied old (Ok new) = new
if_applied old (Err conflict) = old

abbrev pub with_accepted : List Entry → Subscriber → Subscriber
with_accepted entries q =
    record q {
      accepted = q.accepted
          ++ entries;
      batches = q.batches
          ++ entries ∷ [];
      tables = if_applied q.tables (single q.tables (group_of (joined_bodies entries)));
    }

-- the delivery of this number among those that it was delivered
abbrev pub delivery_told : ℕ → Subscriber → Option Delivery
delivery_told d q = find (λ delivery. delivery.number == d) q.deliveries

-- It accepts the delivery of this number: the entries that the delivery brings go to the end of
-- what it accepted, as one more batch, and the group of their bodies is applied to its tables.
abbrev pub accepted_told : List Entry → Option Delivery → Subscriber → Subscriber
accepted_told sequence None q = q
accepted_told sequence (Some delivery) q = with_accepted (brought sequence delivery) q

abbrev pub accepted : List Entry → ℕ → Subscriber → Subscriber
accepted sequence d q = accepted_told sequence (delivery_told d q) q

-- It falls while it accepts the delivery of this number. It is as after the accept if that was
-- kept, else as before it.
abbrev pub if_kept : Bool → Subscriber → Subscriber → Subscriber
if_kept true before after = after
if_kept false before after = before

abbrev pub crashed : List Entry → ℕ → Bool → Subscriber → Subscriber
crashed sequence d kept q = record (if_kept kept q (accepted sequence d q)) { fallen = true }

abbrev pub reconnected : ℕ → Subscriber → Subscriber
reconnected link q = record q { link = link }

abbrev pub resumed : ℕ → Subscriber → Subscriber
resumed link q = record q { link = link; fallen = false }

abbrev pub unsubscribed : Subscriber → Subscriber
unsubscribed q = record q { closed = true }

-- ---- all of these

-- the world after an event with this reply; any other reply changes nothing
abbrev pub told : List Shape → World → Event → Reply → World
told schema old event.Publisher (reply.Publisher p) = publisher_added old
told schema old (event.Feed p bytes) reply.Fed = sender_changed old p (fed bytes)
told schema old (event.Feed p bytes) (reply.Fault fault) = sender_changed old p (fed bytes)
told schema old (event.Reset p) reply.Reset = sender_changed old p reset
told schema old (event.End p) reply.Staged = sender_changed old p ended
told schema old (event.Send p) (reply.Sent own) = sent old p own
told schema old (event.Withdraw p n) reply.Staged = withdrawn old p n
told schema old event.Turn (reply.Placed number) = placed (pulled old) number
told schema old event.Turn (reply.Refused why) = pulled old
told schema old event.Close (reply.Closed last) = record old { closing = Some last }
told schema old (event.Subscribe start) (reply.Subscriber s link) =
    subscribed old start link (empty_tables schema)
told schema old (event.SubscribeBare start) (reply.Subscriber s link) =
    subscribed old start link (bare_tables schema)
told schema old (event.Take s now) (reply.Delivery delivery) =
    subscriber_changed old delivery.sub (delivered delivery)
told schema old (event.TakeAny now) (reply.Delivery delivery) =
    subscriber_changed old delivery.sub (delivered delivery)
told schema old (event.Accept d) (reply.Accepted s last) =
    subscriber_changed old s (accepted old.sequence d)
told schema old (event.Reconnect s cursor) (reply.Link link) =
    record (subscriber_changed old s (reconnected link)) { links = link ∷ old.links }
told schema old (event.Unsubscribe s) reply.Unsubscribed = subscriber_changed old s unsubscribed
told schema old (event.Crash d kept) (reply.Crashed s last) =
    subscriber_changed old s (crashed old.sequence d kept)
told schema old (event.Resume s) (reply.Link link) =
    record (subscriber_changed old s (resumed link)) { links = link ∷ old.links }
told schema old event given = old

-- out of memory changes nothing
abbrev pub told_by : List Shape → World → Event → Answer → World
told_by schema old event (Ok given) = told schema old event given
told_by schema old event (Err e) = old

-- the world after these events, from this one on
abbrev pub told_from : List Shape → World → List Event → List Answer → World
told_from schema old [] answers = old
told_from schema old (event ∷ events) [] = old
told_from schema old (event ∷ events) (answer ∷ answers) =
    told_from schema (told_by schema old event answer) events answers

-- the world that these events and answers report, from the start
abbrev pub world_told : List Shape → List Event → List Answer → World
world_told schema events answers = told_from schema world_begun events answers

-- ---- what subscriptions begin with

-- the tables, without rows, that the event's new subscription begins with, if the answer has one
abbrev pub tables_asked : List Shape → Event → Answer → List tables.TableState
tables_asked schema (event.Subscribe start) (Ok (reply.Subscriber s link)) =
    empty_tables schema ∷ []
tables_asked schema (event.SubscribeBare start) (Ok (reply.Subscriber s link)) =
    bare_tables schema ∷ []
tables_asked schema event answer = []

-- those of all these events, in order
abbrev pub all_tables_asked : List Shape → List Event → List Answer → List tables.TableState
all_tables_asked schema [] answers = []
all_tables_asked schema (event ∷ events) [] = []
all_tables_asked schema (event ∷ events) (answer ∷ answers) =
    tables_asked schema event answer ++ all_tables_asked schema events answers

-- ---- what the broker has

-- the items of two lists pair, one by one
abbrev pub Paired : {A B : Type 0} → (A → B → Type 0) → List A → List B → Type 0
Paired R [] [] = Unit {0}
Paired R [] (y ∷ ys) = ⊥
Paired R (x ∷ xs) [] = ⊥
Paired R (x ∷ xs) (y ∷ ys) = R x y × Paired R xs ys

-- the publisher's stream has taken the text; what is staged and the number of sendings agree
pub record IsSender (publisher : PublisherState) (sender : Sender) : Type 0 where
  pub stream : Took publisher.stream sender.text
  pub staged : sender.staged ≡ publisher.staged
  pub sent : publisher.sent ≡ length sender.sent

-- the delivery was made to its subscription, and no earlier one there has its number
abbrev pub IsDelivered : List Subscriber → Delivery → Type 0
IsDelivered subscribers delivery = (q : Subscriber) × (slice_get subscribers delivery.sub ≡ Some q)
    × (delivery_told delivery.number q ≡ Some delivery)

-- all deliveries to the subscription have numbers below `next`
abbrev pub AreBelow : ℕ → Subscriber → Type 0
AreBelow next q = AllByRecursion (λ offer. offer.number < next) q.deliveries

-- A broker's desk, endpoints and deliveries agree with the reported closing number, links and
-- subscriptions. Each delivery was made to its subscription. All links and numbers so far are below
-- the next ones. Each subscription began with tables without rows, all of them kept or none.
pub record AreSubscribersTold (schema : List Shape) (desk : Picture) (endpoints : List Endpoint)
    (handed : List Delivery) (closed : Option ℕ) (given : List ℕ) (subscribers : List Subscriber)
    : Type 0 where
  pub closing : closed ≡ desk.closing
  pub ends : map endpoint_of subscribers ≡ endpoints
  pub deliveries : AllByRecursion (IsDelivered subscribers) handed
  pub links : AllByRecursion (λ link. link < desk.next_link) given
  pub numbers : AllByRecursion (AreBelow desk.next_delivery) subscribers
  pub bases : AllByRecursion (λ q. AreTablesBegun schema q.base) subscribers

-- A broker's state agrees with the reported world: publishers, intake, item in hand, sequence,
-- closing number and subscriptions. The same entries are withdrawn.
pub record IsToldBy (schema : List Shape) (state : State) (world : World) : Type 0 where
  pub served : state.schema ≡ schema
  pub senders : Paired IsSender state.publishers world.senders
  pub intake : world.intake ≡ state.intake
  pub hand : world.hand ≡ state.hand
  pub sequence : world.sequence ≡ state.sequence
  pub subscriptions : AreSubscribersTold schema state.desk state.endpoints state.deliveries
      world.closing world.links world.subscribers
  pub withdrawn : (n : ℕ) → 0 < n → (is_withdrawn state n ≡ false) ↔ IsNew world.withdrawn n
