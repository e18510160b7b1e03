-- Moves of the abstract world: what may happen at once. Refusals, acknowledgements, returned
-- deliveries and expiries change nothing here.
use Rattle.std.specs.Prelude.{◌≡◌, ℕ, suc, ◌<◌, ◌≤◌, ◌⊎◌, true, false, map, List, []}
use Rattle.std.specs.Prelude.{◌∷◌, ◌++◌, length, Option, Some, None, slice_get, slice_set}
use Rattle.std.specs.List.{AllByRecursion}
use Rattle.cs_model.specs.declared.origin.Origin.{Origin}
use Rattle.cs_model.specs.declared.origin.Origin.TheVariants as origin
use Rattle.cs_model.specs.Section.{Section}
use Rattle.cs_apply.specs.State as tables
use Rattle.cs_invert.specs.Inverse.{withdrawal_of}
use Rattle.rb_desk.specs.declared.delivery.Delivery.{Delivery}
use Rattle.rb_sequence.specs.Item.{Item}
use Rattle.rb_sequence.specs.Entry.{Entry}
use Rattle.rb_sequence.specs.Items.{own_of}
use Rattle.rb_subscriber.specs.Accept.{part, brought, AcceptsDelivery}
use Rattle.rb_subscriber.specs.Endpoint.{Endpoint}
use Rattle.rb_core.specs.declared.publisher.Staged.{Staged}
use Rattle.rb_core.specs.World.{Sender, Subscriber, World, endpoint_of, subscriber_begun}

abbrev pub with_sender : World → ℕ → Sender → World
with_sender old p sender = record old { senders = slice_set old.senders p sender }

abbrev pub with_subscriber : World → ℕ → Subscriber → World
with_subscriber old s subscriber =
    record old { subscribers = slice_set old.subscribers s subscriber }

-- the number isn't in the list
abbrev pub IsNew : List ℕ → ℕ → Type 0
IsNew numbers n = AllByRecursion (λ m. m ≡ n → ⊥) numbers

-- the item is in the list
abbrev pub IsIn : {A : Type 0} → A → List A → Type 0
IsIn x [] = ⊥
IsIn x (y ∷ rest) = (x ≡ y) ⊎ IsIn x rest

-- no delivery with this number was made to the subscription
abbrev pub IsUnused : ℕ → Subscriber → Type 0
IsUnused number q = AllByRecursion (λ offer. offer.number ≡ number → ⊥) q.deliveries

-- ---- publishers

-- adds a publisher
abbrev pub AddsPublisher : World → World → Type 0
AddsPublisher old new = new
    ≡ record old { senders = old.senders ++ record { text = []; staged = None; sent = [] } ∷ [] }

-- a publisher's text and what it staged change, and nothing else
pub record Streams (old new : World) : Type 0 where
  pub p : ℕ
  pub sender : Sender
  pub text : List ℕ
  pub staged : Option Staged
  pub found : slice_get old.senders p ≡ Some sender
  pub kept : new ≡ with_sender old p (record sender { text = text; staged = staged })

-- what a publisher staged becomes its next sending, at the end of the intake
pub record Sends (old new : World) : Type 0 where
  pub p : ℕ
  pub sender : Sender
  pub origin : Origin
  pub body : List Section
  pub found : slice_get old.senders p ≡ Some sender
  pub staged : sender.staged ≡ Some (record { origin = origin; body = body })
  pub item : Item
  pub is : item ≡ record {
    publisher = p;
    own = suc (length sender.sent);
    origin = origin;
    body = body;
  }
  pub kept : new
      ≡ record (with_sender old p
      (record sender { staged = None; sent = sender.sent ++ item ∷ [] }))
      { intake = old.intake ++ item ∷ [] }

-- A publisher that has nothing staged stages the withdrawal of an entry that it sent. The entry was
-- not withdrawn before, and is from now on.
pub record Withdraws (old new : World) : Type 0 where
  pub p : ℕ
  pub sender : Sender
  pub place : ℕ
  pub number : ℕ
  pub entry : Entry
  pub found : slice_get old.senders p ≡ Some sender
  pub free : sender.staged ≡ None
  pub is : number ≡ suc place
  pub placed : slice_get old.sequence place ≡ Some entry
  pub numbered : entry.number ≡ number
  pub own : entry.item.publisher ≡ p
  pub new_number : IsNew old.withdrawn number
  pub kept : new
      ≡ record (with_sender old p (record sender {
        staged = Some (record {
          origin = origin.Withdraws number;
          body = withdrawal_of entry.item.body;
        });
      })) { withdrawn = number ∷ old.withdrawn }

-- ---- the sequence

-- the first item of the intake goes into the empty hand
pub record Pulls (old new : World) : Type 0 where
  pub item : Item
  pub rest : List Item
  pub empty : old.hand ≡ None
  pub first : old.intake ≡ item ∷ rest
  pub kept : new ≡ record old { hand = Some item; intake = rest }

-- the item in hand becomes the last entry, under the next number; the sequence isn't closed
pub record Places (old new : World) : Type 0 where
  pub item : Item
  pub held : old.hand ≡ Some item
  pub not_closed : old.closing ≡ None
  pub kept : new ≡ record old {
    hand = None;
    sequence = old.sequence
        ++ record { number = suc (length old.sequence); item = item } ∷ [];
  }

-- closes the sequence: its last number is the closing number
pub record Closes (old new : World) : Type 0 where
  pub not_closed : old.closing ≡ None
  pub kept : new ≡ record old { closing = Some (length old.sequence) }

-- ---- subscriptions

-- a subscription begins after a number that is placed, under a link never issued before, with some
-- tables
pub record Subscribes (old new : World) : Type 0 where
  pub start : ℕ
  pub link : ℕ
  pub base : tables.TableState
  pub placed : start ≤ length old.sequence
  pub new_link : IsNew old.links link
  pub kept : new ≡ record old {
    links = link ∷ old.links;
    subscribers = old.subscribers ++ subscriber_begun start link base ∷ [];
  }

-- numbers that are placed are delivered to a subscription, under its current link, as a delivery
-- with an unused number
pub record Delivers (old new : World) : Type 0 where
  pub s : ℕ
  pub subscriber : Subscriber
  pub delivery : Delivery
  pub found : slice_get old.subscribers s ≡ Some subscriber
  pub linked : delivery.link ≡ subscriber.link
  pub unused : AllByRecursion (IsUnused delivery.number) old.subscribers
  pub behind : subscriber.start < delivery.first
  pub order : delivery.first ≤ delivery.last
  pub placed : delivery.last ≤ length old.sequence
  pub kept : new ≡ with_subscriber old s
      (record subscriber { deliveries = subscriber.deliveries ++ delivery ∷ [] })

-- a delivery that was made to a subscription, and its endpoint once it has accepted the delivery
pub record Acceptance (old : World) : Type 0 where
  pub s : ℕ
  pub subscriber : Subscriber
  pub delivery : Delivery
  pub end : Endpoint
  pub found : slice_get old.subscribers s ≡ Some subscriber
  pub offered : IsIn delivery subscriber.deliveries
  pub accepts : AcceptsDelivery (endpoint_of subscriber) old.sequence delivery end

-- The subscription then: it has accepted the delivery's entries, as one more batch, and it has the
-- endpoint's tables.
abbrev pub after_acceptance : (old : World) → Acceptance old → Subscriber
after_acceptance old made = record made.subscriber {
  accepted = made.subscriber.accepted ++ brought old.sequence made.delivery;
  batches = made.subscriber.batches ++ brought old.sequence made.delivery ∷ [];
  tables = made.end.tables;
}

-- a subscription accepts a delivery that was made to it, as its endpoint does
pub record Accepts (old new : World) : Type 0 where
  pub made : Acceptance old
  pub kept : new ≡ with_subscriber old made.s (after_acceptance old made)

-- A subscription falls while it accepts a delivery that was made to it, and that its endpoint would
-- accept. What it accepted, its batches and its tables are as before the accept or as after it, all
-- together. It has fallen.
pub record Crashes (old new : World) : Type 0 where
  pub made : Acceptance old
  pub kept : (new ≡ with_subscriber old made.s (record made.subscriber { fallen = true }))
      ⊎ (new ≡ with_subscriber old made.s (record (after_acceptance old made) { fallen = true }))

-- a subscription continues under a link never issued before
pub record Reconnects (old new : World) : Type 0 where
  pub s : ℕ
  pub subscriber : Subscriber
  pub link : ℕ
  pub found : slice_get old.subscribers s ≡ Some subscriber
  pub new_link : IsNew old.links link
  pub kept : new ≡ record (with_subscriber old s (record subscriber { link = link }))
      { links = link ∷ old.links }

-- a subscription that has fallen continues under a link never issued before, and has not fallen
-- any more
pub record Resumes (old new : World) : Type 0 where
  pub s : ℕ
  pub subscriber : Subscriber
  pub link : ℕ
  pub found : slice_get old.subscribers s ≡ Some subscriber
  pub fell : subscriber.fallen ≡ true
  pub new_link : IsNew old.links link
  pub kept : new
      ≡ record (with_subscriber old s (record subscriber { link = link; fallen = false }))
      { links = link ∷ old.links }

-- closes a subscription
pub record Unsubscribes (old new : World) : Type 0 where
  pub s : ℕ
  pub subscriber : Subscriber
  pub found : slice_get old.subscribers s ≡ Some subscriber
  pub kept : new ≡ with_subscriber old s (record subscriber { closed = true })

-- ---- all of these

abbrev pub Moves : World → World → Type 0
Moves old new =
    (new ≡ old) ⊎ (AddsPublisher old new
    ⊎ (Streams old new ⊎ (Sends old new ⊎ (Pulls old new ⊎ (Places old new ⊎ (Closes old new
    ⊎ (Subscribes old new
    ⊎ (Delivers old new
    ⊎ (Accepts old new
    ⊎ (Reconnects old new ⊎ (Unsubscribes old new ⊎ (Withdraws old new
    ⊎ (Crashes old new ⊎ Resumes old new)))))))))))))

-- a sequence of moves, through these worlds
abbrev pub Leads : World → List World → World → Type 0
Leads old [] new = new ≡ old
Leads old (mid ∷ rest) new = Moves old mid × Leads mid rest new

-- ---- what holds after all moves

-- a subscription has accepted one contiguous run of the sequence after its start
abbrev pub HasRun : List Entry → Subscriber → Type 0
HasRun sequence q = q.accepted ≡ part sequence q.start (length q.accepted)

-- `r` is closed, with the accepted entries, the batches and the tables of `q`
pub record StaysClosed (q r : Subscriber) : Type 0 where
  pub closed : r.closed ≡ true
  pub accepted : r.accepted ≡ q.accepted
  pub batches : r.batches ≡ q.batches
  pub tables : r.tables ≡ q.tables

-- the items of entries
abbrev pub items_of : List Entry → List Item
items_of entries = map (λ entry. entry.item) entries

-- an item is a publisher's sending: what it sent under the item's own number, which counts from 1
abbrev pub IsSending : Sender → Item → Type 0
IsSending sender item = (n : ℕ) × (item.own ≡ suc n) × (slice_get sender.sent n ≡ Some item)

-- what is sent and not placed, in the order in which it goes on: the item in hand, then the intake
abbrev pub unplaced : Option Item → List Item → List Item
unplaced None intake = intake
unplaced (Some item) intake = item ∷ intake

-- A publisher's entries, and then those of its items that aren't placed, are what it sent, in
-- sending order: none is missing, changed or there twice.
abbrev pub AreAllOf : ℕ → List Entry → Option Item → List Item → Sender → Type 0
AreAllOf p sequence hand intake sender =
    own_of p (items_of sequence) ++ own_of p (unplaced hand intake) ≡ sender.sent

-- a list is a prefix of another
abbrev pub IsFront : {A : Type 0} → List A → List A → Type 0
IsFront {A} front all = (rest : List A) × (front ++ rest ≡ all)
