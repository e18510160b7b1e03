-- The headline: what every run keeps. It speaks of the broker's own state, and of what its events
-- and answers report.
use Rattle.std.specs.Prelude.{◌≡◌, ℕ, true, List, map, take, Some, slice_get}
use Rattle.cs_model.specs.declared.shape.Shape.{Shape}
use Rattle.cs_parse.specs.Progress.{Took}
use Rattle.rb_sequence.specs.Entry.{Entry}
use Rattle.rb_sequence.specs.Items.{own_of}
use Rattle.rb_subscriber.specs.Accept.{HasSingleTables}
use Rattle.rb_subscriber.specs.Batches.{HasBatchTables}
use Rattle.rb_subscriber.specs.Endpoint.{Endpoint}
use Rattle.rb_core.specs.declared.event.Event.{Event}
use Rattle.rb_core.specs.declared.publisher.PublisherState.{PublisherState}
use Rattle.rb_core.specs.Moves.{AreAllOf, HasRun, IsFront, IsSending, StaysClosed, items_of}
use Rattle.rb_core.specs.Run.{Answer}
use Rattle.rb_core.specs.State.{State}
use Rattle.rb_core.specs.Told.{Paired, all_tables_asked, world_told}
use Rattle.rb_core.specs.World.{Sender, Subscriber, endpoint_of}

-- the publisher's stream has taken what the publisher was fed
abbrev pub HasTakenFed : PublisherState → Sender → Type 0
HasTakenFed publisher sender = Took publisher.stream sender.text

-- What a subscription accepted is a gapless run of the sequence. The broker's endpoints are those
-- of the subscriptions: each has the start, link, mark and tables of its subscription, and its
-- cursor is the last number that the subscription accepted. Where what a subscription accepted
-- applies singly, without conflict, to the tables that it began with, the tables of its endpoint
-- are what one thread gets that applies it so. The tables that the subscriptions began with are
-- those asked for, in order: without rows, all of the schema kept where it was `Subscribe`, none
-- where it was `SubscribeBare`. Whether or not it applies singly: the batches that a subscription
-- accepted, each the entries of one delivery, are its accepted entries, in order. The tables of its
-- endpoint are what the groups of the batches leave, applied one batch after another to the tables
-- that it began with.
-- Each publisher's entries are the front of what it sent, in that order, and the rest is in hand or
-- in the intake; each sending is placed once; each entry is a sending. Each publisher's stream has
-- taken what the publisher was fed.
-- Nothing is placed once the first n events have closed the sequence, and nothing accepted once
-- they have closed a subscription.
pub record KeepsHeadline (schema : List Shape) (events : List Event) (answers : List Answer)
    (new : State)
    : Type 0 where
  pub gapless : (s : ℕ) (subscriber : Subscriber)
      → slice_get (world_told schema events answers).subscribers s ≡ Some subscriber
      → HasRun new.sequence subscriber
  pub endpoints : map endpoint_of (world_told schema events answers).subscribers ≡ new.endpoints
  pub tables : (s : ℕ) (subscriber : Subscriber)
      → slice_get (world_told schema events answers).subscribers s ≡ Some subscriber
      → (end : Endpoint) × (slice_get new.endpoints s ≡ Some end)
      × HasSingleTables subscriber.base subscriber.accepted end.tables
  pub begun : map (λ q. q.base) (world_told schema events answers).subscribers
      ≡ all_tables_asked schema events answers
  pub batches : (s : ℕ) (subscriber : Subscriber)
      → slice_get (world_told schema events answers).subscribers s ≡ Some subscriber
      → (end : Endpoint) × (slice_get new.endpoints s ≡ Some end)
      × HasBatchTables subscriber.base subscriber.batches subscriber.accepted end.tables
  pub in_order : (p : ℕ) (sender : Sender)
      → slice_get (world_told schema events answers).senders p ≡ Some sender
      → IsFront (own_of p (items_of new.sequence)) sender.sent
  pub kept : (p : ℕ) (sender : Sender)
      → slice_get (world_told schema events answers).senders p ≡ Some sender
      → AreAllOf p new.sequence new.hand new.intake sender
  pub once : (i j : ℕ) (a b : Entry) → slice_get new.sequence i ≡ Some a
      → slice_get new.sequence j ≡ Some b → a.item.publisher ≡ b.item.publisher
      → a.item.own ≡ b.item.own → i ≡ j
  pub sent : (i : ℕ) (entry : Entry) → slice_get new.sequence i ≡ Some entry → (sender : Sender)
      × (slice_get (world_told schema events answers).senders entry.item.publisher ≡ Some sender)
      × IsSending sender entry.item
  pub streams : Paired HasTakenFed new.publishers (world_told schema events answers).senders
  pub closed : (n last : ℕ)
      → (world_told schema (take n events) (take n answers)).closing ≡ Some last
      → (new.desk.closing ≡ Some last)
      × (new.sequence ≡ (world_told schema (take n events) (take n answers)).sequence)
  pub left : (n s : ℕ) (subscriber : Subscriber)
      → slice_get (world_told schema (take n events) (take n answers)).subscribers s
      ≡ Some subscriber
      → subscriber.closed ≡ true → (after : Subscriber)
      × (slice_get (world_told schema events answers).subscribers s ≡ Some after)
      × StaysClosed subscriber after
