-- The abstract world: what was sent, placed and accepted. It has no window, no clock, no spans and
-- no order of deliveries.
use Rattle.std.specs.Prelude.{ℕ, ◌+◌, Bool, false, List, [], length, Option, None}
use Rattle.cs_apply.specs.State as tables
use Rattle.rb_desk.specs.declared.delivery.Delivery.{Delivery}
use Rattle.rb_sequence.specs.Item.{Item}
use Rattle.rb_sequence.specs.Entry.{Entry}
use Rattle.rb_subscriber.specs.Endpoint.{Endpoint}
use Rattle.rb_core.specs.declared.publisher.Staged.{Staged}

-- A publisher: the text of its stream, what it staged, and all that it sent, in order.
pub record Sender : Type 0 where
  pub text : List ℕ
  pub staged : Option Staged
  pub sent : List Item

-- A subscription: the number after which it began, the tables that it began with, the accepted
-- entries in order, the batches in which they were accepted, and its tables. A batch is the entries
-- of one accepted delivery. It has its current link, whether it is closed, whether it has fallen,
-- and all deliveries ever made to it.
pub record Subscriber : Type 0 where
  pub start : ℕ
  pub base : tables.TableState
  pub accepted : List Entry
  pub batches : List (List Entry)
  pub tables : tables.TableState
  pub link : ℕ
  pub closed : Bool
  pub fallen : Bool
  pub deliveries : List Delivery

-- The abstract world. It has the publishers and the intake of sent items in order. The item in hand
-- has left the intake and has no number yet. It has the sequence, its closing number if it is
-- closed, all links ever issued, and the subscriptions. It has the numbers of the withdrawn
-- entries, the last one first. Publishers and subscriptions are numbered from 0.
pub record World : Type 0 where
  pub senders : List Sender
  pub intake : List Item
  pub hand : Option Item
  pub sequence : List Entry
  pub closing : Option ℕ
  pub links : List ℕ
  pub subscribers : List Subscriber
  pub withdrawn : List ℕ

-- the world before any move
abbrev pub world_begun : World
world_begun = record {
  senders = [];
  intake = [];
  hand = None;
  sequence = [];
  closing = None;
  links = [];
  subscribers = [];
  withdrawn = [];
}

-- a subscription before any delivery: after this number, under this link, with these tables
abbrev pub subscriber_begun : ℕ → ℕ → tables.TableState → Subscriber
subscriber_begun start link base = record {
  start = start;
  base = base;
  accepted = [];
  batches = [];
  tables = base;
  link = link;
  closed = false;
  fallen = false;
  deliveries = [];
}

-- the last number that a subscription has accepted
abbrev pub cursor : Subscriber → ℕ
cursor q = q.start + length q.accepted

-- the subscription's endpoint
abbrev pub endpoint_of : Subscriber → Endpoint
endpoint_of q = record {
  start = q.start;
  cursor = cursor q;
  link = q.link;
  closed = q.closed;
  fallen = q.fallen;
  tables = q.tables;
}
