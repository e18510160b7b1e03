-- Deliveries as a value: the picture of what waits for each subscription, and of what is in flight
-- to it. Everything up to a subscription's floor is settled, and so is a number after it that is in
-- no span.
use Rattle.std.specs.Prelude.{ℕ, Bool, List, []}
use Rattle.rb_deliveries.specs.contracts.span.Span as span
use Rattle.rb_deliveries.specs.declared.span.Span.{Span}

-- A subscription: the number after which it began, the floor, the greatest number delivered, the
-- current link, whether it is closed, its spans in order.
pub record Subscription : Type 0 where
  pub start : ℕ
  pub floor : ℕ
  pub offered : ℕ
  pub link : ℕ
  pub closed : Bool
  pub spans : List Span

-- A picture of deliveries. A delivery has at most `batch` numbers, and at most `window` deliveries
-- are in flight to a subscription. The front is the last number placed; at first 0. Then the next
-- delivery's number, the subscriptions, numbered from 0, the ready order and the in-flight order.
-- The orders name a span by its subscription and its first number.
pub record DeliveryPicture : Type 0 where
  pub batch : ℕ
  pub window : ℕ
  pub front : ℕ
  pub next_delivery : ℕ
  pub subscriptions : List Subscription
  pub ready : List (ℕ × ℕ)
  pub in_flight : List (ℕ × ℕ)

-- What contracts see of `Deliveries`: its picture, and how many turns were drawn. Turns order the
-- spans that are ready. They are limited, so each call says how many it draws.
pub record DeliveriesSeen : Type 0 where
  pub picture : DeliveryPicture
  pub turns : ℕ

-- the picture before any call
abbrev pub no_deliveries : ℕ → ℕ → DeliveryPicture
no_deliveries batch window = record {
  batch = batch;
  window = window;
  front = 0;
  next_delivery = 1;
  subscriptions = [];
  ready = [];
  in_flight = [];
}
