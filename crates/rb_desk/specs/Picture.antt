-- The desk's state as a value: a picture, with its subscriptions and orders.
use Rattle.std.specs.Prelude.{ℕ, List, [], Option, None}
use Rattle.rb_deliveries.specs.Picture.{DeliveryPicture, Subscription}
use Rattle.rb_desk.specs.Limits.{Limits}

-- A picture. It has the limits, the front (the last number placed; at first 0), the closing number
-- if the sequence is closed, and the clock. It has the next link, the next delivery's number, the
-- subscriptions, numbered from 0, the ready order and the in-flight order. The orders name a span
-- by its subscription and its first number.
pub record Picture : Type 0 where
  pub limits : Limits
  pub front : ℕ
  pub closing : Option ℕ
  pub clock : ℕ
  pub next_link : ℕ
  pub next_delivery : ℕ
  pub subscriptions : List Subscription
  pub ready : List (ℕ × ℕ)
  pub in_flight : List (ℕ × ℕ)

-- the picture before any call
abbrev pub empty_picture : Limits → Picture
empty_picture limits = record {
  limits = limits;
  front = 0;
  closing = None;
  clock = 0;
  next_link = 1;
  next_delivery = 1;
  subscriptions = [];
  ready = [];
  in_flight = [];
}

-- the deliveries of a picture, and a picture with other deliveries
abbrev pub deliveries_of : Picture → DeliveryPicture
deliveries_of p = record {
  batch = p.limits.batch;
  window = p.limits.window;
  front = p.front;
  next_delivery = p.next_delivery;
  subscriptions = p.subscriptions;
  ready = p.ready;
  in_flight = p.in_flight;
}

abbrev pub with_deliveries : Picture → DeliveryPicture → Picture
with_deliveries p d = record p {
  front = d.front;
  next_delivery = d.next_delivery;
  subscriptions = d.subscriptions;
  ready = d.ready;
  in_flight = d.in_flight;
}
