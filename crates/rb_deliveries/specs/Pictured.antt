-- The picture that `Deliveries` shows, computed from what it stores.
use Rattle.std.specs.Prelude.{ℕ, ◌≤◌, List, map, length}
use Rattle.std.specs.List.{AllByRecursion}
use Rattle.rb_deliveries.specs.declared.sub.Sub.{Sub}
use Rattle.rb_deliveries.specs.Queues.{queue_floor, most_numbers, spans_of}
use Rattle.rb_deliveries.specs.Orders.{order, ready_at, out_at}
use Rattle.rb_deliveries.specs.Picture.{DeliveryPicture, Subscription}
use Rattle.rb_deliveries.specs.Subs.{Belongs, sub_held}

abbrev pub pictured_sub : ℕ → ℕ → Sub → Subscription
pictured_sub batch front sub = record {
  start = sub.start;
  floor = queue_floor sub.queue;
  offered = sub.offered;
  link = sub.link;
  closed = sub.closed;
  spans = spans_of (sub_held batch front sub);
}

abbrev pub pictured : ℕ → ℕ → ℕ → ℕ → List Sub → DeliveryPicture
pictured batch window front next_delivery subs = record {
  batch = batch;
  window = window;
  front = front;
  next_delivery = next_delivery;
  subscriptions = map (pictured_sub batch front) subs;
  ready = order ready_at (map (sub_held batch front) subs);
  in_flight = order out_at (map (sub_held batch front) subs);
}

-- What is stored agrees with the limits, the front, the turns and the deliveries' numbers.
pub record DeliveriesAgree (batch front turn next_delivery : ℕ) (subs : List Sub) : Type 0 where
  pub batch_is : (1 ≤ batch) × (batch ≤ 256)
  pub front_is : front ≤ most_numbers
  pub belong : AllByRecursion (Belongs front turn next_delivery) subs
  pub few : length subs ≤ 1024
