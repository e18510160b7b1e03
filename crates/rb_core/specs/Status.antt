-- What is known of one subscription.
use Rattle.std.specs.Prelude.{ℕ, Option, Some, None, slice_get}
use Rattle.rb_deliveries.specs.Picture.{Subscription}
use Rattle.rb_deliveries.specs.Spans.{how_many_out, how_many_ready}
use Rattle.rb_subscriber.specs.Endpoint.{Endpoint}
use Rattle.rb_core.specs.declared.status.SubscriptionStatus.{SubscriptionStatus}
use Rattle.rb_core.specs.State.{State}

-- The desk has its start, floor, link and spans, and the last number placed. Its endpoint has the
-- cursor, and whether it has fallen.
abbrev pub status_by : ℕ → Subscription → Endpoint → SubscriptionStatus
status_by front q end = record {
  start = q.start;
  floor = q.floor;
  cursor = end.cursor;
  offered = q.offered;
  link = q.link;
  ready = how_many_ready q.spans;
  in_flight = how_many_out q.spans;
  front = front;
  closed = q.closed;
  fallen = end.fallen;
}

abbrev pub status_at : ℕ → Option Subscription → Option Endpoint → Option SubscriptionStatus
status_at front (Some q) (Some end) = Some (status_by front q end)
status_at front (Some q) None = None
status_at front None end = None

-- How far the subscription with this number has come, if there is one.
abbrev pub subscription_status : State → ℕ → Option SubscriptionStatus
subscription_status w s =
    status_at w.desk.front (slice_get w.desk.subscriptions s) (slice_get w.endpoints s)
