-- What each call of `Deliveries` does to its picture. `q` is the subscription with number `s`.
use Rattle.std.specs.Prelude.{◌≡◌, ℕ, suc, max, Bool, true, false, not, ◌&&◌, ◌||◌, List, [], ◌∷◌}
use Rattle.std.specs.Prelude.{◌++◌, length, map, Option, Some, None, slice_get, slice_set, ◌==◌}
use Rattle.std.specs.Prelude.{nat_lt, ◌≤◌, ◌⊎◌, if◌then◌else◌}
use Rattle.std.specs.List.{filter, find}
use Rattle.rb_deliveries.specs.declared.span.Span.{Span}
use Rattle.rb_deliveries.specs.declared.span.Status.TheVariants.{Ready, InFlight}
use Rattle.rb_deliveries.specs.Spans.{beginning, first_ready, floor_of, gone_back, grown_spans}
use Rattle.rb_deliveries.specs.Spans.{how_many_out, is_due, last_takes, opened_spans, out_as}
use Rattle.rb_deliveries.specs.Spans.{singles, span_length, with_status}
use Rattle.rb_deliveries.specs.Picture.{DeliveryPicture, Subscription}

-- replaces the subscription with this number
abbrev pub with_delivered : DeliveryPicture → ℕ → Subscription → DeliveryPicture
with_delivered old s q = record old { subscriptions = slice_set old.subscriptions s q }

-- an order without one span, and without all spans of a subscription; then the names of a
-- subscription's spans
abbrev pub is_span : ℕ → ℕ → ℕ × ℕ → Bool
is_span s first at = (at.0 == s) && (at.1 == first)

abbrev pub without_span : ℕ → ℕ → List (ℕ × ℕ) → List (ℕ × ℕ)
without_span s first = filter (λ at. not (is_span s first at))

abbrev pub without_subscription : ℕ → List (ℕ × ℕ) → List (ℕ × ℕ)
without_subscription s = filter (λ at. not (at.0 == s))

abbrev pub named : ℕ → List Span → List (ℕ × ℕ)
named s = map (λ p. (s, p.first))

-- whether a subscription has no spans
abbrev pub has_no_spans : List Span → Bool
has_no_spans [] = true
has_no_spans (p ∷ rest) = false

-- whether the window has room for another delivery in flight
abbrev pub has_room : ℕ → Subscription → Bool
has_room window q = nat_lt (how_many_out q.spans) window

-- Adds a subscription after number `start`, under a link. The numbers from there to the front are
-- cut.
abbrev pub subscribed_spans : DeliveryPicture → ℕ → List Span → ℕ → DeliveryPicture
subscribed_spans old start spans link = record old {
  subscriptions = old.subscriptions
      ++ record {
        start = start;
        floor = start;
        offered = start;
        link = link;
        closed = false;
        spans = spans;
      } ∷ [];
  ready = old.ready ++ named (length old.subscriptions) spans;
}

-- Delivers a span: it is in flight as the next delivery, taken at this tick. It leaves the ready
-- order and goes to the end of the in-flight order. The greatest number delivered is at least the
-- span's last.
abbrev pub delivered_to : DeliveryPicture → ℕ → Subscription → Span → ℕ → DeliveryPicture
delivered_to old s q span tick = record (with_delivered old s
    (record q {
      offered = max q.offered span.last;
      spans = with_status span.first (InFlight old.next_delivery tick) q.spans;
    })) {
      next_delivery = suc old.next_delivery;
      ready = without_span s span.first old.ready;
      in_flight = old.in_flight ++ (s, span.first) ∷ [];
    }

-- Acknowledges the span that begins with this number: it is removed, so its numbers are settled.
-- The floor rises to the number before the first span left, or to the front. `spans` are those that
-- are left.
abbrev pub acked_to : DeliveryPicture → ℕ → Subscription → ℕ → List Span → DeliveryPicture
acked_to old s q first spans =
    record (with_delivered old s (record q { floor = floor_of spans old.front; spans = spans })) {
      in_flight = without_span s first old.in_flight;
    }

-- Negatively acknowledges a span in flight: it is ready again, at the end of the ready order.
abbrev pub nacked_to : DeliveryPicture → ℕ → Subscription → Span → DeliveryPicture
nacked_to old s q span = record (with_delivered old s
    (record q { spans = with_status span.first (Ready true) q.spans })) {
      ready = old.ready ++ (s, span.first) ∷ [];
      in_flight = without_span s span.first old.in_flight;
    }

-- Opens a span in flight: each of its numbers is a ready span of its own, in its place. They go to
-- the end of the ready order by rising number. Each counts as taken.
abbrev pub opened_to : DeliveryPicture → ℕ → Subscription → Span → DeliveryPicture
opened_to old s q span = record (with_delivered old s
    (record q { spans = opened_spans span.first q.spans })) {
      ready = old.ready ++ named s (singles span.first (span_length span));
      in_flight = without_span s span.first old.in_flight;
    }

-- Expires: each span in flight that was taken `timeout` ticks before `clock` or earlier is ready
-- again, in the in-flight order. The first of the pair is how many there are.
abbrev pub span_is_due : ℕ → ℕ → Option Span → Bool
span_is_due timeout clock None = false
span_is_due timeout clock (Some p) = is_due timeout clock p.status

abbrev pub is_due_of : ℕ → ℕ → ℕ → Option Subscription → Bool
is_due_of timeout clock first None = false
is_due_of timeout clock first (Some q) = span_is_due timeout clock (beginning first q.spans)

abbrev pub expires_of : List Subscription → ℕ → ℕ → ℕ × ℕ → Bool
expires_of subs timeout clock at = is_due_of timeout clock at.1 (slice_get subs at.0)

abbrev pub goes_back : ℕ → ℕ → Subscription → Subscription
goes_back timeout clock q = record q { spans = gone_back timeout clock q.spans }

abbrev pub how_many_expire : DeliveryPicture → ℕ → ℕ → ℕ
how_many_expire old timeout clock =
    length (filter (expires_of old.subscriptions timeout clock) old.in_flight)

abbrev pub all_expired : DeliveryPicture → ℕ → ℕ → DeliveryPicture
all_expired old timeout clock = record old {
  subscriptions = map (goes_back timeout clock) old.subscriptions;
  ready = old.ready ++ filter (expires_of old.subscriptions timeout clock) old.in_flight;
  in_flight =
      filter (λ at. not (expires_of old.subscriptions timeout clock at)) old.in_flight;
}

-- Continues the subscription after the cursor, under a new link. All its spans are removed, and the
-- numbers from there to the front are cut into `spans`.
abbrev pub reconnected_spans : DeliveryPicture → ℕ → Subscription → ℕ → List Span → ℕ
    → DeliveryPicture
reconnected_spans old s q cursor spans link = record (with_delivered old s
    (record q { floor = cursor; link = link; spans = spans })) {
      ready = without_subscription s old.ready ++ named s spans;
      in_flight = without_subscription s old.in_flight;
    }

-- Removes all spans of the subscription, and closes it.
abbrev pub unsubscribed_from : DeliveryPicture → ℕ → Subscription → DeliveryPicture
unsubscribed_from old s q = record (with_delivered old s (record q { closed = true; spans = [] })) {
  ready = without_subscription s old.ready;
  in_flight = without_subscription s old.in_flight;
}

-- Places the next number. In each open subscription the last span takes the number, or a new span
-- begins with it. New spans go to the end of the ready order, by rising subscription number.
abbrev pub grown_subscription : ℕ → ℕ → Subscription → Subscription
grown_subscription batch n q =
    if q.closed then q else record q { spans = grown_spans batch n q.spans }

abbrev pub begun_spans : ℕ → ℕ → ℕ → List Subscription → List (ℕ × ℕ)
begun_spans batch n s [] = []
begun_spans batch n s (q ∷ rest) =
    if q.closed || last_takes batch n q.spans then begun_spans batch n (suc s) rest else (s, n)
    ∷ begun_spans batch n (suc s) rest

abbrev pub grown_picture : DeliveryPicture → DeliveryPicture
grown_picture old = record old {
  front = suc old.front;
  subscriptions = map (grown_subscription old.batch (suc old.front)) old.subscriptions;
  ready = old.ready ++ begun_spans old.batch (suc old.front) 0 old.subscriptions;
}

-- ---- which span is delivered next

-- the first span in the ready order whose subscription has room in its window, with its
-- subscription's number
abbrev pub has_room_at : ℕ → Option Subscription → Bool
has_room_at window None = false
has_room_at window (Some q) = has_room window q

abbrev pub has_room_of : List Subscription → ℕ → ℕ × ℕ → Bool
has_room_of subs window at = has_room_at window (slice_get subs at.0)

abbrev pub span_numbered : ℕ → Option Span → Option (ℕ × Span)
span_numbered s None = None
span_numbered s (Some span) = Some (s, span)

abbrev pub span_of : ℕ → ℕ → Option Subscription → Option (ℕ × Span)
span_of s first None = None
span_of s first (Some q) = span_numbered s (beginning first q.spans)

abbrev pub span_at : List Subscription → Option (ℕ × ℕ) → Option (ℕ × Span)
span_at subs None = None
span_at subs (Some at) = span_of at.0 at.1 (slice_get subs at.0)

abbrev pub first_of_all : DeliveryPicture → Option (ℕ × Span)
first_of_all old = span_at old.subscriptions
    (find (has_room_of old.subscriptions old.window) old.ready)

-- The span may be delivered: it is the first ready one of the subscription with this number, or the
-- first of all. The subscription has room in its window.
pub record MayDeliver (p : DeliveryPicture) (s : ℕ) (span : Span) : Type 0 where
  pub sub : Subscription
  pub found : slice_get p.subscriptions s ≡ Some sub
  pub room : has_room p.window sub ≡ true
  pub first : (first_ready sub.spans ≡ Some span) ⊎ (first_of_all p ≡ Some (s, span))

-- the span is in flight to the subscription with this number
pub record IsOutTo (p : DeliveryPicture) (s : ℕ) (span : Span) : Type 0 where
  pub sub : Subscription
  pub found : slice_get p.subscriptions s ≡ Some sub
  pub delivery : ℕ
  pub out : out_as delivery sub.spans ≡ Some span

-- the subscription with this number is open, and may continue after this cursor
pub record Continues (subs : List Subscription) (s cursor : ℕ) : Type 0 where
  pub sub : Subscription
  pub found : slice_get subs s ≡ Some sub
  pub is_open : sub.closed ≡ false
  pub from : sub.floor ≤ cursor
  pub to : cursor ≤ sub.offered

-- the same of a picture's subscriptions
abbrev pub MayContinue : DeliveryPicture → ℕ → ℕ → Type 0
MayContinue p = Continues p.subscriptions
