-- What each call returns, and the picture after it. A refused call does not change the picture.
-- What a call does to the deliveries is said by `rb_deliveries` (its specs/Changes.antt).
use Rattle.std.specs.Prelude.{ℕ, suc, max, ⊤, Bool, false, not, ◌||◌, List, [], ◌∷◌}
use Rattle.std.specs.Prelude.{length, Option, Some, None, Result, Ok, Err, slice_get}
use Rattle.std.specs.Prelude.{◌==◌, nat_lt, nat_le, if◌then◌else◌}
use Rattle.std.specs.List.{find}
use Rattle.rb_deliveries.specs.declared.span.Span.{Span}
use Rattle.rb_desk.specs.declared.delivery.Delivery.{Delivery}
use Rattle.rb_desk.specs.declared.refusal.DeskRefusal.{DeskRefusal}
use Rattle.rb_desk.specs.declared.refusal.DeskRefusal.TheVariants as refusal
use Rattle.rb_deliveries.specs.Changes.{acked_to, all_expired, delivered_to, grown_picture}
use Rattle.rb_deliveries.specs.Changes.{has_room}
use Rattle.rb_deliveries.specs.Changes.{has_room_of, how_many_expire, nacked_to, opened_to}
use Rattle.rb_deliveries.specs.Changes.{reconnected_spans, subscribed_spans, unsubscribed_from}
use Rattle.rb_deliveries.specs.Picture.{Subscription}
use Rattle.rb_deliveries.specs.Spans.{beginning, cut_spans, first_ready, floor_of, out_as}
use Rattle.rb_deliveries.specs.Spans.{span_length, without_first}
use Rattle.rb_desk.specs.Picture.{Picture, deliveries_of, with_deliveries}

-- a refused call
abbrev pub refused_call : {A : Type 0} → Picture → DeskRefusal → Result A DeskRefusal × Picture
refused_call old why = (Err why, old)

-- Subscribe: adds a subscription after a number that is placed. The numbers from there to the front
-- are cut.
abbrev pub subscribed_picture : Picture → ℕ → List Span → Picture
subscribed_picture old start spans = with_deliveries
    (record old { next_link = suc old.next_link })
    (subscribed_spans (deliveries_of old) start spans old.next_link)

unfoldable pub subscribe : Picture → ℕ → Result (ℕ × ℕ) DeskRefusal × Picture
subscribe old start =
    if nat_lt old.front start then refused_call old (refusal.StartAhead old.front)
    else if nat_le 1024 (length old.subscriptions) then refused_call old refusal.TooMany
    else (
      Ok (length old.subscriptions, old.next_link),
      subscribed_picture old start (cut_spans old.limits.batch (suc start) old.front),
    )

-- Delivers a span: it is in flight as the next delivery, taken at tick `clock`, to which the clock
-- is set. It leaves the ready order and goes to the end of the in-flight order. The greatest number
-- delivered is at least the span's last.
abbrev pub delivery_from : Picture → ℕ → Subscription → Span → Delivery
delivery_from old s q span =
    record {
      number = old.next_delivery;
      sub = s;
      link = q.link;
      first = span.first;
      last = span.last;
    }

abbrev pub delivered_picture : Picture → ℕ → Subscription → Span → ℕ → Picture
delivered_picture old s q span clock = with_deliveries (record old { clock = clock })
    (delivered_to (deliveries_of old) s q span clock)

-- Take: delivers the subscription's ready span with the lowest numbers. If none is ready, it
-- refuses `Drained` or `Empty`. `Drained` means that the sequence is closed, no span is left, and
-- the cursor is the closing number.
abbrev pub is_drained : List Span → ℕ → ℕ → Bool
is_drained [] cursor last = cursor == last
is_drained (p ∷ rest) cursor last = false

abbrev pub none_ready : Picture → Subscription → ℕ → Option ℕ → DeskRefusal
none_ready old q cursor None = refusal.Empty old.front
none_ready old q cursor (Some last) =
    if is_drained q.spans cursor last then refusal.Drained last else refusal.Empty old.front

abbrev pub delivered_span : Picture → ℕ → Subscription → ℕ → ℕ → Option Span
    → Result Delivery DeskRefusal × Picture
delivered_span old s q cursor now None = refused_call old (none_ready old q cursor old.closing)
delivered_span old s q cursor now (Some span) =
    (Ok (delivery_from old s q span), delivered_picture old s q span (max old.clock now))

abbrev pub delivered_from : Picture → ℕ → ℕ → ℕ → ℕ → Option Subscription
    → Result Delivery DeskRefusal × Picture
delivered_from old s link cursor now None = refused_call old refusal.NoSuch
delivered_from old s link cursor now (Some q) =
    if not (link == q.link) then refused_call old refusal.StaleLink
    else if q.closed then refused_call old refusal.Closed
    else if not (has_room old.limits.window q) then refused_call old refusal.WindowFull
    else delivered_span old s q cursor now (first_ready q.spans)

unfoldable pub take : Picture → ℕ → ℕ → ℕ → ℕ → Result Delivery DeskRefusal × Picture
take old s link cursor now = delivered_from old s link cursor now (slice_get old.subscriptions s)

-- Take any: delivers the first span in the ready order whose subscription has room in its window.
abbrev pub has_window_room : Picture → ℕ × ℕ → Bool
has_window_room old = has_room_of old.subscriptions old.limits.window

abbrev pub delivered_any_span : Picture → ℕ → Subscription → ℕ → Option Span
    → Result Delivery DeskRefusal × Picture
delivered_any_span old s q now None = refused_call old (refusal.Empty old.front)
delivered_any_span old s q now (Some span) =
    (Ok (delivery_from old s q span), delivered_picture old s q span (max old.clock now))

abbrev pub delivered_any_of : Picture → ℕ → ℕ → ℕ → Option Subscription
    → Result Delivery DeskRefusal × Picture
delivered_any_of old s first now None = refused_call old (refusal.Empty old.front)
delivered_any_of old s first now (Some q) = delivered_any_span old s q now (beginning first q.spans)

abbrev pub delivered_any_from : Picture → ℕ → Option (ℕ × ℕ) → Result Delivery DeskRefusal × Picture
delivered_any_from old now None = refused_call old (refusal.Empty old.front)
delivered_any_from old now (Some at) =
    delivered_any_of old at.0 at.1 now (slice_get old.subscriptions at.0)

unfoldable pub take_any : Picture → ℕ → Result Delivery DeskRefusal × Picture
take_any old now = delivered_any_from old now (find (has_window_room old) old.ready)

-- Ack: settles the span that is in flight as this delivery, all of which must be accepted: the span
-- is removed. The floor rises to the number before the first span left, or to the front.
abbrev pub settled_span : Picture → ℕ → Subscription → ℕ → List Span → Result ℕ DeskRefusal
    × Picture
settled_span old s q first spans = (
  Ok (floor_of spans old.front),
  with_deliveries old (acked_to (deliveries_of old) s q first spans),
)

abbrev pub acked_span : Picture → ℕ → Subscription → ℕ → Option Span → Result ℕ DeskRefusal
    × Picture
acked_span old s q cursor None = refused_call old refusal.NotInFlight
acked_span old s q cursor (Some span) =
    if nat_lt cursor span.last then refused_call old (refusal.NotAccepted cursor)
    else settled_span old s q span.first (without_first span.first q.spans)

abbrev pub acked_by : Picture → ℕ → ℕ → ℕ → ℕ → Option Subscription → Result ℕ DeskRefusal × Picture
acked_by old s link number cursor None = refused_call old refusal.NoSuch
acked_by old s link number cursor (Some q) =
    if not (link == q.link) then refused_call old refusal.StaleLink
    else acked_span old s q cursor (out_as number q.spans)

unfoldable pub ack : Picture → ℕ → ℕ → ℕ → ℕ → Result ℕ DeskRefusal × Picture
ack old s link number cursor = acked_by old s link number cursor (slice_get old.subscriptions s)

-- Nack: makes the span that is in flight as this delivery ready again, at the end of the ready
-- order.
abbrev pub nacked_picture : Picture → ℕ → Subscription → Span → Picture
nacked_picture old s q span = with_deliveries old (nacked_to (deliveries_of old) s q span)

abbrev pub nacked_span : Picture → ℕ → Subscription → Option Span → Result ⊤ DeskRefusal × Picture
nacked_span old s q None = refused_call old refusal.NotInFlight
nacked_span old s q (Some span) = (Ok tt, nacked_picture old s q span)

abbrev pub nacked_by : Picture → ℕ → ℕ → ℕ → Option Subscription → Result ⊤ DeskRefusal × Picture
nacked_by old s link number None = refused_call old refusal.NoSuch
nacked_by old s link number (Some q) =
    if not (link == q.link) then refused_call old refusal.StaleLink
    else nacked_span old s q (out_as number q.spans)

unfoldable pub nack : Picture → ℕ → ℕ → ℕ → Result ⊤ DeskRefusal × Picture
nack old s link number = nacked_by old s link number (slice_get old.subscriptions s)

-- Nack opened: opens the span that is in flight as this delivery. Each of its numbers is a ready
-- span of its own, in its place, and they go to the end of the ready order by rising number. Each
-- counts as taken, so a placement does not lengthen it. Returns how many numbers were opened.
abbrev pub opened_picture : Picture → ℕ → Subscription → Span → Picture
opened_picture old s q span = with_deliveries old (opened_to (deliveries_of old) s q span)

abbrev pub opened_span : Picture → ℕ → Subscription → Option Span → Result ℕ DeskRefusal × Picture
opened_span old s q None = refused_call old refusal.NotInFlight
opened_span old s q (Some span) = (Ok (span_length span), opened_picture old s q span)

abbrev pub opened_by : Picture → ℕ → ℕ → ℕ → Option Subscription → Result ℕ DeskRefusal × Picture
opened_by old s link number None = refused_call old refusal.NoSuch
opened_by old s link number (Some q) =
    if not (link == q.link) then refused_call old refusal.StaleLink
    else opened_span old s q (out_as number q.spans)

unfoldable pub nack_opened : Picture → ℕ → ℕ → ℕ → Result ℕ DeskRefusal × Picture
nack_opened old s link number = opened_by old s link number (slice_get old.subscriptions s)

-- Expire: each span in flight that was taken `timeout` ticks ago or earlier is ready again, in the
-- in-flight order.
abbrev pub expired_at : Picture → ℕ → ℕ × Picture
expired_at old clock = (
  how_many_expire (deliveries_of old) old.limits.timeout clock,
  with_deliveries (record old { clock = clock })
      (all_expired (deliveries_of old) old.limits.timeout clock),
)

unfoldable pub expire : Picture → ℕ → ℕ × Picture
expire old now = expired_at old (max old.clock now)

-- Reconnect: continues the subscription after the cursor, under a new link. All its spans are
-- removed, and the numbers from there to the front are cut.
abbrev pub reconnected_picture : Picture → ℕ → Subscription → ℕ → List Span → Picture
reconnected_picture old s q cursor spans = with_deliveries
    (record old { next_link = suc old.next_link })
    (reconnected_spans (deliveries_of old) s q cursor spans old.next_link)

abbrev pub reconnected_by : Picture → ℕ → ℕ → Option Subscription → Result ℕ DeskRefusal × Picture
reconnected_by old s cursor None = refused_call old refusal.NoSuch
reconnected_by old s cursor (Some q) =
    if q.closed then refused_call old refusal.Closed
    else if nat_lt cursor q.floor
    || nat_lt q.offered cursor then refused_call old (refusal.BadCursor q.floor q.offered)
    else (
      Ok old.next_link,
      reconnected_picture old s q cursor
          (cut_spans old.limits.batch (suc cursor) old.front),
    )

unfoldable pub reconnect : Picture → ℕ → ℕ → Result ℕ DeskRefusal × Picture
reconnect old s cursor = reconnected_by old s cursor (slice_get old.subscriptions s)

-- Unsubscribe: removes all its spans, and closes it.
abbrev pub unsubscribed_picture : Picture → ℕ → Subscription → Picture
unsubscribed_picture old s q = with_deliveries old (unsubscribed_from (deliveries_of old) s q)

abbrev pub unsubscribed_by : Picture → ℕ → ℕ → Option Subscription → Result ⊤ DeskRefusal × Picture
unsubscribed_by old s link None = refused_call old refusal.NoSuch
unsubscribed_by old s link (Some q) =
    if not (link == q.link) then refused_call old refusal.StaleLink
    else if q.closed then refused_call old refusal.Closed
    else (Ok tt, unsubscribed_picture old s q)

unfoldable pub unsubscribe : Picture → ℕ → ℕ → Result ⊤ DeskRefusal × Picture
unsubscribe old s link = unsubscribed_by old s link (slice_get old.subscriptions s)

-- Prepare: the number that `place` would place now. It changes nothing.
abbrev pub next_place : Picture → Option ℕ → Result ℕ DeskRefusal
next_place old (Some last) = Err refusal.Closed
next_place old None = if nat_lt old.front old.limits.capacity then Ok (suc old.front) else Err
    refusal.SequenceFull

unfoldable pub prepare : Picture → Result ℕ DeskRefusal
prepare old = next_place old old.closing

-- Place: places the next number. In each open subscription the last span takes the number, or a new
-- span begins with it. New spans go to the end of the ready order, by rising subscription number.
unfoldable pub place : Picture → Picture
place old = with_deliveries old (grown_picture (deliveries_of old))

-- Close: the closing number is the front, unless there is one already. Only placing ends.
abbrev pub last_number : Picture → Option ℕ → ℕ
last_number old None = old.front
last_number old (Some last) = last

unfoldable pub close : Picture → ℕ × Picture
close old =
    (last_number old old.closing, record old { closing = Some (last_number old old.closing) })
