-- What each call returns and leaves, on a full picture. A name is the one of Calls.antt or of
-- rb_deliveries, with `full_` in front. An unsettled span is found as there; `ack` differs.
use Rattle.std.specs.Prelude.{ℕ, suc, max, ⊤, Bool, false, true, not, ◌||◌, List, [], ◌∷◌, ◌++◌}
use Rattle.std.specs.Prelude.{length, map, slice_set, Option, Some, None, Result, Ok, Err}
use Rattle.std.specs.Prelude.{slice_get, ◌==◌, nat_lt, nat_le, if◌then◌else◌}
use Rattle.std.specs.List.{filter, find}
use Rattle.rb_deliveries.specs.declared.span.Span.{Span}
use Rattle.rb_deliveries.specs.declared.span.Status.TheVariants.{InFlight, Ready}
use Rattle.rb_desk.specs.declared.delivery.Delivery.{Delivery}
use Rattle.rb_desk.specs.declared.refusal.DeskRefusal.{DeskRefusal}
use Rattle.rb_desk.specs.declared.refusal.DeskRefusal.TheVariants as refusal
use Rattle.rb_desk.specs.declared.step.Step.{Step}
use Rattle.rb_desk.specs.declared.step.Step.TheVariants.{Subscribe, Take, TakeAny, Ack, Nack}
use Rattle.rb_desk.specs.declared.step.Step.TheVariants.{Expire, Reconnect, Unsubscribe, Place}
use Rattle.rb_desk.specs.declared.step.Step.TheVariants.{Close, NackOpened}
use Rattle.rb_desk.specs.Limits.{Limits}
use Rattle.rb_deliveries.specs.Changes.{named, span_is_due, without_span, without_subscription}
use Rattle.rb_deliveries.specs.Spans.{beginning, cut_spans, first_ready, how_many_out, out_as}
use Rattle.rb_deliveries.specs.Spans.{singles, span_length}
use Rattle.rb_desk.specs.FullSpans.{FullSpan, all_unsettled, full_gone_back, full_grown_spans}
use Rattle.rb_desk.specs.FullSpans.{full_last_takes, full_opened_spans, full_raised, full_settled}
use Rattle.rb_desk.specs.FullSpans.{full_with_status, unsettled_spans}
use Rattle.rb_desk.specs.FullPicture.{FullPicture, FullSubscription, empty_full_picture}

-- a refused call; a picture with another subscription of this number
abbrev pub full_refused_call : {A : Type 0} → FullPicture → DeskRefusal
    → Result A DeskRefusal × FullPicture
full_refused_call old why = (Err why, old)

abbrev pub full_with_subscription : FullPicture → ℕ → FullSubscription → FullPicture
full_with_subscription old s q = record old { subscriptions = slice_set old.subscriptions s q }

-- ---- subscribe: the numbers from the start to the front are cut

abbrev pub full_subscribed_picture : FullPicture → ℕ → List Span → FullPicture
full_subscribed_picture old start spans = record old {
  next_link = suc old.next_link;
  subscriptions = old.subscriptions
      ++ record {
        start = start;
        floor = start;
        offered = start;
        link = old.next_link;
        closed = false;
        spans = all_unsettled spans;
      } ∷ [];
  ready = old.ready ++ named (length old.subscriptions) spans;
}

-- `subscribe` on a full picture
abbrev pub full_subscribe : FullPicture → ℕ → Result (ℕ × ℕ) DeskRefusal × FullPicture
full_subscribe old start =
    if nat_lt old.front start then full_refused_call old (refusal.StartAhead old.front)
    else if nat_le 1024 (length old.subscriptions) then full_refused_call old refusal.TooMany
    else (
      Ok (length old.subscriptions, old.next_link),
      full_subscribed_picture old start (cut_spans old.limits.batch (suc start) old.front),
    )

-- ---- take: the first ready span is in flight as the next delivery

abbrev pub full_delivered_picture : FullPicture → ℕ → FullSubscription → Span → ℕ → FullPicture
full_delivered_picture old s q span clock = record (full_with_subscription old s
    (record q {
      offered = max q.offered span.last;
      spans = full_with_status span.first (InFlight old.next_delivery clock) q.spans;
    })) {
      clock = clock;
      next_delivery = suc old.next_delivery;
      ready = without_span s span.first old.ready;
      in_flight = old.in_flight ++ (s, span.first) ∷ [];
    }

abbrev pub full_delivery_from : FullPicture → ℕ → FullSubscription → Span → Delivery
full_delivery_from old s q span = record {
  number = old.next_delivery;
  sub = s;
  link = q.link;
  first = span.first;
  last = span.last;
}

-- no span is ready: a drained subscription has none, not even a settled one
abbrev pub full_has_no_spans : List FullSpan → Bool
full_has_no_spans [] = true
full_has_no_spans (x ∷ rest) = false

abbrev pub full_none_ready : FullPicture → FullSubscription → ℕ → Option ℕ → DeskRefusal
full_none_ready old q cursor None = refusal.Empty old.front
full_none_ready old q cursor (Some last) =
    if not (full_has_no_spans q.spans) then refusal.Empty old.front
    else if cursor == last then refusal.Drained last
    else refusal.Empty old.front

abbrev pub full_delivered_span : FullPicture → ℕ → FullSubscription → ℕ → ℕ → Option Span
    → Result Delivery DeskRefusal × FullPicture
full_delivered_span old s q cursor now None =
    full_refused_call old (full_none_ready old q cursor old.closing)
full_delivered_span old s q cursor now (Some span) =
    (Ok (full_delivery_from old s q span), full_delivered_picture old s q span (max old.clock now))

abbrev pub full_has_room : ℕ → FullSubscription → Bool
full_has_room window q = nat_lt (how_many_out (unsettled_spans q.spans)) window

abbrev pub full_delivered_from : FullPicture → ℕ → ℕ → ℕ → ℕ → Option FullSubscription
    → Result Delivery DeskRefusal × FullPicture
full_delivered_from old s link cursor now None = full_refused_call old refusal.NoSuch
full_delivered_from old s link cursor now (Some q) =
    if not (link == q.link) then full_refused_call old refusal.StaleLink
    else if q.closed then full_refused_call old refusal.Closed
    else if not (full_has_room old.limits.window q) then full_refused_call old refusal.WindowFull
    else full_delivered_span old s q cursor now (first_ready (unsettled_spans q.spans))

-- `take` on a full picture
abbrev pub full_take : FullPicture → ℕ → ℕ → ℕ → ℕ → Result Delivery DeskRefusal × FullPicture
full_take old s link cursor now =
    full_delivered_from old s link cursor now (slice_get old.subscriptions s)

-- ---- take any: the same of the first span in the ready order that a window has room for

abbrev pub full_has_room_at : ℕ → Option FullSubscription → Bool
full_has_room_at window None = false
full_has_room_at window (Some q) = full_has_room window q

abbrev pub full_has_window_room : FullPicture → ℕ × ℕ → Bool
full_has_window_room old at = full_has_room_at old.limits.window (slice_get old.subscriptions at.0)

abbrev pub full_delivered_any_span : FullPicture → ℕ → FullSubscription → ℕ → Option Span
    → Result Delivery DeskRefusal × FullPicture
full_delivered_any_span old s q now None = full_refused_call old (refusal.Empty old.front)
full_delivered_any_span old s q now (Some span) =
    (Ok (full_delivery_from old s q span), full_delivered_picture old s q span (max old.clock now))

abbrev pub full_delivered_any_of : FullPicture → ℕ → ℕ → ℕ → Option FullSubscription
    → Result Delivery DeskRefusal × FullPicture
full_delivered_any_of old s first now None = full_refused_call old (refusal.Empty old.front)
full_delivered_any_of old s first now (Some q) =
    full_delivered_any_span old s q now (beginning first (unsettled_spans q.spans))

abbrev pub full_delivered_any_from : FullPicture → ℕ → Option (ℕ × ℕ)
    → Result Delivery DeskRefusal × FullPicture
full_delivered_any_from old now None = full_refused_call old (refusal.Empty old.front)
full_delivered_any_from old now (Some at) =
    full_delivered_any_of old at.0 at.1 now (slice_get old.subscriptions at.0)

-- `take_any` on a full picture
abbrev pub full_take_any : FullPicture → ℕ → Result Delivery DeskRefusal × FullPicture
full_take_any old now = full_delivered_any_from old now (find (full_has_window_room old) old.ready)

-- ---- ack: the span that is in flight as the delivery is settled; then the floor rises

-- the picture with this floor and these spans, where the span is in flight no more
abbrev pub full_acked_picture : FullPicture → ℕ → FullSubscription → ℕ → ℕ × List FullSpan
    → FullPicture
full_acked_picture old s q first left = record (full_with_subscription old s
    (record q { floor = left.0; spans = left.1 })) {
      in_flight = without_span s first old.in_flight;
    }

abbrev pub full_acked_span : FullPicture → ℕ → FullSubscription → ℕ → Option Span
    → Result ℕ DeskRefusal × FullPicture
full_acked_span old s q cursor None = full_refused_call old refusal.NotInFlight
full_acked_span old s q cursor (Some span) =
    if nat_lt cursor span.last then full_refused_call old (refusal.NotAccepted cursor)
    else (
      Ok (full_raised q.floor (full_settled span.first q.spans)).0,
      full_acked_picture old s q span.first
          (full_raised q.floor (full_settled span.first q.spans)),
    )

-- `call` on the span that is in flight as this delivery
abbrev pub full_on_delivery : {A : Type 0} → FullPicture → ℕ → ℕ
    → (FullSubscription → Option Span → Result A DeskRefusal × FullPicture)
    → Option FullSubscription → Result A DeskRefusal × FullPicture
full_on_delivery old link number call None = full_refused_call old refusal.NoSuch
full_on_delivery old link number call (Some q) =
    if not (link == q.link) then full_refused_call old refusal.StaleLink
    else call q (out_as number (unsettled_spans q.spans))

-- `ack` on a full picture: the span becomes a settled one; then each settled span that comes first
-- is removed, and its last number is the floor
abbrev pub full_ack : FullPicture → ℕ → ℕ → ℕ → ℕ → Result ℕ DeskRefusal × FullPicture
full_ack old s link number cursor =
    full_on_delivery old link number (λ q. full_acked_span old s q cursor)
    (slice_get old.subscriptions s)

-- ---- nack: that span is ready again, after all others

abbrev pub full_nacked_picture : FullPicture → ℕ → FullSubscription → Span → FullPicture
full_nacked_picture old s q span = record (full_with_subscription old s
    (record q { spans = full_with_status span.first (Ready true) q.spans })) {
      ready = old.ready ++ (s, span.first) ∷ [];
      in_flight = without_span s span.first old.in_flight;
    }

abbrev pub full_nacked_span : FullPicture → ℕ → FullSubscription → Option Span
    → Result ⊤ DeskRefusal × FullPicture
full_nacked_span old s q None = full_refused_call old refusal.NotInFlight
full_nacked_span old s q (Some span) = (Ok tt, full_nacked_picture old s q span)

-- `nack` on a full picture
abbrev pub full_nack : FullPicture → ℕ → ℕ → ℕ → Result ⊤ DeskRefusal × FullPicture
full_nack old s link number =
    full_on_delivery old link number (full_nacked_span old s) (slice_get old.subscriptions s)

-- ---- nack opened: each number of that span is a ready span of its own, after all others

abbrev pub full_opened_picture : FullPicture → ℕ → FullSubscription → Span → FullPicture
full_opened_picture old s q span = record (full_with_subscription old s
    (record q { spans = full_opened_spans span.first q.spans })) {
      ready = old.ready ++ named s (singles span.first (span_length span));
      in_flight = without_span s span.first old.in_flight;
    }

abbrev pub full_opened_span : FullPicture → ℕ → FullSubscription → Option Span
    → Result ℕ DeskRefusal × FullPicture
full_opened_span old s q None = full_refused_call old refusal.NotInFlight
full_opened_span old s q (Some span) = (Ok (span_length span), full_opened_picture old s q span)

-- `nack_opened` on a full picture
abbrev pub full_nack_opened : FullPicture → ℕ → ℕ → ℕ → Result ℕ DeskRefusal × FullPicture
full_nack_opened old s link number =
    full_on_delivery old link number (full_opened_span old s) (slice_get old.subscriptions s)

-- ---- expire: what was in flight for `timeout` ticks is ready again, in the in-flight order

abbrev pub full_is_due_of : ℕ → ℕ → ℕ → Option FullSubscription → Bool
full_is_due_of timeout clock first None = false
full_is_due_of timeout clock first (Some q) =
    span_is_due timeout clock (beginning first (unsettled_spans q.spans))

abbrev pub full_expires_of : FullPicture → ℕ → ℕ × ℕ → Bool
full_expires_of old clock at =
    full_is_due_of old.limits.timeout clock at.1 (slice_get old.subscriptions at.0)

abbrev pub full_goes_back : ℕ → ℕ → FullSubscription → FullSubscription
full_goes_back timeout clock q = record q { spans = full_gone_back timeout clock q.spans }

abbrev pub full_expired_picture : FullPicture → ℕ → FullPicture
full_expired_picture old clock = record old {
  clock = clock;
  subscriptions = map (full_goes_back old.limits.timeout clock) old.subscriptions;
  ready = old.ready ++ filter (full_expires_of old clock) old.in_flight;
  in_flight = filter (λ at. not (full_expires_of old clock at)) old.in_flight;
}

-- `expire` on a full picture
abbrev pub full_expire : FullPicture → ℕ → ℕ × FullPicture
full_expire old now = (
  length (filter (full_expires_of old (max old.clock now)) old.in_flight),
  full_expired_picture old (max old.clock now),
)

-- ---- reconnect: all spans are removed, and the numbers from the cursor to the front are cut

abbrev pub full_reconnected_picture : FullPicture → ℕ → FullSubscription → ℕ → List Span
    → FullPicture
full_reconnected_picture old s q cursor spans = record (full_with_subscription old s
    (record q { floor = cursor; link = old.next_link; spans = all_unsettled spans })) {
      next_link = suc old.next_link;
      ready = without_subscription s old.ready ++ named s spans;
      in_flight = without_subscription s old.in_flight;
    }

abbrev pub full_reconnected_by : FullPicture → ℕ → ℕ → Option FullSubscription
    → Result ℕ DeskRefusal × FullPicture
full_reconnected_by old s cursor None = full_refused_call old refusal.NoSuch
full_reconnected_by old s cursor (Some q) =
    if q.closed then full_refused_call old refusal.Closed
    else if nat_lt cursor q.floor || nat_lt q.offered cursor then
    full_refused_call old (refusal.BadCursor q.floor q.offered)
    else (
      Ok old.next_link,
      full_reconnected_picture old s q cursor
          (cut_spans old.limits.batch (suc cursor) old.front),
    )

-- `reconnect` on a full picture
abbrev pub full_reconnect : FullPicture → ℕ → ℕ → Result ℕ DeskRefusal × FullPicture
full_reconnect old s cursor = full_reconnected_by old s cursor (slice_get old.subscriptions s)

-- ---- unsubscribe: all spans are removed

abbrev pub full_unsubscribed_picture : FullPicture → ℕ → FullSubscription → FullPicture
full_unsubscribed_picture old s q = record (full_with_subscription old s
    (record q { closed = true; spans = [] })) {
      ready = without_subscription s old.ready;
      in_flight = without_subscription s old.in_flight;
    }

abbrev pub full_unsubscribed_by : FullPicture → ℕ → ℕ → Option FullSubscription
    → Result ⊤ DeskRefusal × FullPicture
full_unsubscribed_by old s link None = full_refused_call old refusal.NoSuch
full_unsubscribed_by old s link (Some q) =
    if not (link == q.link) then full_refused_call old refusal.StaleLink
    else if q.closed then full_refused_call old refusal.Closed
    else (Ok tt, full_unsubscribed_picture old s q)

-- `unsubscribe` on a full picture
abbrev pub full_unsubscribe : FullPicture → ℕ → ℕ → Result ⊤ DeskRefusal × FullPicture
full_unsubscribe old s link = full_unsubscribed_by old s link (slice_get old.subscriptions s)

-- ---- prepare, place and close

abbrev pub full_next_place : FullPicture → Option ℕ → Result ℕ DeskRefusal
full_next_place old (Some last) = Err refusal.Closed
full_next_place old None =
    if nat_lt old.front old.limits.capacity then Ok (suc old.front) else Err refusal.SequenceFull

-- `prepare` on a full picture
abbrev pub full_prepare : FullPicture → Result ℕ DeskRefusal
full_prepare old = full_next_place old old.closing

abbrev pub full_grown_subscription : ℕ → ℕ → FullSubscription → FullSubscription
full_grown_subscription batch n q =
    if q.closed then q else record q { spans = full_grown_spans batch n q.spans }

abbrev pub full_begun_spans : ℕ → ℕ → ℕ → List FullSubscription → List (ℕ × ℕ)
full_begun_spans batch n s [] = []
full_begun_spans batch n s (q ∷ rest) =
    if q.closed || full_last_takes batch q.spans then full_begun_spans batch n (suc s) rest
    else (s, n) ∷ full_begun_spans batch n (suc s) rest

abbrev pub full_place : FullPicture → FullPicture
full_place old = record old {
  front = suc old.front;
  subscriptions = map (full_grown_subscription old.limits.batch (suc old.front)) old.subscriptions;
  ready = old.ready ++ full_begun_spans old.limits.batch (suc old.front) 0 old.subscriptions;
}

abbrev pub full_last_number : FullPicture → Option ℕ → ℕ
full_last_number old None = old.front
full_last_number old (Some last) = last

-- `close` on a full picture
abbrev pub full_close : FullPicture → ℕ × FullPicture
full_close old = (
  full_last_number old old.closing,
  record old { closing = Some (full_last_number old old.closing) },
)

-- ---- the full picture after a step, and after a list of steps on a new desk

abbrev pub full_placed_if : FullPicture → Result ℕ DeskRefusal → FullPicture
full_placed_if old (Ok number) = full_place old
full_placed_if old (Err why) = old

abbrev pub full_after_step : FullPicture → Step → FullPicture
full_after_step old (Subscribe start) = (full_subscribe old start).1
full_after_step old (Take s link cursor now) = (full_take old s link cursor now).1
full_after_step old (TakeAny now) = (full_take_any old now).1
full_after_step old (Ack s link number cursor) = (full_ack old s link number cursor).1
full_after_step old (Nack s link number) = (full_nack old s link number).1
full_after_step old (NackOpened s link number) = (full_nack_opened old s link number).1
full_after_step old (Expire now) = (full_expire old now).1
full_after_step old (Reconnect s cursor) = (full_reconnect old s cursor).1
full_after_step old (Unsubscribe s link) = (full_unsubscribe old s link).1
full_after_step old Place = full_placed_if old (full_prepare old)
full_after_step old Close = (full_close old).1

abbrev pub full_replayed : FullPicture → List Step → FullPicture
full_replayed x [] = x
full_replayed x (step ∷ steps) = full_replayed (full_after_step x step) steps

-- the full picture that a list of steps leads to from an empty one
abbrev pub full_replay : Limits → List Step → FullPicture
full_replay limits steps = full_replayed (empty_full_picture limits) steps
