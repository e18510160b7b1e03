-- What a call's definition says, once the searches in it have found their item.
use Rattle.std.proofs.Common.{◌≡◌, ℕ, Bool, true, false, not, cond, ◌==◌, ◌||◌, ◌<◌, ◌≤◌}
use Rattle.std.proofs.Common.{max, nat_lt, Option, Some, None, Result, Ok, Err}
use Rattle.std.proofs.Common.{IsOk, suc, if◌then◌else◌, slice_get, refl, sym, ap, ◌∙◌, arith}
use Rattle.std.specs.Result.{result_err}
use Rattle.std.proofs.lemmas.Bool.{ltb-true, lt-ltb, le-ltb, false≢true}
use Rattle.rb_deliveries.specs.declared.span.Span.{Span}
use Rattle.rb_deliveries.specs.Changes.{has_room}
use Rattle.rb_deliveries.specs.Picture.{Subscription}
use Rattle.rb_deliveries.specs.Spans.{cut_spans, first_ready, out_as, without_first}
use Rattle.rb_desk.specs.declared.refusal.DeskRefusal.{DeskRefusal}
use Rattle.rb_desk.specs.declared.refusal.DeskRefusal.TheVariants as refusal
use Rattle.rb_desk.specs.Answers.{call_refusal}
use Rattle.rb_desk.specs.Picture.{Picture}
use Rattle.rb_desk.specs.Calls.{settled_span, prepare, next_place, delivery_from}
use Rattle.rb_desk.specs.Calls.{delivered_picture, refused_call, reconnect, opened_by, opened_span, nack_opened}
use Rattle.rb_desk.specs.Calls.{reconnected_by, reconnected_picture, unsubscribe, unsubscribed_by, unsubscribed_picture}
use Rattle.rb_desk.specs.Calls.{take, delivered_from, delivered_span, ack, acked_by, acked_span, nack, nacked_by}
use Rattle.rb_desk.specs.Calls.{nacked_picture, nacked_span, opened_picture}
use Rattle.rb_desk.specs.Shown.{FindsInFlight, FindsToAck, FindsToClose, FindsToReconnect, FindsToTake, IsInFlight}
use Rattle.rb_desk.specs.Shown.{IsToTake, MayClose, MayReconnect}
use Rattle.rb_deliveries.specs.Spans.{span_length}

-- ---- calls of a subscription that was found

pub nack_found : (p : Picture) (s link d : ℕ) (q : Subscription) → slice_get p.subscriptions s ≡ Some q
    → (link == q.link) ≡ true → nack p s link d ≡ nacked_span p s q (out_as d q.spans)
unfolding nack
nack_found p s link d q h same = ap (nacked_by p s link d) h
    ∙ ap (λ t. cond (not t) (refused_call p refusal.StaleLink) (nacked_span p s q (out_as d q.spans))) same

pub ack_found : (p : Picture) (s link d cursor : ℕ) (q : Subscription) → slice_get p.subscriptions s ≡ Some q
    → (link == q.link) ≡ true → ack p s link d cursor ≡ acked_span p s q cursor (out_as d q.spans)
unfolding ack
ack_found p s link d cursor q h same = ap (acked_by p s link d cursor) h
    ∙ ap (λ t. cond (not t) (refused_call p refusal.StaleLink) (acked_span p s q cursor (out_as d q.spans))) same

pub take_found : (p : Picture) (s link cursor now : ℕ) (q : Subscription) → slice_get p.subscriptions s ≡ Some q
    → (link == q.link) ≡ true → q.closed ≡ false
    → take p s link cursor now
    ≡ (if not (has_room p.limits.window q) then refused_call p refusal.WindowFull else delivered_span p s q cursor
    now (first_ready q.spans))
unfolding take
take_found p s link cursor now q h same running =
    ap (delivered_from p s link cursor now) h
    ∙ (λ i. cond (not (same i)) (refused_call p refusal.StaleLink)
    (cond (running i) (refused_call p refusal.Closed)
    (if not (has_room p.limits.window q) then refused_call p refusal.WindowFull else delivered_span p s q cursor now
    (first_ready q.spans))))

pub unsubscribe_found : (p : Picture) (s link : ℕ) (q : Subscription) → slice_get p.subscriptions s ≡ Some q
    → (link == q.link) ≡ true → q.closed ≡ false → unsubscribe p s link ≡ (Ok tt, unsubscribed_picture p s q)
unfolding unsubscribe
unsubscribe_found p s link q h same running =
    ap (unsubscribed_by p s link) h
    ∙ (λ i. cond (not (same i)) (refused_call p refusal.StaleLink)
    (cond (running i) (refused_call p refusal.Closed) (Ok tt, unsubscribed_picture p s q)))

pub reconnect_found : (p : Picture) (s cursor : ℕ) (q : Subscription) → slice_get p.subscriptions s ≡ Some q → q.closed
    ≡ false
    → reconnect p s cursor ≡ (if nat_lt cursor q.floor
    || nat_lt q.offered cursor then refused_call p (refusal.BadCursor q.floor q.offered) else
    (Ok p.next_link, reconnected_picture p s q cursor (cut_spans p.limits.batch (suc cursor) p.front)))
unfolding reconnect
reconnect_found p s cursor q h running =
    ap (reconnected_by p s cursor) h
    ∙ ap (λ t. cond t (refused_call p refusal.Closed)
    (if nat_lt cursor q.floor || nat_lt q.offered cursor then refused_call p (refusal.BadCursor q.floor q.offered)
    else (Ok p.next_link, reconnected_picture p s q cursor (cut_spans p.limits.batch (suc cursor) p.front))))
    running

pub opened_found : (p : Picture) (s link d : ℕ) (q : Subscription) → slice_get p.subscriptions s ≡ Some q
    → (link == q.link) ≡ true → nack_opened p s link d ≡ opened_span p s q (out_as d q.spans)
unfolding nack_opened
opened_found p s link d q h same = ap (opened_by p s link d) h
    ∙ ap (λ t. cond (not t) (refused_call p refusal.StaleLink) (opened_span p s q (out_as d q.spans))) same

same_link : (a b : ℕ) → a ≡ b → (b == a) ≡ true
same_link a b h = grind (arith, h)

-- ---- calls that find what they look for

module _ (p : Picture) (s link : ℕ) (span : Span) where
  pub take_is : (cursor now : ℕ) (t : IsToTake p s link span) → take p s link cursor now
      ≡ (Ok (delivery_from p s t.sub span), delivered_picture p s t.sub span (max p.clock now))
  take_is cursor now t =
      take_found p s link cursor now t.sub t.found (same_link _ _ t.linked) t.is_open
      ∙ ap (λ b. if not b then refused_call p refusal.WindowFull
      else delivered_span p s t.sub cursor now (first_ready t.sub.spans)) t.room
      ∙ ap (delivered_span p s t.sub cursor now) t.first

  pub nack_is : (d : ℕ) (t : IsInFlight p s link d span) → nack p s link d ≡ (Ok tt, nacked_picture p s t.sub span)
  nack_is d t = nack_found p s link d t.sub t.found (same_link _ _ t.linked) ∙ ap (nacked_span p s t.sub) t.out

  pub opened_is : (d : ℕ) (t : IsInFlight p s link d span)
      → nack_opened p s link d ≡ (Ok (span_length span), opened_picture p s t.sub span)
  opened_is d t = opened_found p s link d t.sub t.found (same_link _ _ t.linked) ∙ ap (opened_span p s t.sub) t.out

  ack_in_flight : (d cursor : ℕ) (t : IsInFlight p s link d span)
      → ack p s link d cursor ≡ acked_span p s t.sub cursor (Some span)
  ack_in_flight d cursor t =
      ack_found p s link d cursor t.sub t.found (same_link _ _ t.linked) ∙ ap (acked_span p s t.sub cursor) t.out

  pub ack_is : (d cursor : ℕ) (t : IsInFlight p s link d span) → span.last ≤ cursor
      → ack p s link d cursor ≡ settled_span p s t.sub span.first (without_first span.first t.sub.spans)
  ack_is d cursor t whole =
      ack_in_flight d cursor t
      ∙ ap (λ b. if b then refused_call p (refusal.NotAccepted cursor) else settled_span p s t.sub span.first
      (without_first span.first t.sub.spans)) (le-ltb _ _ whole)

pub reconnect_is : (p : Picture) (s cursor : ℕ) (t : MayReconnect p s cursor) → reconnect p s cursor
    ≡ (Ok p.next_link, reconnected_picture p s t.sub cursor (cut_spans p.limits.batch (suc cursor) p.front))
reconnect_is p s cursor t =
    reconnect_found p s cursor t.sub t.found t.is_open
    ∙ (λ i. cond (le-ltb _ _ t.from i || le-ltb _ _ t.to i)
    (refused_call p (refusal.BadCursor t.sub.floor t.sub.offered))
    (Ok p.next_link, reconnected_picture p s t.sub cursor (cut_spans p.limits.batch (suc cursor) p.front)))

pub unsubscribe_is : (p : Picture) (s link : ℕ) (t : MayClose p s link) → unsubscribe p s link
    ≡ (Ok tt, unsubscribed_picture p s t.sub)
unsubscribe_is p s link t = unsubscribe_found p s link t.sub t.found (same_link _ _ t.linked) t.is_open

-- ---- why a call is refused

pub take_why : (p : Picture) (s link cursor now : ℕ) (result : Result Span DeskRefusal)
    → FindsToTake result p s link cursor → result_err result ≡ call_refusal (take p s link cursor now).0
take_why p s link cursor now (Ok span) t = ap (λ c. call_refusal c.0) (sym (take_is p s link span cursor now t))
take_why p s link cursor now (Err why) h = ap (λ c. call_refusal c.0) (sym (h now))

pub ack_why : (p : Picture) (s link d cursor : ℕ) (result : Result Span DeskRefusal)
    → FindsToAck result p s link d cursor → result_err result ≡ call_refusal (ack p s link d cursor).0
ack_why p s link d cursor (Ok span) t =
    ap (λ c. call_refusal c.0) (sym (ack_is p s link span d cursor t.0 t.1))
ack_why p s link d cursor (Err why) h = ap (λ c. call_refusal c.0) (sym h)

pub nack_why : (p : Picture) (s link d : ℕ) (result : Result Span DeskRefusal)
    → FindsInFlight result p s link d → result_err result ≡ call_refusal (nack p s link d).0
nack_why p s link d (Ok span) t = ap (λ c. call_refusal c.0) (sym (nack_is p s link span d t))
nack_why p s link d (Err why) h = ap (λ c. call_refusal c.0) (sym h.1)

pub opened_why : (p : Picture) (s link d : ℕ) (result : Result Span DeskRefusal)
    → FindsInFlight result p s link d → result_err result ≡ call_refusal (nack_opened p s link d).0
opened_why p s link d (Ok span) t = ap (λ c. call_refusal c.0) (sym (opened_is p s link span d t))
opened_why p s link d (Err why) h = ap (λ c. call_refusal c.0) (sym h.2)

pub reconnect_why : (p : Picture) (s cursor : ℕ) (result : Result (Unit {0}) DeskRefusal)
    → FindsToReconnect result p s cursor → result_err result ≡ call_refusal (reconnect p s cursor).0
reconnect_why p s cursor (Ok done) t = ap (λ c. call_refusal c.0) (sym (reconnect_is p s cursor t))
reconnect_why p s cursor (Err why) h = ap (λ c. call_refusal c.0) (sym h)

pub unsubscribe_why : (p : Picture) (s link : ℕ) (result : Result (Unit {0}) DeskRefusal)
    → FindsToClose result p s link → result_err result ≡ call_refusal (unsubscribe p s link).0
unsubscribe_why p s link (Ok done) t = ap (λ c. call_refusal c.0) (sym (unsubscribe_is p s link t))
unsubscribe_why p s link (Err why) h = ap (λ c. call_refusal c.0) (sym h)

-- ---- placing

room_left : (t : Bool) (n : ℕ) → IsOk (if t then Ok n else Err refusal.SequenceFull) → t ≡ true
room_left true n ok = refl
room_left false n ok = absurd (false≢true ok)

may_place_by : (p : Picture) (o : Option ℕ) → IsOk (next_place p o) → (o ≡ None) × (p.front < p.limits.capacity)
may_place_by p None ok = (refl, ltb-true _ _ (room_left (nat_lt p.front p.limits.capacity) (suc p.front) ok))
may_place_by p (Some last) ok = absurd (false≢true ok)

-- where a placement may be made the sequence isn't closed and not full
pub may_place : (p : Picture) → IsOk (prepare p) → (p.closing ≡ None) × (p.front < p.limits.capacity)
unfolding prepare
may_place p ok = may_place_by p p.closing ok

pub prepared : (p : Picture) → IsOk (prepare p) → prepare p ≡ Ok (suc p.front)
unfolding prepare
prepared p ok =
    ap (next_place p) (may_place_by p p.closing ok).0
    ∙ ap (λ t. if t then Ok (suc p.front) else Err refusal.SequenceFull)
    (lt-ltb _ _ (may_place_by p p.closing ok).1)
