-- The invariant of a picture holds after the spans that are due are returned.
use Rattle.std.proofs.Common.{◌≡◌, ℕ, suc, max, ◌+◌, ◌-◌, ◌≤◌, ◌⊎◌, inl, inr, Bool, true, false, not, ◌==◌, cond, List}
use Rattle.std.proofs.Common.{[], ◌∷◌, length, Option, Some, None, option_map, filter, nat_le, slice_get, refl, sym, ap}
use Rattle.std.proofs.Common.{◌∙◌, arith}
use Rattle.std.specs.List.{AllByRecursion}
use Rattle.std.proofs.lemmas.Bool.{false≢true}
use Rattle.std.proofs.lemmas.Option.{slice_get-map}
use Rattle.std.proofs.lemmas.List.{length-map}
use Rattle.rb_deliveries.specs.declared.span.Span.{Span}
use Rattle.rb_deliveries.specs.declared.span.Status.{Status}
use Rattle.rb_deliveries.specs.declared.span.Status.TheVariants.{Ready, InFlight}
use Rattle.rb_deliveries.specs.Spans.{is_ready, is_fresh, is_out, is_out_as, is_due, beginning, gone_back}
use Rattle.rb_deliveries.specs.Spans.{SpansRise}
use Rattle.rb_deliveries.specs.Spans.{floor_of}
use Rattle.rb_desk.specs.Picture.{Picture}
use Rattle.rb_deliveries.specs.Picture.{Subscription}
use Rattle.rb_desk.specs.Calls.{expire, expired_at}
use Rattle.rb_deliveries.specs.Changes.{expires_of}
use Rattle.rb_deliveries.specs.Changes.{goes_back, is_due_of, span_is_due}
use Rattle.rb_desk.specs.IsPicture.{IsInSpan, IsGoodSpan, IsGoodSubscription, one_if, span_there}
use Rattle.rb_desk.specs.IsPicture.{stands_there, IsPicture}
use Rattle.rb_deliveries.proofs.orders.Line.{all_then}
use Rattle.rb_desk.proofs.pictures.PictureLaws.{all_mapped, count_cons, often_append, often_filter}
use Rattle.rb_desk.proofs.calls.CallCases.{either_way}
use Rattle.rb_desk.proofs.pictures.KeepPlace.{links_mapped, out_mapped}

module _ (timeout clock : ℕ) where
  -- what a span becomes
  abbrev back : Span → Span
  back p = cond (is_due timeout clock p.status) (record p { status = Ready true }) p

  -- ---- one span

  -- it begins and ends as before
  back_first : (p : Span) → (back p).first ≡ p.first
  back_first p = either_way (λ (x : Span). x.first ≡ p.first) (is_due timeout clock p.status)
      (record p { status = Ready true }) p refl refl

  back_status : (p : Span) → (back p).status ≡ cond (is_due timeout clock p.status) (Ready true) p.status
  back_status p = by (is_due timeout clock p.status)
    where
      by : (b : Bool) → (cond b (record p { status = Ready true }) p).status ≡ cond b (Ready true) p.status
      by true = refl
      by false = refl

  -- what is due was taken
  due_taken : (status : Status) → is_due timeout clock status ≡ true → is_fresh status ≡ false
  due_taken (Ready taken) due = absurd (false≢true due)
  due_taken (InFlight number moment) due = refl

  -- what is out and due is ready, what was ready still is, and nothing else
  ready_now : (status : Status) → one_if (is_ready (cond (is_due timeout clock status) (Ready true) status))
      ≡ one_if (is_ready status) + cond (is_due timeout clock status) (one_if (is_out status)) 0
  ready_now (Ready taken) = refl
  ready_now (InFlight number moment) = by (nat_le timeout (clock - moment))
    where
      by : (b : Bool) → one_if (is_ready (cond b (Ready true) (InFlight number moment))) ≡ 0 + cond b 1 0
      by true = refl
      by false = refl

  -- what is out and not due is out
  out_now : (status : Status) → one_if (is_out (cond (is_due timeout clock status) (Ready true) status))
      ≡ cond (not (is_due timeout clock status)) (one_if (is_out status)) 0
  out_now (Ready taken) = refl
  out_now (InFlight number moment) = by (nat_le timeout (clock - moment))
    where
      by : (b : Bool) → one_if (is_out (cond b (Ready true) (InFlight number moment))) ≡ cond (not b) 1 0
      by true = refl
      by false = refl

  -- ---- the spans of a subscription

  -- they rise as before
  pub back_rise : (low high : ℕ) (spans : List Span) → SpansRise low spans high
      → SpansRise low (gone_back timeout clock spans) high
  back_rise low high [] j = j
  back_rise low high (p ∷ rest) j = by (is_due timeout clock p.status) (back_rise (suc p.last) high rest j.2)
    where
      by : (b : Bool) → SpansRise (suc p.last) (gone_back timeout clock rest) high
          → SpansRise low (cond b (record p { status = Ready true }) p ∷ gone_back timeout clock rest) high
      by true h = (j.0, j.1, h)
      by false h = (j.0, j.1, h)

  -- the first one begins where it did, and a number is in one where it was
  back_floor : (front : ℕ) (spans : List Span) → floor_of (gone_back timeout clock spans) front ≡ floor_of spans front
  back_floor front [] = refl
  back_floor front (p ∷ rest) = ap (λ n. n - 1) (back_first p)

  pub back_in : (n : ℕ) (spans : List Span) → IsInSpan n spans → IsInSpan n (gone_back timeout clock spans)
  back_in n [] i = i
  back_in n (p ∷ rest) i = by (is_due timeout clock p.status) i (back_in n rest)
    where
      by : (b : Bool) → ((p.first ≤ n) × (n ≤ p.last)) ⊎ IsInSpan n rest
          → (IsInSpan n rest → IsInSpan n (gone_back timeout clock rest))
          → IsInSpan n (cond b (record p { status = Ready true }) p ∷ gone_back timeout clock rest)
      by true (inl here) next = inl here
      by false (inl here) next = inl here
      by true (inr there) next = inr (next there)
      by false (inr there) next = inr (next there)

  -- they are good
  pub back_good : (batch offered next : ℕ) (spans : List Span) → AllByRecursion (IsGoodSpan batch offered next) spans
      → AllByRecursion (IsGoodSpan batch offered next) (gone_back timeout clock spans)
  back_good batch offered next [] g = tt
  back_good batch offered next (p ∷ rest) g =
      (by (is_due timeout clock p.status) refl, back_good batch offered next rest g.1)
    where
      by : (b : Bool) → is_due timeout clock p.status ≡ b
          → IsGoodSpan batch offered next (cond b (record p { status = Ready true }) p)
      by true due = record { short = g.0.short; handed_out = (λ taken. g.0.handed_out.0 (due_taken p.status due), tt) }
      by false due = g.0

  -- no more of them have a status that isn't ready
  pub back_having : (test : Status → Bool) (spans : List Span) → test (Ready true) ≡ false
      → length (filter (λ (p : Span). test p.status) (gone_back timeout clock spans))
      ≤ length (filter (λ (p : Span). test p.status) spans)
  back_having test [] h = omega arith
  back_having test (p ∷ rest) h =
      let less = back_having test rest h in
      let none : one_if (test (Ready true)) ≡ 0 = ap one_if h in
      let one : one_if (test (back p).status) ≤ one_if (test p.status) =
      either_way (λ (x : Span). one_if (test x.status) ≤ one_if (test p.status)) (is_due timeout clock p.status)
      (record p { status = Ready true }) p (omega (arith, none)) (omega arith) in
      omega (
        arith,
        less,
        one,
        count_cons (λ (p : Span). test p.status) (back p) (gone_back timeout clock rest),
        count_cons (λ (p : Span). test p.status) p rest,
      )

  -- the one that begins with a number is what the former one becomes
  back_beginning : (first : ℕ) (spans : List Span) → beginning first (gone_back timeout clock spans)
      ≡ option_map back (beginning first spans)
  back_beginning first [] = refl
  back_beginning first (p ∷ rest) =
      ap (λ m. cond (m == first) (Some (back p)) (beginning first (gone_back timeout clock rest))) (back_first p)
      ∙ by (p.first == first) (back_beginning first rest)
    where
      by : (b : Bool) → beginning first (gone_back timeout clock rest) ≡ option_map back (beginning first rest)
          → cond b (Some (back p)) (beginning first (gone_back timeout clock rest))
          ≡ option_map back (cond b (Some p) (beginning first rest))
      by true h = refl
      by false h = h

  -- so it is ready where it was, or was out and due, and out where it was and wasn't due
  ready_span : (o : Option Span) → span_there is_ready (option_map back o) ≡ span_there is_ready o
      + cond (span_is_due timeout clock o) (span_there is_out o) 0
  ready_span None = refl
  ready_span (Some p) = ap (λ status. one_if (is_ready status)) (back_status p) ∙ ready_now p.status

  out_span : (o : Option Span) → span_there is_out (option_map back o)
      ≡ cond (not (span_is_due timeout clock o)) (span_there is_out o) 0
  out_span None = refl
  out_span (Some p) = ap (λ status. one_if (is_out status)) (back_status p) ∙ out_now p.status

  -- and at the place of a subscription
  pub ready_there : (first : ℕ) (o : Option Subscription)
      → stands_there is_ready first (option_map (goes_back timeout clock) o) ≡ stands_there is_ready first o
      + cond (is_due_of timeout clock first o) (stands_there is_out first o) 0
  ready_there first None = refl
  ready_there first (Some q) = ap (span_there is_ready) (back_beginning first q.spans)
      ∙ ready_span (beginning first q.spans)

  pub out_there : (first : ℕ) (o : Option Subscription)
      → stands_there is_out first (option_map (goes_back timeout clock) o)
      ≡ cond (not (is_due_of timeout clock first o)) (stands_there is_out first o) 0
  out_there first None = refl
  out_there first (Some q) = ap (span_there is_out) (back_beginning first q.spans) ∙ out_span (beginning first q.spans)

  -- a good subscription is one in a picture with the same limits, front and next numbers
  pub back_subscription : (p p' : Picture) (q : Subscription) → p'.limits ≡ p.limits → p'.front ≡ p.front → p'.next_link
      ≡ p.next_link → p'.next_delivery ≡ p.next_delivery → IsGoodSubscription p q
      → IsGoodSubscription p' (goes_back timeout clock q)
  back_subscription p p' q limits front link delivery g = record {
    begins = g.begins;
    reaches = g.reaches;
    placed = omega (arith, g.placed, front);
    linked = omega (arith, g.linked, link);
    has_none = λ closed. ap (gone_back timeout clock) (g.has_none closed);
    rise = λ running. rw front (back_rise (suc q.floor) p.front q.spans (g.rise running));
    from_floor = λ running. rw front (g.from_floor running ∙ sym (back_floor p.front q.spans));
    never_delivered = λ running n less le. back_in n q.spans
        (g.never_delivered running n less (omega (arith, le, front)));
    good = rw (limits, delivery) (back_good p.limits.batch q.offered p.next_delivery q.spans g.good);
    few = rw limits (omega (arith, g.few, back_having is_out q.spans refl));
  }

-- ---- the picture

-- at a moment
pub expired_keeps : (p : Picture) (clock : ℕ) → IsPicture p → IsPicture (expired_at p clock).1
expired_keeps p clock k = record {
  in_range = k.in_range;
  within = k.within;
  closed = k.closed;
  few = omega (arith, k.few, length-map p.subscriptions goes);
  good = all_mapped (IsGoodSubscription new) goes p.subscriptions
      (all_then (IsGoodSubscription p) (λ q. IsGoodSubscription new (goes q)) p.subscriptions
      (λ q g. back_subscription p.limits.timeout clock p new q refl refl refl refl g) k.good);
  links = λ link. omega (arith, links_mapped goes link p.subscriptions (λ q. refl), k.links link);
  deliveries =
      λ d. omega (
        arith,
        out_mapped goes d p.subscriptions
            (λ q. back_having p.limits.timeout clock (is_out_as d) q.spans refl),
        k.deliveries d,
      );
  ready = λ s first.
      often_append s first p.ready (filter (expires_of p.subscriptions p.limits.timeout clock) p.in_flight)
      ∙ (λ i. k.ready s first i + often_filter (expires_of p.subscriptions p.limits.timeout clock) s first p.in_flight i)
      ∙ ap (λ n. stands_there is_ready first (slice_get p.subscriptions s) + cond (expires_of p.subscriptions p.limits.timeout clock (s, first)) n 0)
      (k.out s first)
      ∙ sym (ap (stands_there is_ready first) (slice_get-map goes p.subscriptions s)
      ∙ ready_there p.limits.timeout clock first (slice_get p.subscriptions s));
  out = λ s first.
      often_filter (λ at. not (expires_of p.subscriptions p.limits.timeout clock at)) s first p.in_flight
      ∙ ap (λ n. cond (not (expires_of p.subscriptions p.limits.timeout clock (s, first))) n 0) (k.out s first)
      ∙ sym (ap (stands_there is_out first) (slice_get-map goes p.subscriptions s)
      ∙ out_there p.limits.timeout clock first (slice_get p.subscriptions s));
}
  where
    goes : Subscription → Subscription
    goes = goes_back p.limits.timeout clock

    new : Picture
    new = (expired_at p clock).1

-- at the clock
pub keep_expire_keeps : (p : Picture) (now : ℕ) → IsPicture p → IsPicture (expire p now).1
unfolding expire
keep_expire_keeps p now k = expired_keeps p (max p.clock now) k
