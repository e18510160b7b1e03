-- `IsFullPicture` holds after each call, if it held before: a lemma for each.
use Rattle.std.proofs.Common.{◌≡◌, ℕ, suc, max, ◌≤◌, Bool, true, false, not, cond, ◌||◌, ◌==◌, List}
use Rattle.std.proofs.Common.{length, find, Option, Some, None, Result, Ok, Err, slice_get, slice_set}
use Rattle.std.proofs.Common.{nat_lt, nat_le, refl, sym, ap, ◌∙◌, subst, arith, option_map}
use Rattle.std.specs.List.{AllByRecursion}
use Rattle.std.proofs.lemmas.Bool.{false≢true, ltb-false, or_parts}
use Rattle.std.proofs.lemmas.Option.{slice_get-map}
use Rattle.rb_deliveries.specs.declared.span.Span.{Span}
use Rattle.rb_deliveries.specs.declared.span.Status.TheVariants.{Ready, InFlight}
use Rattle.rb_deliveries.specs.Spans.{beginning, cut_spans, first_ready, out_as}
use Rattle.rb_deliveries.proofs.orders.Line.{all_both, all_then}
use Rattle.rb_deliveries.proofs.subs.KnownLaws.{all_get, all_set}
use Rattle.rb_desk.specs.declared.refusal.DeskRefusal.{DeskRefusal}
use Rattle.rb_desk.specs.declared.step.Step.{Step}
use Rattle.rb_desk.specs.declared.step.Step.TheVariants.{Subscribe, Take, TakeAny, Ack, Nack, Expire, Reconnect}
use Rattle.rb_desk.specs.declared.step.Step.TheVariants.{Unsubscribe, Place, Close, NackOpened}
use Rattle.rb_desk.specs.IsPicture.{IsPicture, IsGoodSubscription}
use Rattle.rb_desk.proofs.calls.CallCases.{either_case}
use Rattle.rb_desk.proofs.pictures.KeepCut.{one_in_batch}
use Rattle.rb_desk.proofs.pictures.PictureLaws.{all_mapped}
use Rattle.rb_desk.specs.FullSpans.{StartsUnsettled, all_unsettled, full_gone_back}
use Rattle.rb_desk.specs.FullSpans.{full_grown_spans, full_opened_spans, full_settled, full_with_status, full_raised}
use Rattle.rb_desk.specs.FullSpans.{unsettled_spans}
use Rattle.rb_desk.specs.FullPicture.{FullPicture, FullSubscription, unsettled_picture, unsettled_subscription}
use Rattle.rb_desk.specs.FullCalls as full
use Rattle.rb_desk.specs.FullPicture.{IsFullPicture, IsFullSubscription}
use Rattle.rb_desk.proofs.full.FullParts as part

module _ (x : FullPicture) (good : IsFullPicture x) (is : IsPicture (unsettled_picture x)) where
  abbrev found : ℕ → Option FullSubscription
  found s = slice_get x.subscriptions s

  its : (s : ℕ) (q : FullSubscription) → found s ≡ Some q → IsFullSubscription x.front q
  its s q here = all_get (IsFullSubscription x.front) x.subscriptions s q good here

  -- the subscription without its settled spans is a good one
  shown_good : (s : ℕ) (q : FullSubscription) → found s ≡ Some q
      → IsGoodSubscription (unsettled_picture x) (unsettled_subscription q)
  shown_good s q here =
      all_get (IsGoodSubscription (unsettled_picture x)) (unsettled_picture x).subscriptions s
      (unsettled_subscription q) is.good
      (slice_get-map unsettled_subscription x.subscriptions s ∙ ap (option_map unsettled_subscription) here)

  -- one subscription is replaced
  abbrev Kept : List FullSubscription → Type 0
  Kept = AllByRecursion (IsFullSubscription x.front)

  set_kept : (s : ℕ) (r : FullSubscription) → IsFullSubscription x.front r → Kept (slice_set x.subscriptions s r)
  set_kept s r = all_set (IsFullSubscription x.front) x.subscriptions s r good

  -- the test refuses the call, or the call goes on
  unless : {A : Type 0} (b : Bool) (why : DeskRefusal) (call : Result A DeskRefusal × FullPicture)
      → (b ≡ false → IsFullPicture call.1) → IsFullPicture (cond b (full.full_refused_call x why) call).1
  unless b why call goes =
      either_case (λ r. IsFullPicture r.1) b (full.full_refused_call x why) call (λ _. good) goes

  -- ---- one call after another

  cut_kept : (start link offered from : ℕ) → start ≤ x.front → IsFullSubscription x.front (record {
    start = from;
    floor = start;
    offered = offered;
    link = link;
    closed = false;
    spans = all_unsettled (cut_spans x.limits.batch (suc start) x.front);
  })
  cut_kept start link offered from le = record {
    has_none = λ closed. absurd (false≢true closed);
    parts = λ _. part.cut_part x.limits.batch (suc start) x.front (one_in_batch x.limits is.in_range)
        (omega (arith, le));
    starts = part.all_start (cut_spans x.limits.batch (suc start) x.front);
  }

  subscribe_keeps : (start : ℕ) → IsFullPicture (full.full_subscribe x start).1
  subscribe_keeps start =
      unless (nat_lt x.front start) _ _ (λ behind.
      unless (nat_le 1024 (length x.subscriptions)) _ _ (λ few.
      all_both (IsFullSubscription x.front) x.subscriptions _ good
      (cut_kept start x.next_link start start (ltb-false _ _ behind), tt)))

  delivered_keeps : (s : ℕ) (q : FullSubscription) (span : Span) (clock : ℕ) → found s ≡ Some q
      → IsFullPicture (full.full_delivered_picture x s q span clock)
  delivered_keeps s q span clock here =
      let was = its s q here in
      let status = InFlight x.next_delivery clock in
      set_kept s _ (record {
        has_none = λ closed. ap (full_with_status span.first status) (was.has_none closed);
        parts = λ runs. part.status_part (suc q.floor) x.front span.first status q.spans (was.parts runs);
        starts = part.status_starts span.first status q.spans was.starts;
      })

  take_keeps : (s link cursor now : ℕ) → IsFullPicture (full.full_take x s link cursor now).1
  take_keeps s link cursor now = by (found s) refl
    where
      span : (q : FullSubscription) → found s ≡ Some q → (o : Option Span)
          → IsFullPicture (full.full_delivered_span x s q cursor now o).1
      span q here None = good
      span q here (Some p) = delivered_keeps s q p (max x.clock now) here

      by : (o : Option FullSubscription) → found s ≡ o
          → IsFullPicture (full.full_delivered_from x s link cursor now o).1
      by None none = good
      by (Some q) here =
          unless (not (link == q.link)) _ _ (λ _.
          unless q.closed _ _ (λ _.
          unless (not (full.full_has_room x.limits.window q)) _ _ (λ _.
          span q here (first_ready (unsettled_spans q.spans)))))

  take_any_keeps : (now : ℕ) → IsFullPicture (full.full_take_any x now).1
  take_any_keeps now = by (find (full.full_has_window_room x) x.ready)
    where
      span : (s : ℕ) (q : FullSubscription) → found s ≡ Some q → (o : Option Span)
          → IsFullPicture (full.full_delivered_any_span x s q now o).1
      span s q here None = good
      span s q here (Some p) = delivered_keeps s q p (max x.clock now) here

      of : (s first : ℕ) (o : Option FullSubscription) → found s ≡ o
          → IsFullPicture (full.full_delivered_any_of x s first now o).1
      of s first None none = good
      of s first (Some q) here = span s q here (beginning first (unsettled_spans q.spans))

      by : (o : Option (ℕ × ℕ)) → IsFullPicture (full.full_delivered_any_from x now o).1
      by None = good
      by (Some at) = of at.0 at.1 (found at.0) refl

  in_flight_keeps : {A : Type 0} (s link number : ℕ)
      (on : FullSubscription → Option Span → Result A DeskRefusal × FullPicture)
      → ((q : FullSubscription) → found s ≡ Some q → (o : Option Span) → out_as number (unsettled_spans q.spans) ≡ o
      → IsFullPicture (on q o).1)
      → IsFullPicture (full.full_on_delivery x link number on (found s)).1
  in_flight_keeps {A} s link number on each = by (found s) refl
    where
      by : (o : Option FullSubscription) → found s ≡ o → IsFullPicture (full.full_on_delivery x link number on o).1
      by None none = good
      by (Some q) here =
          unless (not (link == q.link)) _ _ (λ _. each q here (out_as number (unsettled_spans q.spans)) refl)

  ack_keeps : (s link number cursor : ℕ) → IsFullPicture (full.full_ack x s link number cursor).1
  ack_keeps s link number cursor = in_flight_keeps s link number (λ q. full.full_acked_span x s q cursor) span
    where
      span : (q : FullSubscription) → found s ≡ Some q → (o : Option Span) → out_as number (unsettled_spans q.spans) ≡ o
          → IsFullPicture (full.full_acked_span x s q cursor o).1
      span q here None out = good
      span q here (Some p) out =
          let was = its s q here in
          unless (nat_lt cursor p.last) _ _ (λ _. set_kept s _ (record {
            has_none = λ closed. ap (λ xs. (full_raised q.floor (full_settled p.first xs)).1) (was.has_none closed);
            parts = λ runs. part.raised_part q.floor x.front (full_settled p.first q.spans)
                (part.settled_part (suc q.floor) x.front p.first q.spans (was.parts runs));
            starts = part.raised_starts q.floor (full_settled p.first q.spans);
          }))

  nack_keeps : (s link number : ℕ) → IsFullPicture (full.full_nack x s link number).1
  nack_keeps s link number = in_flight_keeps s link number (full.full_nacked_span x s) span
    where
      span : (q : FullSubscription) → found s ≡ Some q → (o : Option Span) → out_as number (unsettled_spans q.spans) ≡ o
          → IsFullPicture (full.full_nacked_span x s q o).1
      span q here None out = good
      span q here (Some p) out =
          let was = its s q here in
          set_kept s _ (record {
            has_none = λ closed. ap (full_with_status p.first (Ready true)) (was.has_none closed);
            parts = λ runs. part.status_part (suc q.floor) x.front p.first (Ready true) q.spans (was.parts runs);
            starts = part.status_starts p.first (Ready true) q.spans was.starts;
          })

  nack_opened_keeps : (s link number : ℕ) → IsFullPicture (full.full_nack_opened x s link number).1
  nack_opened_keeps s link number = in_flight_keeps s link number (full.full_opened_span x s) span
    where
      span : (q : FullSubscription) → found s ≡ Some q → (o : Option Span) → out_as number (unsettled_spans q.spans) ≡ o
          → IsFullPicture (full.full_opened_span x s q o).1
      span q here None out = good
      span q here (Some p) out =
          let was = its s q here in
          set_kept s _ (record {
            has_none = λ closed. ap (full_opened_spans p.first) (was.has_none closed);
            parts = λ runs. part.opened_part (suc q.floor) x.front p.first q.spans (was.parts runs);
            starts = starts was;
          })
        where
          starts : IsFullSubscription x.front q → StartsUnsettled (full_opened_spans p.first q.spans)
          starts was = by q.closed refl
            where
              by : (b : Bool) → q.closed ≡ b → StartsUnsettled (full_opened_spans p.first q.spans)
              by true closed = rw (was.has_none closed) tt
              by false runs = part.opened_starts (suc q.floor) x.front p.first q.spans (was.parts runs) was.starts

  expire_keeps : (now : ℕ) → IsFullPicture (full.full_expire x now).1
  expire_keeps now =
      all_mapped (IsFullSubscription x.front) (full.full_goes_back x.limits.timeout (max x.clock now)) x.subscriptions
      (all_then (IsFullSubscription x.front)
      (λ q. IsFullSubscription x.front (full.full_goes_back x.limits.timeout (max x.clock now) q)) x.subscriptions
      (λ q was. record {
        has_none = λ closed. ap (full_gone_back x.limits.timeout (max x.clock now)) (was.has_none closed);
        parts = λ runs. part.back_part (suc q.floor) x.front x.limits.timeout (max x.clock now) q.spans
            (was.parts runs);
        starts = part.back_starts x.limits.timeout (max x.clock now) q.spans was.starts;
      }) good)

  reconnect_keeps : (s cursor : ℕ) → IsFullPicture (full.full_reconnect x s cursor).1
  reconnect_keeps s cursor = by (found s) refl
    where
      by : (o : Option FullSubscription) → found s ≡ o → IsFullPicture (full.full_reconnected_by x s cursor o).1
      by None none = good
      by (Some q) here =
          unless q.closed _ _ (λ runs.
          unless (nat_lt cursor q.floor || nat_lt q.offered cursor) _ _ (λ fits.
          let high : cursor ≤ q.offered = ltb-false _ _
          (or_parts (nat_lt cursor q.floor) (nat_lt q.offered cursor) fits).1
          in
          set_kept s _ (subst (λ b. IsFullSubscription x.front (record q {
            floor = cursor;
            link = x.next_link;
            closed = b;
            spans = all_unsettled (cut_spans x.limits.batch (suc cursor) x.front);
          })) (sym runs)
          (cut_kept cursor x.next_link q.offered q.start (omega (arith, high, (shown_good s q here).placed))))))

  unsubscribe_keeps : (s link : ℕ) → IsFullPicture (full.full_unsubscribe x s link).1
  unsubscribe_keeps s link = by (found s) refl
    where
      by : (o : Option FullSubscription) → found s ≡ o → IsFullPicture (full.full_unsubscribed_by x s link o).1
      by None none = good
      by (Some q) here =
          unless (not (link == q.link)) _ _ (λ _.
          unless q.closed _ _ (λ _. set_kept s _ (record {
            has_none = λ _. refl;
            parts = λ runs. absurd (false≢true (sym runs));
            starts = tt;
          })))

  place_keeps : IsFullPicture (full.full_place x)
  place_keeps =
      all_mapped (IsFullSubscription (suc x.front))
      (full.full_grown_subscription x.limits.batch (suc x.front)) x.subscriptions
      (all_then (IsFullSubscription x.front)
      (λ q. IsFullSubscription (suc x.front) (full.full_grown_subscription x.limits.batch (suc x.front) q))
      x.subscriptions
      grows good)
    where
      grows : (q : FullSubscription) → IsFullSubscription x.front q
          → IsFullSubscription (suc x.front) (full.full_grown_subscription x.limits.batch (suc x.front) q)
      grows q was = by q.closed refl
        where
          by : (b : Bool) → q.closed ≡ b → IsFullSubscription (suc x.front)
              (cond b q (record q { spans = full_grown_spans x.limits.batch (suc x.front) q.spans }))
          by true closed = record {
            has_none = was.has_none;
            parts = λ runs. absurd (false≢true (sym runs ∙ closed));
            starts = was.starts;
          }
          by false runs = record {
            has_none = λ closed. absurd (false≢true (sym runs ∙ closed));
            parts = λ _. part.grown_part x.limits.batch (suc q.floor) x.front q.spans (was.parts runs);
            starts = part.grown_starts x.limits.batch (suc x.front) q.spans was.starts;
          }

  pub step_keeps : (step : Step) → IsFullPicture (full.full_after_step x step)
  step_keeps (Subscribe start) = subscribe_keeps start
  step_keeps (Take s link cursor now) = take_keeps s link cursor now
  step_keeps (TakeAny now) = take_any_keeps now
  step_keeps (Ack s link number cursor) = ack_keeps s link number cursor
  step_keeps (Nack s link number) = nack_keeps s link number
  step_keeps (NackOpened s link number) = nack_opened_keeps s link number
  step_keeps (Expire now) = expire_keeps now
  step_keeps (Reconnect s cursor) = reconnect_keeps s cursor
  step_keeps (Unsubscribe s link) = unsubscribe_keeps s link
  step_keeps Place = by (full.full_prepare x)
    where
      by : (r : Result ℕ DeskRefusal) → IsFullPicture (full.full_placed_if x r)
      by (Ok n) = place_keeps
      by (Err why) = good
  step_keeps Close = good
