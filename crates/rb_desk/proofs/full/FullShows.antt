-- The other calls answer the same on a full picture and on the picture without its settled spans, and leave pictures that
-- go together. So does each step.
use Rattle.std.proofs.Common.{◌≡◌, ℕ, suc, max, Bool, true, false, not, cond, ◌||◌, ◌==◌, List, []}
use Rattle.std.proofs.Common.{◌∷◌, ◌++◌, length, map, filter, Option, Some, None, option_map, Result, Ok, Err}
use Rattle.std.proofs.Common.{slice_get}
use Rattle.std.proofs.Common.{slice_set, nat_lt, refl, sym, ap, ◌∙◌}
use Rattle.std.specs.List.{AllByRecursion}
use Rattle.std.proofs.lemmas.Option.{slice_get-map}
use Rattle.rb_deliveries.specs.declared.span.Span.{Span}
use Rattle.rb_deliveries.specs.declared.span.Status.TheVariants.{Ready}
use Rattle.rb_deliveries.specs.Changes.{begun_spans, expires_of, goes_back, grown_subscription, is_due_of}
use Rattle.rb_deliveries.specs.Picture.{Subscription}
use Rattle.rb_deliveries.specs.Spans.{cut_spans, floor_of, grown_spans, last_takes, out_as}
use Rattle.rb_deliveries.specs.Spans.{span_length, without_first}
use Rattle.rb_deliveries.proofs.subs.KnownLaws.{all_get}
use Rattle.rb_desk.specs.declared.refusal.DeskRefusal.{DeskRefusal}
use Rattle.rb_desk.specs.declared.refusal.DeskRefusal.TheVariants as refusal
use Rattle.rb_desk.specs.declared.step.Step.{Step}
use Rattle.rb_desk.specs.declared.step.Step.TheVariants.{Subscribe, Take, TakeAny, Ack, Nack, Expire, Reconnect}
use Rattle.rb_desk.specs.declared.step.Step.TheVariants.{Unsubscribe, Place, Close, NackOpened}
use Rattle.rb_desk.specs.Calls.{ack, nack, nack_opened, expire, reconnect, unsubscribe}
use Rattle.rb_desk.specs.Calls.{prepare, place, close}
use Rattle.rb_desk.specs.Calls.{acked_by, acked_span, nacked_by}
use Rattle.rb_desk.specs.Calls.{nacked_span, opened_by, opened_span, reconnected_by, unsubscribed_by}
use Rattle.rb_desk.specs.Calls.{next_place, last_number}
use Rattle.rb_desk.specs.Picture.{Picture}
use Rattle.rb_desk.specs.Steps.{after_step, placed_if}
use Rattle.rb_desk.specs.FullSpans.{all_unsettled}
use Rattle.rb_desk.specs.FullSpans.{full_grown_spans, full_last_takes, full_opened_spans, full_settled}
use Rattle.rb_desk.specs.FullSpans.{full_with_status, full_raised, unsettled_spans}
use Rattle.rb_desk.specs.FullPicture.{FullPicture, FullSubscription, unsettled_picture, unsettled_subscription}
use Rattle.rb_desk.specs.FullCalls as full
use Rattle.rb_desk.specs.FullPicture.{IsFullPicture, IsFullSubscription}
use Rattle.rb_desk.proofs.full.FullUnsettled.{takes_same, unsettled_all, unsettled_back, unsettled_grown}
use Rattle.rb_desk.proofs.full.FullUnsettled.{unsettled_opened}
use Rattle.rb_desk.proofs.full.FullUnsettled.{unsettled_raised, unsettled_once_settled, unsettled_status}
use Rattle.rb_desk.proofs.full.FullParts.{raised_floor, settled_part}
use Rattle.rb_desk.proofs.full.FullTakes.{branches_shown, changed_shown, map_shown, shown_answer, subscribe_shown}
use Rattle.rb_desk.proofs.full.FullTakes.{take_any_shown, take_shown, with_subs}

module _ (x : FullPicture) (good : IsFullPicture x) where
  abbrev found : ℕ → Option FullSubscription
  found s = slice_get x.subscriptions s

  abbrev f : FullSubscription → Subscription
  f = unsettled_subscription

  its : (s : ℕ) (q : FullSubscription) → found s ≡ Some q → IsFullSubscription x.front q
  its s q here = all_get (IsFullSubscription x.front) x.subscriptions s q good here

  -- ---- ack, nack and nack_opened

  -- what `ack`, `nack` and `nack_opened` share: the subscription is found, then the span
  in_flight_shown : {A : Type 0} (s link number : ℕ) (by : Option Subscription → Result A DeskRefusal × Picture)
      (on : Subscription → Option Span → Result A DeskRefusal × Picture)
      (full_on : FullSubscription → Option Span → Result A DeskRefusal × FullPicture)
      → by None ≡ (Err refusal.NoSuch, unsettled_picture x)
      → ((q : Subscription) → by (Some q)
      ≡ cond (not (link == q.link)) (Err refusal.StaleLink, unsettled_picture x) (on q (out_as number q.spans)))
      → ((q : FullSubscription) → found s ≡ Some q → (o : Option Span) → out_as number (unsettled_spans q.spans) ≡ o
      → on (f q) o ≡ shown_answer (full_on q o))
      → by (slice_get (map f x.subscriptions) s) ≡ shown_answer (full.full_on_delivery x link number full_on (found s))
  in_flight_shown {A} s link number by on full_on none some each =
      ap by (slice_get-map f x.subscriptions s) ∙ of (found s) refl
    where
      of : (o : Option FullSubscription) → found s ≡ o
          → by (option_map f o) ≡ shown_answer (full.full_on_delivery x link number full_on o)
      of None h = none
      of (Some q) here =
          some (f q) ∙ branches_shown (not (link == q.link)) _ _ refl
          (each q here (out_as number (unsettled_spans q.spans)) refl)

  pub ack_shown : (s link number cursor : ℕ) → ack (unsettled_picture x) s link number cursor
      ≡ shown_answer (full.full_ack x s link number cursor)
  unfolding ack
  ack_shown s link number cursor =
      in_flight_shown s link number (acked_by (unsettled_picture x) s link number cursor)
      (λ q. acked_span (unsettled_picture x) s q cursor)
      (λ q. full.full_acked_span x s q cursor) refl (λ q. refl) span
    where
      runs : (q : FullSubscription) (p : Span) → IsFullSubscription x.front q
          → out_as number (unsettled_spans q.spans) ≡ Some p
          → q.closed ≡ false
      runs q p is out = by q.closed refl
        where
          by : (b : Bool) → q.closed ≡ b → q.closed ≡ false
          by true closed = absurd (
              let none : None ≡ Some p = ap (λ xs. out_as number (unsettled_spans xs)) (sym (is.has_none closed))
              ∙ out in cc)
          by false open_ = open_

      settled : (q : FullSubscription) (p : Span) → IsFullSubscription x.front q → q.closed ≡ false
          → (
            Ok (floor_of (without_first p.first (unsettled_spans q.spans)) x.front),
            with_subs (full.full_acked_picture x s q p.first (full_raised q.floor (full_settled p.first q.spans)))
                (slice_set (map f x.subscriptions) s (record (f q) {
                  floor = floor_of (without_first p.first (unsettled_spans q.spans)) x.front;
                  spans = without_first p.first (unsettled_spans q.spans);
                })),
          )
          ≡ shown_answer (
            Ok (full_raised q.floor (full_settled p.first q.spans)).0,
            full.full_acked_picture x s q p.first (full_raised q.floor (full_settled p.first q.spans)),
          )
      settled q p is open_ =
          let left = full_raised q.floor (full_settled p.first q.spans) in
          let spans : unsettled_spans left.1 ≡ without_first p.first (unsettled_spans q.spans) =
          unsettled_raised q.floor (full_settled p.first q.spans) ∙ unsettled_once_settled p.first q.spans in
          let floor : floor_of (without_first p.first (unsettled_spans q.spans)) x.front ≡ left.0 =
          ap (λ xs. floor_of xs x.front) (sym spans)
          ∙ raised_floor q.floor x.front (full_settled p.first q.spans)
          (settled_part (suc q.floor) x.front p.first q.spans (is.parts open_)) in
          ap (λ n. (
            Ok n,
            with_subs (full.full_acked_picture x s q p.first left)
                (slice_set (map f x.subscriptions) s (record (f q) {
                  floor = n;
                  spans = without_first p.first (unsettled_spans q.spans);
                })),
          )) floor
          ∙ ap (λ subs. (Ok left.0, with_subs (full.full_acked_picture x s q p.first left) subs))
          (changed_shown x.subscriptions s (record q { floor = left.0; spans = left.1 })
          (without_first p.first (unsettled_spans q.spans)) spans)

      span : (q : FullSubscription) → found s ≡ Some q → (o : Option Span) → out_as number (unsettled_spans q.spans) ≡ o
          → acked_span (unsettled_picture x) s (f q) cursor o ≡ shown_answer (full.full_acked_span x s q cursor o)
      span q here None out = refl
      span q here (Some p) out =
          branches_shown (nat_lt cursor p.last) _ _ refl (settled q p (its s q here) (runs q p (its s q here) out))

  pub nack_shown : (s link number : ℕ) → nack (unsettled_picture x) s link number
      ≡ shown_answer (full.full_nack x s link number)
  unfolding nack
  nack_shown s link number =
      in_flight_shown s link number (nacked_by (unsettled_picture x) s link number)
      (nacked_span (unsettled_picture x) s)
      (full.full_nacked_span x s) refl (λ q. refl) span
    where
      span : (q : FullSubscription) → found s ≡ Some q → (o : Option Span) → out_as number (unsettled_spans q.spans) ≡ o
          → nacked_span (unsettled_picture x) s (f q) o ≡ shown_answer (full.full_nacked_span x s q o)
      span q here None out = refl
      span q here (Some p) out =
          ap (λ subs. (Ok tt, with_subs (full.full_nacked_picture x s q p) subs))
          (changed_shown x.subscriptions s (record q { spans = full_with_status p.first (Ready true) q.spans }) _
          (unsettled_status p.first (Ready true) q.spans))

  pub nack_opened_shown : (s link number : ℕ) → nack_opened (unsettled_picture x) s link number
      ≡ shown_answer (full.full_nack_opened x s link number)
  unfolding nack_opened
  nack_opened_shown s link number =
      in_flight_shown s link number (opened_by (unsettled_picture x) s link number)
      (opened_span (unsettled_picture x) s)
      (full.full_opened_span x s) refl (λ q. refl) span
    where
      span : (q : FullSubscription) → found s ≡ Some q → (o : Option Span) → out_as number (unsettled_spans q.spans) ≡ o
          → opened_span (unsettled_picture x) s (f q) o ≡ shown_answer (full.full_opened_span x s q o)
      span q here None out = refl
      span q here (Some p) out =
          ap (λ subs. (Ok (span_length p), with_subs (full.full_opened_picture x s q p) subs))
          (changed_shown x.subscriptions s (record q { spans = full_opened_spans p.first q.spans }) _
          (unsettled_opened p.first q.spans))

  -- ---- expire

  due_shown : (clock : ℕ) → expires_of (map f x.subscriptions) x.limits.timeout clock ≡ full.full_expires_of x clock
  due_shown clock = (λ i at. (ap (is_due_of x.limits.timeout clock at.1) (slice_get-map f x.subscriptions at.0)
      ∙ same at.1 (slice_get x.subscriptions at.0)) i)
    where
      same : (first : ℕ) (o : Option FullSubscription) → is_due_of x.limits.timeout clock first (option_map f o)
          ≡ full.full_is_due_of x.limits.timeout clock first o
      same first None = refl
      same first (Some q) = refl

  pub expire_shown : (now : ℕ) → expire (unsettled_picture x) now
      ≡ ((full.full_expire x now).0, unsettled_picture (full.full_expire x now).1)
  unfolding expire
  expire_shown now =
      let clock = max x.clock now in
      let subs : map (goes_back x.limits.timeout clock) (map f x.subscriptions)
      ≡ map f (map (full.full_goes_back x.limits.timeout clock) x.subscriptions) =
      map_shown (goes_back x.limits.timeout clock) (full.full_goes_back x.limits.timeout clock)
      (IsFullSubscription x.front)
      (λ q is. ap (λ spans. record (f q) { spans = spans }) (sym (unsettled_back x.limits.timeout clock q.spans)))
      x.subscriptions good in
      (λ i. (
        length (filter (due_shown clock i) x.in_flight),
        record (with_subs (full.full_expired_picture x clock) (subs i)) {
          ready = x.ready ++ filter (due_shown clock i) x.in_flight;
          in_flight = filter (λ at. not (due_shown clock i at)) x.in_flight;
        },
      ))

  -- ---- reconnect and unsubscribe

  pub reconnect_shown : (s cursor : ℕ) → reconnect (unsettled_picture x) s cursor
      ≡ shown_answer (full.full_reconnect x s cursor)
  unfolding reconnect
  reconnect_shown s cursor = ap (reconnected_by (unsettled_picture x) s cursor) (slice_get-map f x.subscriptions s)
      ∙ by (found s)
    where
      spans : List Span
      spans = cut_spans x.limits.batch (suc cursor) x.front

      by : (o : Option FullSubscription) → reconnected_by (unsettled_picture x) s cursor (option_map f o)
          ≡ shown_answer (full.full_reconnected_by x s cursor o)
      by None = refl
      by (Some q) =
          branches_shown q.closed _ _ refl
          (branches_shown (nat_lt cursor q.floor || nat_lt q.offered cursor) _ _ refl
          (ap (λ subs. (Ok x.next_link, with_subs (full.full_reconnected_picture x s q cursor spans) subs))
          (changed_shown x.subscriptions s
          (record q { floor = cursor; link = x.next_link; spans = all_unsettled spans }) _ (unsettled_all spans))))

  pub unsubscribe_shown : (s link : ℕ) → unsubscribe (unsettled_picture x) s link
      ≡ shown_answer (full.full_unsubscribe x s link)
  unfolding unsubscribe
  unsubscribe_shown s link = ap (unsubscribed_by (unsettled_picture x) s link) (slice_get-map f x.subscriptions s)
      ∙ by (found s)
    where
      by : (o : Option FullSubscription) → unsubscribed_by (unsettled_picture x) s link (option_map f o)
          ≡ shown_answer (full.full_unsubscribed_by x s link o)
      by None = refl
      by (Some q) =
          branches_shown (not (link == q.link)) _ _ refl
          (branches_shown q.closed _ _ refl
          (ap (λ subs. (Ok tt, with_subs (full.full_unsubscribed_picture x s q) subs))
          (changed_shown x.subscriptions s (record q { closed = true; spans = [] }) _ refl)))

  -- ---- prepare, place and close

  pub prepare_shown : prepare (unsettled_picture x) ≡ full.full_prepare x
  unfolding prepare
  prepare_shown = by x.closing
    where
      by : (o : Option ℕ) → next_place (unsettled_picture x) o ≡ full.full_next_place x o
      by None = refl
      by (Some last) = refl

  grown_shown : (q : FullSubscription) → IsFullSubscription x.front q
      → grown_subscription x.limits.batch (suc x.front) (f q)
      ≡ f (full.full_grown_subscription x.limits.batch (suc x.front) q)
  grown_shown q is = by q.closed refl
    where
      by : (b : Bool) → q.closed ≡ b
          → cond b (f q) (record (f q) { spans = grown_spans x.limits.batch (suc x.front) (unsettled_spans q.spans) })
          ≡ f (cond b q (record q { spans = full_grown_spans x.limits.batch (suc x.front) q.spans }))
      by true closed = refl
      by false open_ = ap (λ spans. record (f q) { spans = spans })
          (sym (unsettled_grown x.limits.batch (suc q.floor) x.front q.spans (is.parts open_)))

  begun_shown : (s : ℕ) (subs : List FullSubscription) → AllByRecursion (IsFullSubscription x.front) subs
      → begun_spans x.limits.batch (suc x.front) s (map f subs)
      ≡ full.full_begun_spans x.limits.batch (suc x.front) s subs
  begun_shown s [] all = refl
  begun_shown s (q ∷ subs) all =
      (λ i. cond (takes q all.0 i) (begun_shown (suc s) subs all.1 i)
      ((s, suc x.front) ∷ begun_shown (suc s) subs all.1 i))
    where
      takes : (q : FullSubscription) → IsFullSubscription x.front q
          → (q.closed || last_takes x.limits.batch (suc x.front) (unsettled_spans q.spans))
          ≡ (q.closed || full_last_takes x.limits.batch q.spans)
      takes q is = by q.closed refl
        where
          by : (b : Bool) → q.closed ≡ b → (b || last_takes x.limits.batch (suc x.front) (unsettled_spans q.spans))
              ≡ (b || full_last_takes x.limits.batch q.spans)
          by true closed = refl
          by false open_ = sym (takes_same x.limits.batch (suc q.floor) x.front q.spans (is.parts open_))

  pub place_shown : place (unsettled_picture x) ≡ unsettled_picture (full.full_place x)
  unfolding place
  place_shown =
      (λ i. record (unsettled_picture (full.full_place x)) {
        subscriptions = map_shown (grown_subscription x.limits.batch (suc x.front))
            (full.full_grown_subscription x.limits.batch (suc x.front))
            (IsFullSubscription x.front) grown_shown x.subscriptions
            good i;
        ready = x.ready ++ begun_shown 0 x.subscriptions good i;
      })

  pub close_shown : close (unsettled_picture x) ≡ ((full.full_close x).0, unsettled_picture (full.full_close x).1)
  unfolding close
  close_shown = ap (λ n. (n, record (unsettled_picture x) { closing = Some n })) (by x.closing)
    where
      by : (o : Option ℕ) → last_number (unsettled_picture x) o ≡ full.full_last_number x o
      by None = refl
      by (Some last) = refl

  -- ---- each step

  pub step_shown : (step : Step) → after_step (unsettled_picture x) step
      ≡ unsettled_picture (full.full_after_step x step)
  unfolding after_step
  step_shown (Subscribe start) = ap (λ r. r.1) (subscribe_shown x good start)
  step_shown (Take s link cursor now) = ap (λ r. r.1) (take_shown x good s link cursor now)
  step_shown (TakeAny now) = ap (λ r. r.1) (take_any_shown x good now)
  step_shown (Ack s link number cursor) = ap (λ r. r.1) (ack_shown s link number cursor)
  step_shown (Nack s link number) = ap (λ r. r.1) (nack_shown s link number)
  step_shown (NackOpened s link number) = ap (λ r. r.1) (nack_opened_shown s link number)
  step_shown (Expire now) = ap (λ r. r.1) (expire_shown now)
  step_shown (Reconnect s cursor) = ap (λ r. r.1) (reconnect_shown s cursor)
  step_shown (Unsubscribe s link) = ap (λ r. r.1) (unsubscribe_shown s link)
  step_shown Place = ap (placed_if (unsettled_picture x)) prepare_shown ∙ by (full.full_prepare x)
    where
      by : (r : Result ℕ DeskRefusal) → placed_if (unsettled_picture x) r ≡ unsettled_picture (full.full_placed_if x r)
      by (Ok n) = place_shown
      by (Err why) = refl
  step_shown Close = ap (λ r. r.1) close_shown
