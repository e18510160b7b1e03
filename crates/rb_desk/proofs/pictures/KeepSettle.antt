-- The invariant of a picture holds after a span is returned or settled: the laws of `nack` and `ack`.
use Rattle.std.proofs.Common.{◌≡◌, ℕ, suc, ◌<◌, ◌≤◌, Bool, true, false, List, [], ◌∷◌, ◌++◌, length, Some, None, filter}
use Rattle.std.proofs.Common.{refl, sym, ap, ◌∙◌, ◌⊎◌, inl, inr, arith, ◌+◌}
use Rattle.std.proofs.lemmas.Bool.{false≢true, cases_eq}
use Rattle.rb_desk.proofs.pictures.PictureLaws.{out_set, floors_set, changed_keeps, links_as_before, KeepsPicture}
use Rattle.rb_desk.proofs.pictures.PictureLaws.{kept_same}
use Rattle.rb_deliveries.specs.declared.span.Span.{Span}
use Rattle.rb_deliveries.specs.declared.span.Status.{Status}
use Rattle.rb_deliveries.specs.declared.span.Status.TheVariants.{Ready}
use Rattle.rb_deliveries.specs.Spans.{is_ready, is_out, is_out_as, beginning, SpansRise, with_status, without_first}
use Rattle.rb_deliveries.specs.Spans.{floor_of}
use Rattle.rb_desk.specs.Picture.{Picture}
use Rattle.rb_deliveries.specs.Picture.{Subscription}
use Rattle.rb_desk.specs.Calls.{nacked_picture, settled_span, nack, ack}
use Rattle.rb_deliveries.specs.Changes.{without_span}
use Rattle.rb_desk.specs.IsPicture.{IsPicture, IsGoodSubscription, IsGoodSpan, IsInSpan, span_there, one_if}
use Rattle.rb_deliveries.proofs.pictures.OpenLaws.{out_not_ready}
use Rattle.rb_desk.proofs.pictures.StandLaws.{order_here, goes_others, goes_away, goes_mine, comes_others, comes_mine}
use Rattle.rb_desk.proofs.pictures.RiseLaws.{restated_rise, restated_floor, restated_in, restated_count, restated_all}
use Rattle.rb_desk.proofs.pictures.RiseLaws.{floor_up, floor_rise, floor_offered, without_rise, without_all, without_in}
use Rattle.rb_desk.proofs.pictures.RiseLaws.{without_there, without_other, without_count}
use Rattle.rb_desk.proofs.calls.CallCases.{LeavesPicture, ack_case, nack_case}
use Rattle.rb_desk.proofs.pictures.OutSpans.{IsOutSpan, found_out, TakesPlace, respanned_kept}

-- where a span that doesn't pass a test is removed, the span that begins with a number passes as before
pub without_same : (test : Status → Bool) (n : ℕ) (spans : List Span) (span : Span)
    → beginning span.first spans ≡ Some span → test span.status ≡ false
    → span_there test (beginning n (without_first span.first spans)) ≡ span_there test (beginning n spans)
without_same test n spans span found none = by (cases_eq n span.first)
  where
    by : (n ≡ span.first) ⊎ (n ≡ span.first → ⊥) → span_there test (beginning n (without_first span.first spans))
        ≡ span_there test (beginning n spans)
    by (inl e) = rw (e, without_there span.first spans, found, none) refl
    by (inr e) = ap (span_there test) (without_other n span.first spans e)

module _ (p : Picture) (s : ℕ) (q : Subscription) (span : Span) (good : IsPicture p) (o : IsOutSpan p s q span) where
  -- ---- it goes back

  abbrev spans_back : List Span
  spans_back = with_status span.first (Ready true) q.spans

  back_count : (test : Status → Bool) → length (filter (λ (x : Span). test x.status) spans_back)
      + one_if (test span.status) ≡ length (filter (λ (x : Span). test x.status) q.spans) + one_if (test (Ready true))
  back_count test = restated_count test (suc q.floor) p.front span.first (Ready true) q.spans span o.rise o.found

  back_takes_place : TakesPlace p q spans_back
  back_takes_place = record {
    has_none = ap (with_status span.first (Ready true));
    rise = restated_rise (suc q.floor) p.front span.first (Ready true) q.spans o.rise;
    from_floor = restated_floor span.first p.front (Ready true) q.spans;
    has = λ n. restated_in n span.first (Ready true) q.spans;
    good = restated_all (IsGoodSpan p.limits.batch q.offered p.next_delivery) (suc q.floor) p.front span.first
        (Ready true) q.spans span o.rise o.found (record { short = o.was.short; handed_out = (λ e. o.offered, tt) })
        o.sub.good;
    few = omega (arith, back_count is_out);
    few_as = λ d. omega (arith, back_count (is_out_as d));
  }

  -- a picture is one after a span that is out went back, and no floor falls
  pub given_back_kept : KeepsPicture p (nacked_picture p s q span)
  given_back_kept = respanned_kept p s q span spans_back (p.ready ++ (s, span.first) ∷ []) good o back_takes_place
      (comes_mine p s q o.here is_ready span (Ready true) o.found p.ready (out_not_ready span.status o.out) refl
      (order_here p s q o.here is_ready p.ready good.ready))
      (comes_others p s q o.here is_ready span p.ready)
      (goes_mine p s q o.here is_out span (Ready true) o.found p.in_flight refl
      (order_here p s q o.here is_out p.in_flight good.out))

  -- ---- it is settled

  -- the other spans, and the subscription with them
  abbrev others : List Span
  others = without_first span.first q.spans

  abbrev with_one_settled : Subscription
  with_one_settled = record q { floor = floor_of others p.front; spans = others }

  -- it isn't closed, since it has a span
  is_open : q.closed ≡ false
  is_open = by q.closed refl
    where
      by : (b : Bool) → q.closed ≡ b → q.closed ≡ false
      by true is = absurd (
          let none : None ≡ Some span = ap (beginning span.first) (sym (o.sub.has_none is)) ∙ o.found in cc)
      by false is = is

  -- they rise, and each number that was never delivered is in one
  others_rise : SpansRise (suc q.floor) others p.front
  others_rise = without_rise (suc q.floor) p.front span.first q.spans o.rise

  others_in : (n : ℕ) → q.offered < n → n ≤ p.front → IsInSpan n others
  others_in n less le = without_in n (suc q.floor) p.front span.first q.spans span o.rise o.found
      (omega (arith, o.offered, less)) (o.sub.never_delivered is_open n less le)

  -- no more are out, and none that wasn't is out as a delivery
  others_out : (test : Status → Bool) → length (filter (λ (x : Span). test x.status) others)
      ≤ length (filter (λ (x : Span). test x.status) q.spans)
  others_out test = omega (arith, without_count test (suc q.floor) p.front span.first q.spans span o.rise o.found)

  -- the floor doesn't fall
  settled_up : q.floor ≤ floor_of others p.front
  settled_up = floor_up q.floor p.front others others_rise

  -- the subscription is good
  settled_good : IsGoodSubscription (settled_span p s q span.first others).1 with_one_settled
  settled_good = record {
    begins = omega (arith, o.sub.begins, settled_up);
    reaches = floor_offered q.floor q.offered p.front others others_rise o.sub.placed others_in;
    placed = o.sub.placed;
    linked = o.sub.linked;
    has_none = λ e. absurd (false≢true (sym is_open ∙ e));
    rise = λ e. floor_rise q.floor p.front others others_rise;
    from_floor = λ e. refl;
    never_delivered = λ e. others_in;
    good = without_all (IsGoodSpan p.limits.batch q.offered p.next_delivery) span.first q.spans o.sub.good;
    few = omega (arith, o.sub.few, others_out is_out);
  }

  -- a picture is one after a span that is out was settled
  settled_keeps : IsPicture (settled_span p s q span.first others).1
  settled_keeps =
      changed_keeps p s q o.here with_one_settled p.clock p.next_link p.next_delivery p.ready
      (without_span s span.first p.in_flight) good (omega arith) (omega arith)
      settled_good
      (links_as_before p s q o.here with_one_settled good refl)
      (λ d. omega (
        arith,
        others_out (is_out_as d),
        good.deliveries d,
        out_set d p.subscriptions s q with_one_settled o.here,
      ))
      (λ first. order_here p s q o.here is_ready p.ready good.ready first
      ∙ sym (without_same is_ready first q.spans span o.found (out_not_ready span.status o.out)))
      (λ t first other. refl)
      (goes_away p s q o.here is_out span p.in_flight others
      (ap (span_there is_out) (without_there span.first q.spans))
      (λ first other. ap (span_there is_out) (without_other first span.first q.spans other))
      (order_here p s q o.here is_out p.in_flight good.out))
      (goes_others p s q o.here is_out span p.in_flight)

  -- and no floor falls
  pub settled_kept : KeepsPicture p (settled_span p s q span.first others).1
  settled_kept = record {
    picture = settled_keeps;
    floors = floors_set p (settled_span p s q span.first others).1 s q with_one_settled o.here refl settled_up;
  }

-- ---- the calls

pub nack_kept : (p : Picture) (s link number : ℕ) → IsPicture p → KeepsPicture p (nack p s link number).1
nack_kept p s link number good =
    nack_case (LeavesPicture (KeepsPicture p)) p s link number (λ why. kept_same p good)
    (λ q span here is. given_back_kept p s q span good (found_out p s number q span good here is))

pub ack_kept : (p : Picture) (s link number cursor : ℕ) → IsPicture p → KeepsPicture p (ack p s link number cursor).1
ack_kept p s link number cursor good =
    ack_case (LeavesPicture (KeepsPicture p)) p s link number cursor (λ why. kept_same p good)
    (λ q span here is. settled_kept p s q span good (found_out p s number q span good here is))
