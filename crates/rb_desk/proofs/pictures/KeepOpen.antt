-- The invariant of a picture holds after a span is opened: the laws of `nack_opened`.
use Rattle.std.proofs.Common.{◌≡◌, ℕ, suc, ◌+◌, ◌≤◌, cond, ◌==◌, List, ◌++◌, eq-eqb, ne_eqb, refl, sym, ap, ◌∙◌, arith}
use Rattle.rb_deliveries.specs.declared.span.Span.{Span}
use Rattle.rb_deliveries.specs.Spans.{is_ready, is_out, is_out_as, beginning, opened_spans, single_span, singles}
use Rattle.rb_deliveries.specs.Spans.{span_length}
use Rattle.rb_desk.specs.Picture.{Picture}
use Rattle.rb_deliveries.specs.Picture.{Subscription}
use Rattle.rb_desk.specs.Calls.{opened_picture, nack_opened}
use Rattle.rb_deliveries.specs.Changes.{named}
use Rattle.rb_desk.specs.IsPicture.{IsPicture, IsGoodSpan, how_often, span_there}
use Rattle.rb_deliveries.proofs.pictures.OpenLaws.{out_not_ready}
use Rattle.rb_desk.proofs.pictures.PictureLaws.{often_append, often_named, KeepsPicture, kept_same}
use Rattle.rb_desk.proofs.pictures.StandLaws.{order_here, goes_away}
use Rattle.rb_desk.proofs.pictures.OpenedLaws.{how_many_begin, opened_rise, opened_floor, opened_in, opened_all}
use Rattle.rb_desk.proofs.pictures.OpenedLaws.{opened_count, opened_comes, opened_goes, opened_other}
use Rattle.rb_desk.proofs.calls.CallCases.{LeavesPicture, nack_opened_case}
use Rattle.rb_desk.proofs.pictures.OutSpans.{IsOutSpan, found_out, TakesPlace, respanned_kept}

module _ (p : Picture) (s : ℕ) (q : Subscription) (span : Span) (good : IsPicture p) (o : IsOutSpan p s q span) where
  -- each of its numbers, alone, is a good span
  good_alone : (k : ℕ) → span.first ≤ k → k ≤ span.last
      → IsGoodSpan p.limits.batch q.offered p.next_delivery (single_span k)
  good_alone k from to = record {
    short = omega (arith, o.was.short, from, to);
    handed_out = (λ taken. omega (arith, o.offered, to), tt);
  }

  -- the spans once it is opened
  abbrev spans_opened : List Span
  spans_opened = opened_spans span.first q.spans

  opened_takes_place : TakesPlace p q spans_opened
  opened_takes_place = record {
    has_none = ap (opened_spans span.first);
    rise = opened_rise p.front span (suc q.floor) q.spans o.rise o.found;
    from_floor = opened_floor p.front span (suc q.floor) q.spans o.rise o.found;
    has = opened_in p.front span (suc q.floor) q.spans o.rise o.found;
    good = opened_all p.front span (suc q.floor) q.spans o.rise o.found
        (IsGoodSpan p.limits.batch q.offered p.next_delivery) good_alone o.sub.good;
    few = omega (arith, opened_count p.front span (suc q.floor) q.spans o.rise o.found is_out refl);
    few_as = λ d. omega (arith, opened_count p.front span (suc q.floor) q.spans o.rise o.found (is_out_as d) refl);
  }

  -- the opened numbers come to the end of the ready order, and nothing else does
  abbrev names : List (ℕ × ℕ)
  names = named s (singles span.first (span_length span))

  stands : (t k : ℕ) → how_often t k (p.ready ++ names)
      ≡ how_often t k p.ready + cond (s == t) (how_many_begin k (singles span.first (span_length span))) 0
  stands t k =
      often_append t k p.ready names
      ∙ ap (λ n. how_often t k p.ready + n) (often_named s t k (singles span.first (span_length span)))

  comes_opened : (k : ℕ) → how_often s k (p.ready ++ names) ≡ span_there is_ready (beginning k spans_opened)
  comes_opened k =
      stands s k
      ∙ (λ i. order_here p s q o.here is_ready p.ready good.ready k i
      + cond (eq-eqb s s refl i) (how_many_begin k (singles span.first (span_length span))) 0)
      ∙ sym (opened_comes p.front span (suc q.floor) q.spans o.rise o.found is_ready (out_not_ready span.status o.out)
      refl k)

  comes_no_other : (t k : ℕ) → (t ≡ s → ⊥) → how_often t k (p.ready ++ names) ≡ how_often t k p.ready
  comes_no_other t k other =
      stands t k
      ∙ ap (λ b. how_often t k p.ready + cond b (how_many_begin k (singles span.first (span_length span))) 0)
      (ne_eqb s t (λ e. other (sym e)))
      ∙ omega arith

  -- a picture is one after a span that is out is opened, and no floor falls
  pub opened_kept : KeepsPicture p (opened_picture p s q span)
  opened_kept = respanned_kept p s q span spans_opened (p.ready ++ names) good o opened_takes_place comes_opened
      comes_no_other
      (goes_away p s q o.here is_out span p.in_flight spans_opened
      (opened_goes p.front span (suc q.floor) q.spans o.rise o.found is_out refl)
      (opened_other p.front span (suc q.floor) q.spans o.rise o.found is_out refl)
      (order_here p s q o.here is_out p.in_flight good.out))

pub nack_opened_kept : (p : Picture) (s link number : ℕ) → IsPicture p → KeepsPicture p (nack_opened p s link number).1
nack_opened_kept p s link number good =
    nack_opened_case (LeavesPicture (KeepsPicture p)) p s link number (λ why. kept_same p good)
    (λ q span here is. opened_kept p s q span good (found_out p s number q span good here is))
