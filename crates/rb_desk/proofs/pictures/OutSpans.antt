-- A span that is out: what the invariant of a picture says of it and of its subscription, and what it takes that the
-- invariant holds when other spans take the place of the subscription's.
use Rattle.std.proofs.Common.{◌≡◌, ℕ, suc, ◌≤◌, Bool, true, false, ◌==◌, Some, None, slice_get, refl, sym, ap, ◌∙◌}
use Rattle.std.proofs.Common.{List, [], slice_set, arith}
use Rattle.std.proofs.lemmas.Bool.{false≢true}
use Rattle.rb_deliveries.specs.declared.span.Span.{Span}
use Rattle.rb_deliveries.specs.declared.span.Status.{Status}
use Rattle.rb_deliveries.specs.declared.span.Status.TheVariants.{Ready, InFlight}
use Rattle.rb_deliveries.specs.Picture.{Subscription}
use Rattle.rb_deliveries.specs.Spans.{is_out, is_out_as, is_fresh, beginning, out_as, SpansRise, is_ready, how_many_out}
use Rattle.rb_deliveries.specs.Spans.{floor_of}
use Rattle.rb_desk.specs.Picture.{Picture}
use Rattle.rb_desk.specs.IsPicture.{IsPicture, IsGoodSubscription, IsGoodSpan, IsInSpan, how_often, span_there}
use Rattle.rb_desk.proofs.pictures.RiseLaws.{all_spans_found, found_passes, found_begins}
use Rattle.rb_desk.proofs.pictures.StandLaws.{found_good, open_rise, goes_others}
use Rattle.std.specs.List.{AllByRecursion}
use Rattle.rb_deliveries.specs.Changes.{without_span}
use Rattle.rb_desk.proofs.pictures.PictureLaws.{KeepsPicture, changed_keeps, links_as_before, out_of, out_set}
use Rattle.rb_desk.proofs.pictures.PictureLaws.{floors_set}

-- its subscription is good, with spans that rise from its floor; the span is good too, and was offered
pub record IsOutSpan (p : Picture) (s : ℕ) (q : Subscription) (span : Span) : Type 0 where
  pub here : slice_get p.subscriptions s ≡ Some q
  pub found : beginning span.first q.spans ≡ Some span
  pub out : is_out span.status ≡ true
  pub sub : IsGoodSubscription p q
  pub rise : SpansRise (suc q.floor) q.spans p.front
  pub was : IsGoodSpan p.limits.batch q.offered p.next_delivery span
  pub offered : span.last ≤ q.offered

-- a span that is out was taken before
out_not_fresh : (status : Status) → is_out status ≡ true → is_fresh status ≡ false
out_not_fresh (Ready taken) is = absurd (false≢true is)
out_not_fresh (InFlight number moment) is = refl

-- what is out as a delivery is out
as_is_out : (d : ℕ) (status : Status) → is_out_as d status ≡ true → is_out status ≡ true
as_is_out d (Ready taken) is = is
as_is_out d (InFlight number moment) is = refl

-- what is found as a delivery is out, and is the one that begins with its first number
pub found_out : (p : Picture) (s d : ℕ) (q : Subscription) (span : Span) → IsPicture p
    → slice_get p.subscriptions s ≡ Some q → out_as d q.spans ≡ Some span → IsOutSpan p s q span
found_out p s d q span good here is = record {
  here = here;
  found = found;
  out = out;
  sub = mine;
  rise = open_rise p s q here good span span.first found;
  was = was;
  offered = was.handed_out.0 (out_not_fresh span.status out);
}
  where
    mine : IsGoodSubscription p q
    mine = found_good p s q here good

    by : (b : Bool) → q.closed ≡ b → beginning span.first q.spans ≡ Some span
    by true closed = absurd (let none : None ≡ Some span = ap (out_as d) (sym (mine.has_none closed)) ∙ is in cc)
    by false runs = found_begins (λ x. is_out_as d x.status) (suc q.floor) p.front q.spans span (mine.rise runs) is

    found : beginning span.first q.spans ≡ Some span
    found = by q.closed refl

    out : is_out span.status ≡ true
    out = as_is_out d span.status (found_passes (λ x. is_out_as d x.status) q.spans span is)

    was : IsGoodSpan p.limits.batch q.offered p.next_delivery span
    was = all_spans_found (IsGoodSpan p.limits.batch q.offered p.next_delivery) (λ x. x.first == span.first) q.spans
        span mine.good found

-- ---- other spans in their place

-- what holds of the subscription's spans holds of these, and no more of them are out
pub record TakesPlace (p : Picture) (q : Subscription) (spans : List Span) : Type 0 where
  pub has_none : q.spans ≡ [] → spans ≡ []
  pub rise : SpansRise (suc q.floor) spans p.front
  pub from_floor : floor_of spans p.front ≡ floor_of q.spans p.front
  pub has : (n : ℕ) → IsInSpan n q.spans → IsInSpan n spans
  pub good : AllByRecursion (IsGoodSpan p.limits.batch q.offered p.next_delivery) spans
  pub few : how_many_out spans ≤ how_many_out q.spans
  pub few_as : (d : ℕ) → out_of d (record q { spans = spans }) ≤ out_of d q

-- the span isn't out any more, and the ready order is right of these
pub respanned_kept : (p : Picture) (s : ℕ) (q : Subscription) (span : Span) (spans : List Span) (ready : List (ℕ × ℕ))
    → IsPicture p → IsOutSpan p s q span → TakesPlace p q spans
    → ((first : ℕ) → how_often s first ready ≡ span_there is_ready (beginning first spans))
    → ((t first : ℕ) → (t ≡ s → ⊥) → how_often t first ready ≡ how_often t first p.ready)
    → ((first : ℕ) → how_often s first (without_span s span.first p.in_flight)
    ≡ span_there is_out (beginning first spans))
    → KeepsPicture p (record p {
      subscriptions = slice_set p.subscriptions s (record q { spans = spans });
      ready = ready;
      in_flight = without_span s span.first p.in_flight;
    })
respanned_kept p s q span spans ready good o new mine others gone = record {
  picture = changed_keeps p s q o.here r p.clock p.next_link p.next_delivery ready
      (without_span s span.first p.in_flight) good (omega arith) (omega arith) good_still
      (links_as_before p s q o.here r good refl)
      (λ d. omega (arith, new.few_as d, good.deliveries d, out_set d p.subscriptions s q r o.here))
      mine others gone (goes_others p s q o.here is_out span p.in_flight);
  floors = floors_set p later s q r o.here refl (omega arith);
}
  where
    r : Subscription
    r = record q { spans = spans }

    later : Picture
    later = record p {
      subscriptions = slice_set p.subscriptions s r;
      ready = ready;
      in_flight = without_span s span.first p.in_flight;
    }

    good_still : IsGoodSubscription later r
    good_still = record {
      begins = o.sub.begins;
      reaches = o.sub.reaches;
      placed = o.sub.placed;
      linked = o.sub.linked;
      has_none = λ e. new.has_none (o.sub.has_none e);
      rise = λ e. new.rise;
      from_floor = λ e. o.sub.from_floor e ∙ sym new.from_floor;
      never_delivered = λ e n less le. new.has n (o.sub.never_delivered e n less le);
      good = new.good;
      few = omega (arith, o.sub.few, new.few);
    }
