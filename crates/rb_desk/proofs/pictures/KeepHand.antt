-- The invariant of a picture holds after a span is delivered: the laws of `take` and `take_any`.
use Rattle.std.proofs.Common.{◌≡◌, ℕ, suc, max, ◌+◌, ◌≤◌, Bool, true, false, cond, ◌==◌, List, [], ◌∷◌, ◌++◌, length}
use Rattle.std.proofs.Common.{Some, None, find, slice_get, slice_set, eq-eqb, ne_eqb, eqb-true, ltb-true, refl, sym, ap}
use Rattle.std.proofs.Common.{◌∙◌, ◌⊎◌, inl, inr, arith}
use Rattle.std.specs.List.{AllByRecursion}
use Rattle.std.proofs.lemmas.Bool.{false≢true, cases_eq}
use Rattle.rb_desk.proofs.pictures.PictureLaws.{out_of, out_set, spans_later, floors_set, changed_keeps}
use Rattle.rb_desk.proofs.pictures.PictureLaws.{links_as_before, count_cons, KeepsPicture, kept_same}
use Rattle.rb_deliveries.specs.declared.span.Span.{Span}
use Rattle.rb_deliveries.specs.declared.span.Status.{Status}
use Rattle.rb_deliveries.specs.declared.span.Status.TheVariants.{Ready, InFlight}
use Rattle.rb_deliveries.specs.Spans.{is_ready, is_out, is_out_as, beginning, how_many_out, with_status, SpansRise}
use Rattle.rb_desk.specs.Picture.{Picture}
use Rattle.rb_deliveries.specs.Picture.{Subscription}
use Rattle.rb_desk.specs.Calls.{delivered_picture, take, take_any, has_window_room}
use Rattle.rb_deliveries.specs.Changes.{has_room, is_span, without_span}
use Rattle.rb_desk.specs.IsPicture.{IsPicture, IsGoodSubscription, IsGoodSpan, how_often, one_if, span_there, out_in}
use Rattle.rb_desk.proofs.pictures.StandLaws.{own_name, found_good, open_rise, order_here, goes_others, goes_mine}
use Rattle.rb_desk.proofs.pictures.StandLaws.{comes_others, comes_mine}
use Rattle.rb_deliveries.proofs.pictures.OpenLaws.{ready_not_out}
use Rattle.rb_deliveries.proofs.orders.Line.{all_then, filter_none}
use Rattle.rb_desk.proofs.pictures.RiseLaws.{rise_ends, all_spans_found, found_passes, found_begins, restated_rise}
use Rattle.rb_desk.proofs.pictures.RiseLaws.{restated_count, restated_all, restated_floor, restated_in}
use Rattle.rb_desk.proofs.calls.CallCases.{LeavesPicture, take_case, take_any_case}

-- ---- which spans are out

-- a ready span isn't out as any delivery
pub ready_not_out_as : (d : ℕ) (status : Status) → is_ready status ≡ true → is_out_as d status ≡ false
ready_not_out_as d (Ready taken) is = refl
ready_not_out_as d (InFlight number moment) is = absurd (false≢true is)

-- no span is out as a delivery that wasn't given
not_out_as : (batch offered next d first last : ℕ) (status : Status) → next ≤ d
    → IsGoodSpan batch offered next (record { first = first; last = last; status = status }) → is_out_as d status
    ≡ false
not_out_as batch offered next d first last (Ready taken) le h = refl
not_out_as batch offered next d first last (InFlight number moment) le h =
    ne_eqb number d (omega (arith, le, h.handed_out.1))

pub out_none : (p : Picture) (d : ℕ) (subs : List Subscription) → p.next_delivery ≤ d
    → AllByRecursion (IsGoodSubscription p) subs → out_in d subs ≡ 0
out_none p d [] le h = refl
out_none p d (q ∷ subs) le h =
    let good = IsGoodSpan p.limits.batch q.offered p.next_delivery in
    let none : out_of d q ≡ 0 =
    ap length (filter_none (λ (x : Span). is_out_as d x.status) q.spans
    (all_then good (λ x. is_out_as d x.status ≡ false) q.spans
    (λ x is. not_out_as p.limits.batch q.offered p.next_delivery d x.first x.last x.status le is) h.0.good)) in
    omega (arith, none, out_none p d subs le h.1)

-- ---- handed over

module _ (p : Picture) (s : ℕ) (q : Subscription) (span : Span) (clock : ℕ) (good : IsPicture p)
    (here : slice_get p.subscriptions s ≡ Some q) (found : beginning span.first q.spans ≡ Some span)
    (ready : is_ready span.status ≡ true) where
  -- the subscription once the span was handed over
  abbrev with_one_out : Subscription
  with_one_out =
      record q {
        offered = max q.offered span.last;
        spans = with_status span.first (InFlight p.next_delivery clock)
            q.spans;
      }

  -- it was good, and its spans rise from its floor
  mine : IsGoodSubscription p q
  mine = found_good p s q here good

  rise : SpansRise (suc q.floor) q.spans p.front
  rise = open_rise p s q here good span span.first found

  -- one more is out
  out_more : how_many_out with_one_out.spans ≡ suc (how_many_out q.spans)
  out_more =
      let none : one_if (is_out span.status) ≡ 0 = ap one_if (ready_not_out span.status ready) in
      omega (
        arith,
        none,
        restated_count is_out (suc q.floor) p.front span.first (InFlight p.next_delivery clock)
            q.spans span rise found,
      )

  -- as the next delivery
  out_as_more : (d : ℕ) → out_in d (slice_set p.subscriptions s with_one_out) ≡ out_in d p.subscriptions
      + one_if (p.next_delivery == d)
  out_as_more d =
      let none : one_if (is_out_as d span.status) ≡ 0 = ap one_if (ready_not_out_as d span.status ready) in
      omega (
        arith,
        none,
        out_set d p.subscriptions s q with_one_out here,
        restated_count (is_out_as d) (suc q.floor) p.front span.first (InFlight p.next_delivery clock) q.spans span
            rise found,
      )

  -- no two spans are out as one delivery
  out_once : (d : ℕ) → out_in d (slice_set p.subscriptions s with_one_out) ≤ 1
  out_once d = by (cases_eq p.next_delivery d)
    where
      by : (p.next_delivery ≡ d) ⊎ (p.next_delivery ≡ d → ⊥) → out_in d (slice_set p.subscriptions s with_one_out) ≤ 1
      by (inl e) =
          let one : one_if (p.next_delivery == d) ≡ 1 = ap one_if (eq-eqb p.next_delivery d e) in
          omega (arith, one, out_as_more d, out_none p d p.subscriptions (omega (arith, e)) good.good)
      by (inr e) =
          let none : one_if (p.next_delivery == d) ≡ 0 = ap one_if (ne_eqb p.next_delivery d e) in
          omega (arith, none, out_as_more d, good.deliveries d)

  -- it is good
  handed_good : has_room p.limits.window q ≡ true → IsGoodSubscription (delivered_picture p s q span clock) with_one_out
  handed_good room =
      let number = p.next_delivery in
      let offered = max q.offered span.last in
      let is : IsGoodSpan p.limits.batch q.offered number span =
      all_spans_found (IsGoodSpan p.limits.batch q.offered number) (λ x. x.first == span.first) q.spans span mine.good
      found in
      let ends = all_spans_found (λ x. (x.first ≤ x.last) × (x.last ≤ p.front)) (λ x. x.first == span.first) q.spans span
      (rise_ends (suc q.floor) p.front q.spans rise) found in
      let out : IsGoodSpan p.limits.batch offered (suc number) (record span { status = InFlight number clock }) =
      record { short = is.short; handed_out = (λ e. omega arith, omega arith) } in
      record {
        begins = mine.begins;
        reaches = omega (arith, mine.reaches);
        placed = omega (arith, mine.placed, ends.1);
        linked = mine.linked;
        has_none = λ e. ap (with_status span.first (InFlight number clock)) (mine.has_none e);
        rise = λ e. restated_rise (suc q.floor) p.front span.first (InFlight number clock) q.spans rise;
        from_floor = λ e. mine.from_floor e
            ∙ sym (restated_floor span.first p.front (InFlight number clock) q.spans);
        never_delivered = λ e n less le. restated_in n span.first (InFlight number clock) q.spans
            (mine.never_delivered e n (omega (arith, less)) le);
        good = restated_all (IsGoodSpan p.limits.batch offered (suc number)) (suc q.floor) p.front span.first
            (InFlight number clock) q.spans span rise found out
            (spans_later p.limits.batch q.offered offered number (suc number) q.spans (omega arith) (omega arith)
            mine.good);
        few = omega (arith, out_more, ltb-true (how_many_out q.spans) p.limits.window room);
      }

  -- a picture is one after a ready span was handed over, where there is room
  handed_keeps : has_room p.limits.window q ≡ true → IsPicture (delivered_picture p s q span clock)
  handed_keeps room =
      let status : Status = InFlight p.next_delivery clock in
      changed_keeps p s q here with_one_out clock p.next_link (suc p.next_delivery) (without_span s span.first p.ready)
      (p.in_flight ++ (s, span.first) ∷ []) good (omega arith) (omega arith)
      (handed_good room)
      (links_as_before p s q here with_one_out good refl)
      out_once
      (goes_mine p s q here is_ready span status found p.ready refl (order_here p s q here is_ready p.ready good.ready))
      (goes_others p s q here is_ready span p.ready)
      (comes_mine p s q here is_out span status found p.in_flight (ready_not_out span.status ready) refl
      (order_here p s q here is_out p.in_flight good.out))
      (comes_others p s q here is_out span p.in_flight)

  -- and no floor falls
  pub handed_kept : has_room p.limits.window q ≡ true → KeepsPicture p (delivered_picture p s q span clock)
  handed_kept room = record {
    picture = handed_keeps room;
    floors = floors_set p (delivered_picture p s q span clock) s q with_one_out here refl (omega arith);
  }

-- ---- take

pub take_kept : (p : Picture) (s link cursor now : ℕ) → IsPicture p → KeepsPicture p (take p s link cursor now).1
take_kept p s link cursor now good =
    take_case (LeavesPicture (KeepsPicture p)) p s link cursor now (λ why. kept_same p good)
    (λ q span here runs room found. let rise = (found_good p s q here good).rise runs in
    handed_kept p s q span (max p.clock now) good here
    (found_begins (λ x. is_ready x.status) (suc q.floor) p.front q.spans span rise found)
    (found_passes (λ x. is_ready x.status) q.spans span found) room)

-- ---- take any

-- what is found in an order stands there, and passes
order_found : (test : ℕ × ℕ → Bool) (xs : List (ℕ × ℕ)) (at : ℕ × ℕ) → find test xs ≡ Some at → (test at ≡ true)
    × (1 ≤ how_often at.0 at.1 xs)
order_found test [] at found = absurd (let none : None ≡ Some at = found in cc)
order_found test (x ∷ xs) at found = by (test x) refl found (order_found test xs at)
  where
    by : (b : Bool) → test x ≡ b → cond b (Some x) (find test xs) ≡ Some at
        → (find test xs ≡ Some at → (test at ≡ true) × (1 ≤ how_often at.0 at.1 xs)) → (test at ≡ true)
        × (1 ≤ how_often at.0 at.1 (x ∷ xs))
    by true is here next =
        let e : x ≡ at = cc in
        let one : one_if (is_span at.0 at.1 x) ≡ 1 = ap one_if (ap (is_span at.0 at.1) e ∙ own_name at.0 at.1) in
        (ap test (sym e) ∙ is, omega (arith, one, count_cons (is_span at.0 at.1) x xs))
    by false is here next = let r = next here in (r.0, omega (arith, r.1, count_cons (is_span at.0 at.1) x xs))

-- where its subscription may go there is room
may_go_room : (p : Picture) (at : ℕ × ℕ) (q : Subscription) → slice_get p.subscriptions at.0 ≡ Some q → has_window_room p at
    ≡ has_room p.limits.window q
may_go_room p at q here = rw here refl

-- what stands there is ready
stands_ready : (status : Status) (n : ℕ) → 1 ≤ n → n ≡ one_if (is_ready status) → is_ready status ≡ true
stands_ready (Ready taken) n le e = refl
stands_ready (InFlight number moment) n le e = absurd (omega (arith, le, e))

pub take_any_kept : (p : Picture) (now : ℕ) → IsPicture p → KeepsPicture p (take_any p now).1
take_any_kept p now good =
    take_any_case (LeavesPicture (KeepsPicture p)) p now (λ why. kept_same p good)
    (λ at q span first here found.
    let stands = order_found (has_window_room p) p.ready at first in
    let its : span.first ≡ at.1 =
    eqb-true span.first at.1 (found_passes (λ x. x.first == at.1) q.spans span found) in
    let often : how_often at.0 at.1 p.ready ≡ one_if (is_ready span.status) =
    order_here p at.0 q here is_ready p.ready good.ready at.1 ∙ ap (span_there is_ready) found in
    handed_kept p at.0 q span (max p.clock now) good here (ap (λ n. beginning n q.spans) its ∙ found)
    (stands_ready span.status (how_often at.0 at.1 p.ready) stands.1 often)
    (sym (may_go_room p at q here) ∙ stands.0))
