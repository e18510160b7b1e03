-- The invariant of a picture holds after a subscription is made, continues after a cursor or is closed, and after the
-- sequence is closed.
use Rattle.std.proofs.Common.{◌≡◌, ℕ, zero, suc, ◌+◌, ◌-◌, ◌<◌, ◌≤◌, ne_eqb, eq-eqb, Bool, true, false, not, ◌&&◌, ◌==◌}
use Rattle.std.proofs.Common.{cond, ◌⊎◌, inl, inr, List, [], ◌∷◌, ◌++◌, length, Option, Some, None, IfSome, filter}
use Rattle.std.proofs.Common.{nat_le, slice_get, slice_set, append-nil, refl, sym, ap, ◌∙◌, subst, arith, length-append}
use Rattle.std.specs.List.{AllByRecursion}
use Rattle.std.proofs.lemmas.Bool.{false≢true, cases_lt, eqb-true, leb-true}
use Rattle.std.proofs.Math.Dec.{eqb-suc-suc}
use Rattle.rb_desk.specs.declared.config.ConfigFault.{ConfigFault}
use Rattle.rb_desk.specs.declared.config.ConfigFault.TheVariants.{Batch}
use Rattle.rb_deliveries.specs.declared.span.Span.{Span}
use Rattle.rb_deliveries.specs.declared.span.Status.{Status}
use Rattle.rb_desk.specs.Limits.{Limits}
use Rattle.rb_deliveries.specs.Spans.{fresh, cut_spans, is_ready, is_out, is_out_as, beginning, how_many_out, floor_of}
use Rattle.rb_deliveries.specs.Spans.{SpansRise}
use Rattle.rb_desk.specs.Picture.{Picture, empty_picture}
use Rattle.rb_deliveries.specs.Picture.{Subscription}
use Rattle.rb_desk.specs.Calls.{subscribe, subscribed_picture, reconnect, reconnected_picture, unsubscribe}
use Rattle.rb_desk.specs.Calls.{unsubscribed_picture, close, last_number}
use Rattle.rb_deliveries.specs.Changes.{named, without_subscription}
use Rattle.rb_desk.specs.IsPicture.{AreInRange, IsInSpan, IsGoodSpan, IsGoodSubscription, how_often, one_if, span_there}
use Rattle.rb_desk.specs.IsPicture.{stands_there, links_of, IsPicture}
use Rattle.rb_deliveries.proofs.spans.CutLaws.{CutIsFresh, cut_ends, cut_fresh, cut_induction}
use Rattle.rb_deliveries.proofs.spans.RisingLaws.{cut_rise}
use Rattle.rb_deliveries.proofs.orders.Line.{all_both, all_then, filter_none}
use Rattle.rb_deliveries.proofs.subs.KnownLaws.{all_get}
use Rattle.rb_desk.proofs.pictures.PictureLaws.{count_cons, often_append, often_without_all, often_named, links_none}
use Rattle.rb_desk.proofs.pictures.PictureLaws.{links_set, links_append, out_set, out_append, all_later, changed_keeps}
use Rattle.rb_desk.proofs.pictures.PictureLaws.{KeepsPicture, kept_same, NoFloorFalls, floors_set}
use Rattle.rb_desk.proofs.calls.CallCases.{LeavesPicture, either_way, subscribe_case, reconnect_case, unsubscribe_case}

-- ---- the picture before any call

-- it is one, where the limits are in their ranges
pub opening_keeps : (limits : Limits) → AreInRange limits → IsPicture (empty_picture limits)
opening_keeps limits h = record {
  in_range = h;
  within = omega arith;
  closed = tt;
  few = omega arith;
  good = tt;
  links = λ link. omega arith;
  deliveries = λ d. omega arith;
  ready = λ s first. refl;
  out = λ s first. refl;
}

-- a delivery may have a number
pub one_in_batch : (limits : Limits) → AreInRange limits → 1 ≤ limits.batch
one_in_batch limits h = leb-true 1 limits.batch (by (nat_le 1 limits.batch) (nat_le limits.batch 256) _ h)
  where
    by : (t u : Bool) (rest : Option ConfigFault) → cond (not (t && u)) (Some Batch) rest ≡ None → t ≡ true
    by true u rest is = refl
    by false u rest is = absurd (let none : Some Batch ≡ None = is in cc)

-- ---- a cutting

-- the first span begins where the cutting does, and each number that is cut is in one
pub cut_floor : (batch a b : ℕ) → 1 ≤ batch → a ≤ b → floor_of (cut_spans batch (suc a) b) b ≡ a
cut_floor batch a b one le =
    cut_induction batch b (λ low spans. low ≡ suc a → floor_of spans b ≡ a) one
    (λ low less is. omega (arith, less, is, le))
    (λ low more rest is. omega (arith, is))
    (suc b - suc a) (suc a) (omega arith) refl

pub cut_in : (batch a b n : ℕ) → 1 ≤ batch → a ≤ n → n ≤ b → IsInSpan n (cut_spans batch a b)
cut_in batch a b n one low high =
    cut_induction batch b (λ low spans. low ≤ n → IsInSpan n spans) one
    (λ low less le. absurd (omega (arith, less, le, high)))
    (λ low more rest le. by low (cut_spans batch (suc (cut_ends batch low b)) b) le rest
    (cases_lt (cut_ends batch low b) n))
    (suc b - a) a (omega arith) low
  where
    by : (from : ℕ) (spans : List Span) → from ≤ n → (suc (cut_ends batch from b) ≤ n → IsInSpan n spans)
        → (cut_ends batch from b < n) ⊎ (n ≤ cut_ends batch from b)
        → IsInSpan n (fresh from (cut_ends batch from b) ∷ spans)
    by from spans le rest (inl less) = inr (rest less)
    by from spans le rest (inr more) = inl (le, more)

-- each of them is good, whatever was offered or given
pub cut_good : (batch a b offered next : ℕ) → 1 ≤ batch
    → AllByRecursion (IsGoodSpan batch offered next) (cut_spans batch a b)
cut_good batch a b offered next one =
    cut_induction batch b (λ a spans. AllByRecursion (IsGoodSpan batch offered next) spans) one
    (λ a less. tt)
    (λ a le rest. (record { short = omega arith; handed_out = (λ taken. absurd (false≢true (sym taken)), tt) }, rest))
    (suc b - a) a (omega arith)

-- none of them is out
pub fresh_not_out : (spans : List Span) → AllByRecursion CutIsFresh spans
    → AllByRecursion (λ (p : Span). is_out p.status ≡ false) spans
fresh_not_out spans h = all_then CutIsFresh (λ (p : Span). is_out p.status ≡ false) spans (λ p is. ap is_out is) h

pub fresh_few : (spans : List Span) → AllByRecursion CutIsFresh spans → how_many_out spans ≡ 0
fresh_few spans h = ap length (filter_none (λ (p : Span). is_out p.status) spans (fresh_not_out spans h))

pub fresh_outs : (d : ℕ) (spans : List Span) → AllByRecursion CutIsFresh spans
    → length (filter (λ (p : Span). is_out_as d p.status) spans) ≡ 0
fresh_outs d spans h = ap length
    (filter_none (λ (p : Span). is_out_as d p.status) spans
    (all_then CutIsFresh (λ (p : Span). is_out_as d p.status ≡ false) spans (λ p is. ap (is_out_as d) is) h))

-- ---- the span that begins with a number

-- no span begins below the first number
pub begins_later : (low high : ℕ) (spans : List Span) (first : ℕ) → SpansRise low spans high → first < low
    → length (filter (λ (p : Span). p.first == first) spans) ≡ 0
begins_later low high [] first j less = refl
begins_later low high (p ∷ rest) first j less =
    let none = begins_later (suc p.last) high rest first j.2 (omega (arith, j.0, j.1, less)) in
    rw (count_cons (λ (p : Span). p.first == first) p rest, ne_eqb p.first first (omega (arith, j.0, less)), none) refl

-- of fresh spans in a row as many begin with a number as there is one that does
pub fresh_there : (low high : ℕ) (spans : List Span) (first : ℕ) → SpansRise low spans high
    → AllByRecursion CutIsFresh spans → length (filter (λ (p : Span). p.first == first) spans)
    ≡ span_there is_ready (beginning first spans)
fresh_there low high [] first j f = refl
fresh_there low high (p ∷ rest) first j f = count_cons (λ (p : Span). p.first == first) p rest
    ∙ by (p.first == first) refl (fresh_there (suc p.last) high rest first j.2 f.1)
  where
    by : (b : Bool) → (p.first == first) ≡ b → length (filter (λ (p : Span). p.first == first) rest)
        ≡ span_there is_ready (beginning first rest)
        → one_if b + length (filter (λ (p : Span). p.first == first) rest)
        ≡ span_there is_ready (cond b (Some p) (beginning first rest))
    by true is h = ap (λ n. 1 + n) (begins_later (suc p.last) high rest first j.2 (omega (arith, eqb-true _ _ is, j.1)))
        ∙ sym (ap (λ status. one_if (is_ready status)) f.0)
    by false is h = omega (arith, h)

-- where no span has a status there is none with it that begins with a number
pub none_there : (test : Status → Bool) (first : ℕ) (spans : List Span)
    → AllByRecursion (λ (p : Span). test p.status ≡ false) spans → span_there test (beginning first spans) ≡ 0
none_there test first [] h = refl
none_there test first (p ∷ rest) h = either_way (λ (o : Option Span). span_there test o ≡ 0) (p.first == first) (Some p)
    (beginning first rest) (ap one_if h.0) (none_there test first rest h.1)

-- ---- a subscription more

-- what stands there once a subscription is put behind all
pub stands_appended : (test : Status → Bool) (first : ℕ) (subs : List Subscription) (q : Subscription) (s : ℕ)
    → stands_there test first (slice_get (subs ++ q ∷ []) s) ≡ stands_there test first (slice_get subs s)
    + cond (length subs == s) (span_there test (beginning first q.spans)) 0
stands_appended test first [] q zero = omega arith
stands_appended test first [] q (suc s) = rw (ne_eqb zero (suc s) (omega arith)) refl
stands_appended test first (z ∷ subs) q zero = rw (ne_eqb (suc (length subs)) zero (omega arith)) (omega arith)
stands_appended test first (z ∷ subs) q (suc s) = rw (eqb-suc-suc (length subs) s) (stands_appended test first subs q s)

-- a new one behind a number that is placed
pub subscribed_keeps : (p : Picture) (start : ℕ) → IsPicture p → start ≤ p.front → length p.subscriptions < 1024
    → IsPicture (subscribed_picture p start (cut_spans p.limits.batch (suc start) p.front))
subscribed_keeps p start k behind room = record {
  in_range = k.in_range;
  within = k.within;
  closed = k.closed;
  few = omega (arith, room, length-append p.subscriptions (q ∷ []));
  good = all_both (IsGoodSubscription new) p.subscriptions (q ∷ [])
      (all_later p new p.subscriptions refl refl (omega arith) (omega arith) k.good) (mine, tt);
  links = λ link. rw (
    links_append link p.subscriptions (q ∷ []),
    count_cons (λ (x : Subscription). x.link == link) q
        [],
  ) (one_link link (p.next_link == link) refl);
  deliveries = λ d. rw (out_append d p.subscriptions (q ∷ []), fresh_outs d spans fresh)
      (omega (arith, k.deliveries d));
  ready = λ s first.
      often_append s first p.ready (named (length p.subscriptions) spans)
      ∙ (λ i. k.ready s first i + often_named (length p.subscriptions) s first spans i)
      ∙ ap (λ n. stands_there is_ready first (slice_get p.subscriptions s) + cond (length p.subscriptions == s) n 0)
      (fresh_there (suc start) p.front spans first rise fresh)
      ∙ sym (stands_appended is_ready first p.subscriptions q s);
  out = λ s first.
      k.out s first ∙ none_more (length p.subscriptions == s) (stands_there is_out first (slice_get p.subscriptions s))
      ∙ ap (λ n. stands_there is_out first (slice_get p.subscriptions s) + cond (length p.subscriptions == s) n 0)
      (sym (none_there is_out first spans (fresh_not_out spans fresh)))
      ∙ sym (stands_appended is_out first p.subscriptions q s);
}
  where
    spans : List Span
    spans = cut_spans p.limits.batch (suc start) p.front

    new : Picture
    new = subscribed_picture p start spans

    q : Subscription
    q = record { start = start; floor = start; offered = start; link = p.next_link; closed = false; spans = spans }

    fresh : AllByRecursion CutIsFresh spans
    fresh = cut_fresh p.limits.batch (suc start) p.front

    rise : SpansRise (suc start) spans p.front
    rise = cut_rise p.limits.batch (suc start) p.front (one_in_batch p.limits k.in_range) (omega arith)

    mine : IsGoodSubscription new q
    mine = record {
      begins = omega arith;
      reaches = omega arith;
      placed = behind;
      linked = omega arith;
      has_none = λ is. absurd (false≢true is);
      rise = λ running. rise;
      from_floor = λ running. sym (cut_floor p.limits.batch start p.front (one_in_batch p.limits k.in_range) behind);
      never_delivered = λ running n less le.
          cut_in p.limits.batch (suc start) p.front n (one_in_batch p.limits k.in_range) less le;
      good = cut_good p.limits.batch (suc start) p.front start p.next_delivery (one_in_batch p.limits k.in_range);
      few = omega (arith, fresh_few spans fresh);
    }

    one_link : (link : ℕ) (b : Bool) → (p.next_link == link) ≡ b → links_of link p.subscriptions + (one_if b + 0) ≤ 1
    one_link link true is = let none = links_none p link p.subscriptions (omega (arith, eqb-true _ _ is)) k.good in
        omega (arith, none)
    one_link link false is = omega (arith, k.links link)

    none_more : (b : Bool) (n : ℕ) → n ≡ n + cond b 0 0
    none_more true n = omega arith
    none_more false n = omega arith

-- what stands at a place stands there when more is put behind all
get_front : {A : Type 0} (xs ys : List A) (i : ℕ) (x : A) → slice_get xs i ≡ Some x → slice_get (xs ++ ys) i ≡ Some x
get_front [] ys i x h = absurd (let none : None ≡ Some x = h in cc)
get_front (z ∷ xs) ys zero x h = h
get_front (z ∷ xs) ys (suc i) x h = get_front xs ys i x h

-- a subscription more
floors_appended : (old new : Picture) (more : List Subscription) → new.subscriptions ≡ old.subscriptions ++ more
    → NoFloorFalls old new
floors_appended old new more is i a b h k =
    let both : Some a ≡ Some b = sym (get_front old.subscriptions more i a h) ∙ ap (λ subs. slice_get subs i) (sym is)
    ∙ k in
    let same : a ≡ b = cc in
    omega (arith, ap (λ (q : Subscription). q.floor) same)

-- whether it is made or refused
pub subscribe_kept : (p : Picture) (start : ℕ) → IsPicture p → KeepsPicture p (subscribe p start).1
subscribe_kept p start good =
    subscribe_case (LeavesPicture (KeepsPicture p)) p start (λ why. kept_same p good)
    (λ behind room. record {
      picture = subscribed_keeps p start good behind room;
      floors = floors_appended p (subscribed_picture p start (cut_spans p.limits.batch (suc start) p.front)) _ refl;
    })

-- ---- a subscription whose spans all go, and that has fresh ones in place of them

-- the picture then, with the next link as it is then
abbrev pub replaced : Picture → ℕ → Subscription → ℕ → List (ℕ × ℕ) → Picture
replaced p s q' link ready =
    record p {
      subscriptions = slice_set p.subscriptions s q';
      next_link = link;
      ready = ready;
      in_flight = without_subscription s p.in_flight;
    }

-- it is a picture where the subscription is a good one with its former link or one not given yet
pub replaced_keeps : (p : Picture) (s link low high : ℕ) (q q' : Subscription) → IsPicture p
    → slice_get p.subscriptions s ≡ Some q → p.next_link ≤ link → (q'.link ≡ q.link) ⊎ (p.next_link ≤ q'.link)
    → IsGoodSubscription (replaced p s q' link (without_subscription s p.ready ++ named s q'.spans)) q'
    → SpansRise low q'.spans high → AllByRecursion CutIsFresh q'.spans
    → IsPicture (replaced p s q' link (without_subscription s p.ready ++ named s q'.spans))
replaced_keeps p s link low high q q' k found le own mine rise fresh =
    changed_keeps p s q found q' p.clock link p.next_delivery (without_subscription s p.ready ++ named s q'.spans)
    (without_subscription s p.in_flight) k le (omega arith) mine
    (λ at. one_link at (links_of at (slice_set p.subscriptions s q')) own (links_set at p.subscriptions s q q' found))
    (λ d. omega (arith, out_set d p.subscriptions s q q' found, fresh_outs d q'.spans fresh, k.deliveries d))
    (λ first. stands s first ∙ (λ i. cond (eq-eqb s s refl i) 0 (how_often s first p.ready)
    + cond (eq-eqb s s refl i) (fresh_there low high q'.spans first rise fresh i) 0) ∙ omega arith)
    (λ t first other. stands t first
    ∙ (λ i. cond (ne_eqb t s other i) 0 (how_often t first p.ready)
    + cond (ne_eqb s t (λ e. other (sym e)) i) (begin first) 0) ∙ omega arith)
    (λ first. often_without_all s s first p.in_flight
    ∙ ap (λ b. cond b 0 (how_often s first p.in_flight)) (eq-eqb s s refl)
    ∙ sym (none_there is_out first q'.spans (fresh_not_out q'.spans fresh)))
    (λ t first other. often_without_all s t first p.in_flight
    ∙ ap (λ b. cond b 0 (how_often t first p.in_flight)) (ne_eqb t s other))
  where
    begin : ℕ → ℕ
    begin first = length (filter (λ (x : Span). x.first == first) q'.spans)

    stands : (t first : ℕ) → how_often t first (without_subscription s p.ready ++ named s q'.spans)
        ≡ cond (t == s) 0 (how_often t first p.ready) + cond (s == t) (begin first) 0
    stands t first = often_append t first (without_subscription s p.ready) (named s q'.spans)
        ∙ (λ i. often_without_all s t first p.ready i + often_named s t first q'.spans i)

    one_link : (at m : ℕ) → (q'.link ≡ q.link) ⊎ (p.next_link ≤ q'.link) → m + one_if (q.link == at)
        ≡ links_of at p.subscriptions + one_if (q'.link == at) → m ≤ 1
    one_link at m (inl same) h = let same_test : one_if (q'.link == at) ≡ one_if (q.link == at) =
        ap (λ l. one_if (l == at)) same in omega (arith, h, same_test, k.links at)
    one_link at m (inr later) h = by (q'.link == at) refl h
      where
        by : (b : Bool) → (q'.link == at) ≡ b → m + one_if (q.link == at) ≡ links_of at p.subscriptions + one_if b → m
            ≤ 1
        by true is h = let none = links_none p at p.subscriptions (omega (arith, eqb-true _ _ is, later)) k.good in
            omega (arith, h, none)
        by false is h = omega (arith, h, k.links at)

-- ---- behind a cursor

-- one that isn't closed goes on behind a cursor from its floor to what was offered
pub reconnected_keeps : (p : Picture) (s cursor : ℕ) (q : Subscription) → IsPicture p → slice_get p.subscriptions s
    ≡ Some q → q.closed ≡ false → q.floor ≤ cursor → cursor ≤ q.offered
    → IsPicture (reconnected_picture p s q cursor (cut_spans p.limits.batch (suc cursor) p.front))
reconnected_keeps p s cursor q k found running low high =
    replaced_keeps p s (suc p.next_link) (suc cursor) p.front q
    (record q { floor = cursor; link = p.next_link; spans = spans }) k found (omega arith) (inr (omega arith)) mine
    rise fresh
  where
    spans : List Span
    spans = cut_spans p.limits.batch (suc cursor) p.front

    was : IsGoodSubscription p q
    was = all_get (IsGoodSubscription p) p.subscriptions s q k.good found

    fresh : AllByRecursion CutIsFresh spans
    fresh = cut_fresh p.limits.batch (suc cursor) p.front

    rise : SpansRise (suc cursor) spans p.front
    rise = cut_rise p.limits.batch (suc cursor) p.front (one_in_batch p.limits k.in_range)
        (omega (arith, high, was.placed))

    mine : IsGoodSubscription (reconnected_picture p s q cursor spans)
        (record q { floor = cursor; link = p.next_link; spans = spans })
    mine = record {
      begins = omega (arith, was.begins, low);
      reaches = high;
      placed = was.placed;
      linked = omega arith;
      has_none = λ is. absurd (false≢true (sym running ∙ is));
      rise = λ _. rise;
      from_floor = λ _. sym (cut_floor p.limits.batch cursor p.front (one_in_batch p.limits k.in_range)
          (omega (arith, high, was.placed)));
      never_delivered = λ _ n less le. cut_in p.limits.batch (suc cursor) p.front n
          (one_in_batch p.limits k.in_range) (omega (arith, high, less)) le;
      good = cut_good p.limits.batch (suc cursor) p.front q.offered p.next_delivery (one_in_batch p.limits k.in_range);
      few = omega (arith, fresh_few spans fresh);
    }

-- or doesn't
pub reconnect_kept : (p : Picture) (s cursor : ℕ) → IsPicture p → KeepsPicture p (reconnect p s cursor).1
reconnect_kept p s cursor good =
    reconnect_case (LeavesPicture (KeepsPicture p)) p s cursor (λ why. kept_same p good)
    (λ q found running low high. record {
      picture = reconnected_keeps p s cursor q good found running low high;
      floors = floors_set p (reconnected_picture p s q cursor (cut_spans p.limits.batch (suc cursor) p.front)) s q _
          found refl low;
    })

-- ---- closed

-- one is closed
pub unsubscribed_keeps : (p : Picture) (s : ℕ) (q : Subscription) → IsPicture p → slice_get p.subscriptions s ≡ Some q
    → IsPicture (unsubscribed_picture p s q)
unsubscribed_keeps p s q k found =
    subst (λ ready. IsPicture (replaced p s q' p.next_link ready)) (append-nil (without_subscription s p.ready))
    (replaced_keeps p s p.next_link 1 0 q q' k found (omega arith) (inl refl) mine (omega arith) tt)
  where
    q' : Subscription
    q' = record q { closed = true; spans = [] }

    was : IsGoodSubscription p q
    was = all_get (IsGoodSubscription p) p.subscriptions s q k.good found

    mine : IsGoodSubscription (replaced p s q' p.next_link (without_subscription s p.ready ++ named s [])) q'
    mine = record {
      begins = was.begins;
      reaches = was.reaches;
      placed = was.placed;
      linked = was.linked;
      has_none = λ is. refl;
      rise = λ running. absurd (false≢true (sym running));
      from_floor = λ running. absurd (false≢true (sym running));
      never_delivered = λ running. absurd (false≢true (sym running));
      good = tt;
      few = omega arith;
    }

-- or isn't
pub unsubscribe_kept : (p : Picture) (s link : ℕ) → IsPicture p → KeepsPicture p (unsubscribe p s link).1
unsubscribe_kept p s link good =
    unsubscribe_case (LeavesPicture (KeepsPicture p)) p s link (λ why. kept_same p good)
    (λ q found running. record {
      picture = unsubscribed_keeps p s q good found;
      floors = floors_set p (unsubscribed_picture p s q) s q _ found refl (omega arith);
    })

-- the sequence is closed where its front is
pub keep_cut_close_keeps : (p : Picture) → IsPicture p → IsPicture (close p).1
unfolding close
keep_cut_close_keeps p k = record {
  in_range = k.in_range;
  within = k.within;
  closed = by p.closing k.closed;
  few = k.few;
  good = all_later p (record p { closing = Some (last_number p p.closing) }) p.subscriptions refl refl (omega arith)
      (omega arith) k.good;
  links = k.links;
  deliveries = k.deliveries;
  ready = k.ready;
  out = k.out;
}
  where
    by : (o : Option ℕ) → IfSome o (λ last. last ≡ p.front) → last_number p o ≡ p.front
    by None h = refl
    by (Some last) h = h
