-- The invariant of a picture holds after a number is placed.
use Rattle.std.proofs.Common.{◌≡◌, ℕ, zero, suc, ◌+◌, ◌-◌, ◌<◌, ◌≤◌, ◌⊎◌, inl, inr, ne_eqb, eq-eqb, Bool, true, false}
use Rattle.std.proofs.Common.{◌&&◌, ◌||◌, ◌==◌, cond, List, [], ◌∷◌, ◌++◌, length, map, Option, Some, None, option_map}
use Rattle.std.proofs.Common.{IfSome, Result, Ok, IsOk, filter, nat_lt, slice_get, refl, sym, ap, ◌∙◌, subst, arith}
use Rattle.std.specs.List.{AllByRecursion}
use Rattle.std.proofs.lemmas.Bool.{false≢true, cases_lt, eqb-true, ltb-true}
use Rattle.std.proofs.lemmas.Option.{slice_get-map}
use Rattle.std.proofs.lemmas.List.{length-map}
use Rattle.rb_desk.specs.declared.refusal.DeskRefusal.{DeskRefusal}
use Rattle.rb_deliveries.specs.declared.span.Span.{Span}
use Rattle.rb_deliveries.specs.declared.span.Status.{Status}
use Rattle.rb_deliveries.specs.declared.span.Status.TheVariants.{Ready}
use Rattle.rb_deliveries.specs.Spans.{fresh, is_ready, is_fresh, is_out, is_out_as, beginning, last_takes, last_with}
use Rattle.rb_deliveries.specs.Spans.{SpansRise}
use Rattle.rb_deliveries.specs.Spans.{grown_spans, floor_of}
use Rattle.rb_desk.specs.Picture.{Picture}
use Rattle.rb_deliveries.specs.Picture.{Subscription}
use Rattle.rb_desk.specs.Calls.{prepare, place}
use Rattle.rb_deliveries.specs.Changes.{is_span, grown_subscription, begun_spans}
use Rattle.rb_desk.specs.IsPicture.{IsInSpan, IsGoodSpan, IsGoodSubscription, how_often, one_if}
use Rattle.rb_desk.specs.IsPicture.{span_there, stands_there, links_of, out_in, IsPicture}
use Rattle.rb_desk.proofs.calls.CallLaws.{may_place}
use Rattle.rb_deliveries.proofs.orders.Line.{all_both, all_then}
use Rattle.rb_deliveries.proofs.subs.KnownLaws.{all_get}
use Rattle.rb_desk.proofs.pictures.PictureLaws.{all_mapped, count_cons, count_append, often_append, out_of}
use Rattle.rb_desk.proofs.pictures.KeepCut.{one_in_batch}
use Rattle.rb_desk.proofs.calls.CallCases.{either_case, either_way}
use Rattle.rb_desk.proofs.pictures.RiseLaws.{rise_reach}

-- ---- the numbers of spans

-- the last span takes the next number
rise_with : (low front : ℕ) (spans : List Span) → SpansRise low spans front
    → SpansRise low (last_with (suc front) spans) (suc front)
rise_with low front [] j = omega (arith, j)
rise_with low front (p ∷ []) j = (j.0, omega (arith, j.1, j.2), omega arith)
rise_with low front (p ∷ q ∷ rest) j = (j.0, j.1, rise_with (suc p.last) front (q ∷ rest) j.2)

-- or it begins a new one
rise_more : (low front : ℕ) (spans : List Span) → SpansRise low spans front
    → SpansRise low (spans ++ fresh (suc front) (suc front) ∷ []) (suc front)
rise_more low front [] j = (j, omega arith, omega arith)
rise_more low front (p ∷ rest) j = (j.0, j.1, rise_more (suc p.last) front rest j.2)

-- so grown spans rise up to it
pub grown_rise : (batch low front : ℕ) (spans : List Span) → SpansRise low spans front
    → SpansRise low (grown_spans batch (suc front) spans) (suc front)
grown_rise batch low front spans j =
    either_way (λ xs. SpansRise low xs (suc front)) (last_takes batch (suc front) spans) (last_with (suc front) spans)
    (spans ++ fresh (suc front) (suc front) ∷ []) (rise_with low front spans j) (rise_more low front spans j)

-- the first one begins where it did, or with the number behind the front
floor_with : (n front : ℕ) (spans : List Span) → floor_of (last_with n spans) front ≡ floor_of spans front
floor_with n front [] = refl
floor_with n front (p ∷ []) = refl
floor_with n front (p ∷ q ∷ rest) = refl

floor_more : (front : ℕ) (spans : List Span)
    → floor_of (spans ++ fresh (suc front) (suc front) ∷ []) (suc front) ≡ floor_of spans front
floor_more front [] = omega arith
floor_more front (p ∷ rest) = refl

-- where the last one takes a number there is one, whose first number begins all the same
floor_takes : (batch n front later : ℕ) (spans : List Span) → last_takes batch n spans ≡ true
    → floor_of spans later ≡ floor_of spans front
floor_takes batch n front later [] takes = absurd (false≢true takes)
floor_takes batch n front later (p ∷ rest) takes = refl

pub grown_floor : (batch front : ℕ) (spans : List Span)
    → floor_of (grown_spans batch (suc front) spans) (suc front) ≡ floor_of spans front
grown_floor batch front spans =
    either_case (λ xs. floor_of xs (suc front) ≡ floor_of spans front) (last_takes batch (suc front) spans)
    (last_with (suc front) spans) (spans ++ fresh (suc front) (suc front) ∷ [])
    (λ takes. floor_with (suc front) (suc front) spans ∙ floor_takes batch (suc front) front (suc front) spans takes)
    (λ full. floor_more front spans)

-- a number is in one where it was, and the next number is in the last one
in_with : (n low front : ℕ) (spans : List Span) → SpansRise low spans front → IsInSpan n spans
    → IsInSpan n (last_with (suc front) spans)
in_with n low front [] j i = i
in_with n low front (p ∷ []) j (inl here) = inl (here.0, omega (arith, here.1, j.2))
in_with n low front (p ∷ []) j (inr there) = absurd there
in_with n low front (p ∷ q ∷ rest) j (inl here) = inl here
in_with n low front (p ∷ q ∷ rest) j (inr there) = inr (in_with n (suc p.last) front (q ∷ rest) j.2 there)

in_more : (n : ℕ) (spans more : List Span) → IsInSpan n spans → IsInSpan n (spans ++ more)
in_more n [] more i = absurd i
in_more n (p ∷ rest) more (inl here) = inl here
in_more n (p ∷ rest) more (inr there) = inr (in_more n rest more there)

next_with : (batch low front : ℕ) (spans : List Span) → last_takes batch (suc front) spans ≡ true
    → SpansRise low spans front → IsInSpan (suc front) (last_with (suc front) spans)
next_with batch low front [] takes j = absurd (false≢true takes)
next_with batch low front (p ∷ []) takes j = inl (omega (arith, j.1, j.2), omega arith)
next_with batch low front (p ∷ q ∷ rest) takes j = inr (next_with batch (suc p.last) front (q ∷ rest) takes j.2)

next_more : (n : ℕ) (spans : List Span) → IsInSpan n (spans ++ fresh n n ∷ [])
next_more n [] = inl (omega arith, omega arith)
next_more n (p ∷ rest) = inr (next_more n rest)

pub grown_in : (batch low front n : ℕ) (spans : List Span) → SpansRise low spans front → n ≤ suc front
    → (n ≤ front → IsInSpan n spans) → IsInSpan n (grown_spans batch (suc front) spans)
grown_in batch low front n spans j le was =
    either_case (IsInSpan n) (last_takes batch (suc front) spans) (last_with (suc front) spans)
    (spans ++ fresh (suc front) (suc front) ∷ []) (λ takes. longer takes (cases_lt front n))
    (λ full. more (cases_lt front n))
  where
    longer : last_takes batch (suc front) spans ≡ true → (front < n) ⊎ (n ≤ front)
        → IsInSpan n (last_with (suc front) spans)
    longer takes (inl less) = let e : suc front ≡ n = omega (arith, less, le) in
        subst (λ m. IsInSpan m (last_with (suc front) spans)) e (next_with batch low front spans takes j)
    longer takes (inr before) = in_with n low front spans j (was before)

    more : (front < n) ⊎ (n ≤ front) → IsInSpan n (spans ++ fresh (suc front) (suc front) ∷ [])
    more (inl less) = let e : suc front ≡ n = omega (arith, less, le) in
        subst (λ m. IsInSpan m (spans ++ fresh (suc front) (suc front) ∷ [])) e (next_more (suc front) spans)
    more (inr before) = in_more n spans (fresh (suc front) (suc front) ∷ []) (was before)

-- ---- good spans

both_true : (a b : Bool) → (a && b) ≡ true → (a ≡ true) × (b ≡ true)
both_true true true h = (refl, refl)
both_true true false h = absurd (false≢true h)
both_true false b h = absurd (false≢true h)

good_with : (batch offered next low front : ℕ) (spans : List Span) → last_takes batch (suc front) spans ≡ true
    → SpansRise low spans front → AllByRecursion (IsGoodSpan batch offered next) spans
    → AllByRecursion (IsGoodSpan batch offered next) (last_with (suc front) spans)
good_with batch offered next low front [] takes j g = tt
good_with batch offered next low front (p ∷ []) takes j g =
    let t = both_true (is_fresh p.status) ((suc p.last == suc front) && nat_lt (suc p.last - p.first) batch) takes in
    let u = both_true (suc p.last == suc front) (nat_lt (suc p.last - p.first) batch) t.1 in
    let less : suc p.last - p.first < batch = ltb-true _ _ u.1 in
    let ends : suc p.last ≡ suc front = eqb-true _ _ u.0 in (
      record {
        short = omega (arith, less, ends, j.1);
        handed_out = (λ taken. absurd (false≢true (sym taken ∙ t.0)), g.0.handed_out.1);
      },
      tt,
    )
good_with batch offered next low front (p ∷ q ∷ rest) takes j g =
    (g.0, good_with batch offered next (suc p.last) front (q ∷ rest) takes j.2 g.1)

-- grown spans are good
pub grown_good : (batch offered next low front : ℕ) (spans : List Span) → 1 ≤ batch → SpansRise low spans front
    → AllByRecursion (IsGoodSpan batch offered next) spans
    → AllByRecursion (IsGoodSpan batch offered next) (grown_spans batch (suc front) spans)
grown_good batch offered next low front spans one j g =
    either_case (AllByRecursion (IsGoodSpan batch offered next)) (last_takes batch (suc front) spans)
    (last_with (suc front) spans) (spans ++ fresh (suc front) (suc front) ∷ [])
    (λ takes. good_with batch offered next low front spans takes j g)
    (λ full. all_both (IsGoodSpan batch offered next) spans (fresh (suc front) (suc front) ∷ []) g
    (record { short = omega (arith, one); handed_out = (λ taken. absurd (false≢true (sym taken)), tt) }, tt))

-- ---- how many have a status

module _ (test : Status → Bool) where
  -- how many spans have it
  abbrev having : List Span → ℕ
  having spans = length (filter (λ (p : Span). test p.status) spans)

  having_with : (n : ℕ) (spans : List Span) → having (last_with n spans) ≡ having spans
  having_with n [] = refl
  having_with n (p ∷ []) = count_cons (λ (p : Span). test p.status) (record p { last = n }) []
      ∙ sym (count_cons (λ (p : Span). test p.status) p [])
  having_with n (p ∷ q ∷ rest) =
      count_cons (λ (p : Span). test p.status) p (last_with n (q ∷ rest))
      ∙ ap (λ m. one_if (test p.status) + m) (having_with n (q ∷ rest))
      ∙ sym (count_cons (λ (p : Span). test p.status) p (q ∷ rest))

  -- as many as before, where fresh ones don't
  pub grown_having : (batch n : ℕ) (spans : List Span) → test (Ready false) ≡ false → having (grown_spans batch n spans)
      ≡ having spans
  grown_having batch n spans h =
      either_way (λ xs. having xs ≡ having spans) (last_takes batch n spans) (last_with n spans)
      (spans ++ fresh n n ∷ [])
      (having_with n spans)
      (count_append (λ (p : Span). test p.status) spans (fresh n n ∷ [])
      ∙ (let none : having (fresh n n ∷ []) ≡ 0 = ap (λ b. length (cond b (fresh n n ∷ []) [])) h in
      omega (arith, none)))

  -- the span that begins with a number has it as before
  there_with : (n first : ℕ) (spans : List Span) → span_there test (beginning first (last_with n spans))
      ≡ span_there test (beginning first spans)
  there_with n first [] = refl
  there_with n first (p ∷ []) = by (p.first == first)
    where
      by : (b : Bool) → span_there test (cond b (Some (record p { last = n })) None)
          ≡ span_there test (cond b (Some p) None)
      by true = refl
      by false = refl
  there_with n first (p ∷ q ∷ rest) = by (p.first == first) (there_with n first (q ∷ rest))
    where
      by : (b : Bool) → span_there test (beginning first (last_with n (q ∷ rest)))
          ≡ span_there test (beginning first (q ∷ rest))
          → span_there test (cond b (Some p) (beginning first (last_with n (q ∷ rest))))
          ≡ span_there test (cond b (Some p) (beginning first (q ∷ rest)))
      by true h = refl
      by false h = h

  -- the new span has it where fresh ones do
  there_more : (n first low high : ℕ) (spans : List Span) → SpansRise low spans high → high < n
      → span_there test (beginning first (spans ++ fresh n n ∷ [])) ≡ span_there test (beginning first spans)
      + cond (n == first) (one_if (test (Ready false))) 0
  there_more n first low high [] j less = by (n == first)
    where
      by : (b : Bool) → span_there test (cond b (Some (fresh n n)) None) ≡ 0 + cond b (one_if (test (Ready false))) 0
      by true = omega arith
      by false = omega arith
  there_more n first low high (p ∷ rest) j less =
      by (p.first == first) refl (there_more n first (suc p.last) high rest j.2 less)
    where
      by : (b : Bool) → (p.first == first) ≡ b → span_there test (beginning first (rest ++ fresh n n ∷ []))
          ≡ span_there test (beginning first rest) + cond (n == first) (one_if (test (Ready false))) 0
          → span_there test (cond b (Some p) (beginning first (rest ++ fresh n n ∷ [])))
          ≡ span_there test (cond b (Some p) (beginning first rest))
          + cond (n == first) (one_if (test (Ready false))) 0
      by true is h =
          rw (ne_eqb n first (omega (arith, eqb-true _ _ is, j.1, less, rise_reach (suc p.last) high rest j.2)))
          (omega arith)
      by false is h = h

  -- so it has it in what a subscription becomes as before, or it is the new one
  pub grows_there : (p : Picture) (q : Subscription) (batch first : ℕ) → IsGoodSubscription p q
      → span_there test (beginning first (grown_subscription batch (suc p.front) q).spans)
      ≡ span_there test (beginning first q.spans)
      + cond (q.closed || last_takes batch (suc p.front) q.spans) 0
      (cond (suc p.front == first) (one_if (test (Ready false))) 0)
  grows_there p q batch first g = by q.closed (last_takes batch (suc p.front) q.spans) g.rise
    where
      by : (b c : Bool) → (b ≡ false → SpansRise (suc q.floor) q.spans p.front)
          → span_there test
          (beginning first
          (cond b q
          (record q {
            spans = cond c (last_with (suc p.front) q.spans)
                (q.spans ++ fresh (suc p.front) (suc p.front) ∷ []);
          })).spans)
          ≡ span_there test (beginning first q.spans)
          + cond (b || c) 0 (cond (suc p.front == first) (one_if (test (Ready false))) 0)
      by true c rise = omega arith
      by false true rise = let same = there_with (suc p.front) first q.spans in omega (arith, same)
      by false false rise = there_more (suc p.front) first (suc q.floor) p.front q.spans (rise refl) (omega arith)

-- ---- the spans that begin

-- whether a subscription begins one, with this number
abbrev begins_one : ℕ → ℕ → ℕ → Option Subscription → ℕ
begins_one batch n first None = 0
begins_one batch n first (Some q) = cond (q.closed || last_takes batch n q.spans) 0 (cond (n == first) 1 0)

module _ (batch n s first : ℕ) where
  begun_cons : (k : ℕ) (q : Subscription) (subs : List Subscription)
      → how_often s first (begun_spans batch n k (q ∷ subs))
      ≡ cond (q.closed || last_takes batch n q.spans) 0 (one_if ((k == s) && (n == first)))
      + how_often s first (begun_spans batch n (suc k) subs)
  begun_cons k q subs = by (q.closed || last_takes batch n q.spans)
    where
      by : (b : Bool) → how_often s first
          (cond b (begun_spans batch n (suc k) subs) ((k, n) ∷ begun_spans batch n (suc k) subs))
          ≡ cond b 0 (one_if ((k == s) && (n == first))) + how_often s first (begun_spans batch n (suc k) subs)
      by true = omega arith
      by false = count_cons (is_span s first) (k, n) (begun_spans batch n (suc k) subs)

  none_of : (b c : Bool) → cond b 0 (one_if (false && c)) ≡ 0
  none_of true c = refl
  none_of false c = refl

  -- a subscription ahead begins none
  begun_ahead : (k : ℕ) (subs : List Subscription) → s < k → how_often s first (begun_spans batch n k subs) ≡ 0
  begun_ahead k [] less = refl
  begun_ahead k (q ∷ subs) less =
      begun_cons k q subs
      ∙ (λ i. cond (q.closed || last_takes batch n q.spans) 0
      (one_if (ne_eqb k s (omega (arith, less)) i && (n == first)))
      + begun_ahead (suc k) subs (omega (arith, less)) i)
      ∙ ap (λ m. m + 0) (none_of (q.closed || last_takes batch n q.spans) (n == first))

  -- each begins its own
  begun_own : (k i : ℕ) (subs : List Subscription) → s ≡ k + i → how_often s first (begun_spans batch n k subs)
      ≡ begins_one batch n first (slice_get subs i)
  begun_own k i [] is = refl
  begun_own k zero (q ∷ subs) is =
      begun_cons k q subs
      ∙ (λ i. cond (q.closed || last_takes batch n q.spans) 0
      (one_if (eq-eqb k s (omega (arith, is)) i && (n == first)))
      + begun_ahead (suc k) subs (omega (arith, is)) i)
      ∙ by (q.closed || last_takes batch n q.spans) (n == first)
    where
      by : (b c : Bool) → cond b 0 (one_if (true && c)) + 0 ≡ cond b 0 (cond c 1 0)
      by true c = refl
      by false true = refl
      by false false = refl
  begun_own k (suc j) (q ∷ subs) is =
      begun_cons k q subs
      ∙ (λ i. cond (q.closed || last_takes batch n q.spans) 0
      (one_if (ne_eqb k s (omega (arith, is)) i && (n == first)))
      + begun_own (suc k) j subs (omega (arith, is)) i)
      ∙ ap (λ m. m + begins_one batch n first (slice_get subs j))
      (none_of (q.closed || last_takes batch n q.spans) (n == first))
      ∙ omega arith

-- ---- all subscriptions

-- each becomes another with the same link
pub links_mapped : (f : Subscription → Subscription) (link : ℕ) (subs : List Subscription)
    → ((q : Subscription) → (f q).link ≡ q.link) → links_of link (map f subs) ≡ links_of link subs
links_mapped f link [] same = refl
links_mapped f link (q ∷ subs) same =
    count_cons (λ (q : Subscription). q.link == link) (f q) (map f subs)
    ∙ (λ i. one_if (same q i == link) + links_mapped f link subs same i)
    ∙ sym (count_cons (λ (q : Subscription). q.link == link) q subs)

-- with no more that is out as a delivery
pub out_mapped : (f : Subscription → Subscription) (d : ℕ) (subs : List Subscription)
    → ((q : Subscription) → out_of d (f q) ≤ out_of d q) → out_in d (map f subs) ≤ out_in d subs
out_mapped f d [] less = omega arith
out_mapped f d (q ∷ subs) less = let rest = out_mapped f d subs less in omega (arith, less q, rest)

-- what grows keeps its link, and as much is out
grows_link : (batch n : ℕ) (q : Subscription) → (grown_subscription batch n q).link ≡ q.link
grows_link batch n q = either_way (λ (x : Subscription). x.link ≡ q.link) q.closed q
    (record q { spans = grown_spans batch n q.spans }) refl refl

grows_outs : (batch n d : ℕ) (q : Subscription) → out_of d (grown_subscription batch n q) ≤ out_of d q
grows_outs batch n d q =
    either_way (λ (x : Subscription). out_of d x ≤ out_of d q) q.closed q
    (record q { spans = grown_spans batch n q.spans }) (omega arith)
    (let same = grown_having (is_out_as d) batch n q.spans refl in omega (arith, same))

-- a good subscription is one in the picture with the number
pub grows_good : (p : Picture) (q : Subscription) → 1 ≤ p.limits.batch → IsGoodSubscription p q
    → IsGoodSubscription (place p) (grown_subscription p.limits.batch (suc p.front) q)
unfolding place
grows_good p q one g =
    either_case (IsGoodSubscription (place p)) q.closed q
    (record q { spans = grown_spans p.limits.batch (suc p.front) q.spans })
    (λ is. record {
      begins = g.begins;
      reaches = g.reaches;
      placed = omega (arith, g.placed);
      linked = g.linked;
      has_none = g.has_none;
      rise = λ running. absurd (false≢true (sym running ∙ is));
      from_floor = λ running. absurd (false≢true (sym running ∙ is));
      never_delivered = λ running. absurd (false≢true (sym running ∙ is));
      good = g.good;
      few = g.few;
    })
    (λ is. record {
      begins = g.begins;
      reaches = g.reaches;
      placed = omega (arith, g.placed);
      linked = g.linked;
      has_none = λ closed. absurd (false≢true (sym is ∙ closed));
      rise = λ running. grown_rise p.limits.batch (suc q.floor) p.front q.spans (g.rise running);
      from_floor = λ running. g.from_floor running ∙ sym (grown_floor p.limits.batch p.front q.spans);
      never_delivered = λ running n less le. grown_in p.limits.batch (suc q.floor) p.front n q.spans (g.rise running)
          le (g.never_delivered running n less);
      good = grown_good p.limits.batch q.offered p.next_delivery (suc q.floor) p.front q.spans one (g.rise is) g.good;
      few = omega (arith, g.few, grown_having is_out p.limits.batch (suc p.front) q.spans refl);
    })

-- ---- the picture

-- where one may be placed
pub keep_place_keeps : (p : Picture) (n : ℕ) → IsPicture p → prepare p ≡ Ok n → IsPicture (place p)
unfolding place
keep_place_keeps p n k ok = record {
  in_range = k.in_range;
  within = may.1;
  closed = subst (λ o. IfSome o (λ last. last ≡ suc p.front)) (sym may.0) tt;
  few = omega (arith, k.few, length-map p.subscriptions grow);
  good = all_mapped (IsGoodSubscription (place p)) grow p.subscriptions
      (all_then (IsGoodSubscription p) (λ q. IsGoodSubscription (place p) (grow q)) p.subscriptions
      (λ q g. grows_good p q (one_in_batch p.limits k.in_range) g) k.good);
  links = λ link. omega (
    arith,
    links_mapped grow link p.subscriptions (grows_link p.limits.batch (suc p.front)),
    k.links link,
  );
  deliveries = λ d. omega (
    arith,
    out_mapped grow d p.subscriptions (grows_outs p.limits.batch (suc p.front) d),
    k.deliveries d,
  );
  ready = λ s first.
      often_append s first p.ready (begun_spans p.limits.batch (suc p.front) 0 p.subscriptions)
      ∙ (λ i. k.ready s first i + begun_own p.limits.batch (suc p.front) s first 0 s p.subscriptions (omega arith) i)
      ∙ sym (stands is_ready s first ∙ ap (λ m. stands_there is_ready first (slice_get p.subscriptions s) + m)
      (ready_more first (slice_get p.subscriptions s)));
  out = λ s first.
      k.out s first
      ∙ sym (stands is_out s first ∙ ap (λ m. stands_there is_out first (slice_get p.subscriptions s) + m)
      (out_more first (slice_get p.subscriptions s)) ∙ omega arith);
}
  where
    may : (p.closing ≡ None) × (p.front < p.limits.capacity)
    may = may_place p (subst (λ (r : Result ℕ DeskRefusal). IsOk r) (sym ok) refl)

    grow : Subscription → Subscription
    grow = grown_subscription p.limits.batch (suc p.front)

    more : (Status → Bool) → ℕ → Option Subscription → ℕ
    more test first None = 0
    more test first (Some q) =
        cond (q.closed || last_takes p.limits.batch (suc p.front) q.spans) 0
        (cond (suc p.front == first) (one_if (test (Ready false))) 0)

    stands_by : (test : Status → Bool) (s first : ℕ) (o : Option Subscription) → slice_get p.subscriptions s ≡ o
        → stands_there test first (option_map grow o) ≡ stands_there test first o + more test first o
    stands_by test s first None found = refl
    stands_by test s first (Some q) found =
        grows_there test p q p.limits.batch first (all_get (IsGoodSubscription p) p.subscriptions s q k.good found)

    stands : (test : Status → Bool) (s first : ℕ) → stands_there test first (slice_get (map grow p.subscriptions) s)
        ≡ stands_there test first (slice_get p.subscriptions s) + more test first (slice_get p.subscriptions s)
    stands test s first = ap (stands_there test first) (slice_get-map grow p.subscriptions s)
        ∙ stands_by test s first (slice_get p.subscriptions s) refl

    ready_more : (first : ℕ) (o : Option Subscription) → more is_ready first o
        ≡ begins_one p.limits.batch (suc p.front) first o
    ready_more first None = refl
    ready_more first (Some q) = refl

    out_more : (first : ℕ) (o : Option Subscription) → more is_out first o ≡ 0
    out_more first None = refl
    out_more first (Some q) = by (q.closed || last_takes p.limits.batch (suc p.front) q.spans) (suc p.front == first)
      where
        by : (b c : Bool) → ◌≡◌ {A = ℕ} (cond b 0 (cond c 0 0)) 0
        by true c = refl
        by false true = refl
        by false false = refl
