-- What preserves the invariant of a picture, for all calls. Lists with one item replaced, how often a span is in an
-- order, counts of links and deliveries, and subscriptions that stay good.
use Rattle.std.proofs.Common.{◌≡◌, ℕ, zero, suc, ◌+◌, ◌≤◌, Bool, true, false, not, cond, ◌==◌, ◌&&◌, List, [], ◌∷◌}
use Rattle.std.proofs.Common.{◌++◌, length, map, Some, None, filter, slice_get, slice_set, eqb-true, ne_eqb, refl, sym, ap}
use Rattle.std.proofs.Common.{◌∙◌, ◌⊎◌, inl, inr, arith}
use Rattle.std.specs.List.{AllByRecursion}
use Rattle.std.proofs.lemmas.Bool.{false≢true, cases_eq}
use Rattle.std.proofs.lemmas.List.{length-set}
use Rattle.rb_deliveries.specs.declared.span.Span.{Span}
use Rattle.rb_deliveries.specs.declared.span.Status.{Status}
use Rattle.rb_deliveries.specs.declared.span.Status.TheVariants.{Ready, InFlight}
use Rattle.rb_deliveries.specs.Spans.{is_ready, is_out, is_out_as, beginning}
use Rattle.rb_desk.specs.Picture.{Picture}
use Rattle.rb_deliveries.specs.Picture.{Subscription}
use Rattle.rb_deliveries.specs.Changes.{is_span, without_span, without_subscription, named}
use Rattle.rb_desk.specs.IsPicture.{IsPicture, IsGoodSubscription, IsGoodSpan, WasOffered, how_often, one_if}
use Rattle.rb_desk.specs.IsPicture.{span_there, stands_there, links_of, out_in}
use Rattle.rb_deliveries.proofs.orders.Line.{all_then}
use Rattle.rb_deliveries.proofs.subs.KnownLaws.{all_set}

-- ---- lists

-- what holds of what each thing becomes holds of all that they become
pub all_mapped : {A B : Type 0} (P : B → Type 0) (f : A → B) (xs : List A) → AllByRecursion (λ x. P (f x)) xs
    → AllByRecursion P (map f xs)
all_mapped P f [] h = tt
all_mapped P f (x ∷ xs) h = (h.0, all_mapped P f xs h.1)

module _ {A : Type 0} where
  -- what stands at a place once a thing is put there, and what stands at the other places
  pub get_set : (xs : List A) (s : ℕ) (x y : A) → slice_get xs s ≡ Some x → slice_get (slice_set xs s y) s ≡ Some y
  get_set [] s x y h = absurd (let none : None ≡ Some x = h in cc)
  get_set (z ∷ xs) zero x y h = refl
  get_set (z ∷ xs) (suc s) x y h = get_set xs s x y h

  pub get_set_other : (xs : List A) (s t : ℕ) (y : A) → (t ≡ s → ⊥) → slice_get (slice_set xs s y) t ≡ slice_get xs t
  get_set_other [] s t y h = refl
  get_set_other (z ∷ xs) zero zero y h = absurd (h refl)
  get_set_other (z ∷ xs) zero (suc t) y h = refl
  get_set_other (z ∷ xs) (suc s) zero y h = refl
  get_set_other (z ∷ xs) (suc s) (suc t) y h = get_set_other xs s t y (λ e. h (ap suc e))

  -- how many pass a test: of a thing and others, of two lists in a row, and once a thing is put in the place of another
  pub count_cons : (test : A → Bool) (x : A) (xs : List A) → length (filter test (x ∷ xs)) ≡ one_if (test x)
      + length (filter test xs)
  count_cons test x xs = by (test x)
    where
      by : (b : Bool) → length (cond b (x ∷ filter test xs) (filter test xs)) ≡ one_if b + length (filter test xs)
      by true = omega arith
      by false = omega arith

  pub count_append : (test : A → Bool) (xs ys : List A) → length (filter test (xs ++ ys)) ≡ length (filter test xs)
      + length (filter test ys)
  count_append test [] ys = omega arith
  count_append test (x ∷ xs) ys =
      omega (arith, count_cons test x (xs ++ ys), count_cons test x xs, count_append test xs ys)

  pub count_set : (test : A → Bool) (xs : List A) (s : ℕ) (x y : A) → slice_get xs s ≡ Some x
      → length (filter test (slice_set xs s y)) + one_if (test x) ≡ length (filter test xs) + one_if (test y)
  count_set test [] s x y h = absurd (let none : None ≡ Some x = h in cc)
  count_set test (z ∷ xs) zero x y h =
      let same : one_if (test z) ≡ one_if (test x) = ap (λ w. one_if (test w)) (let e : z ≡ x = cc in e) in
      omega (arith, count_cons test y xs, count_cons test z xs, same)
  count_set test (z ∷ xs) (suc s) x y h =
      omega (arith, count_cons test z (slice_set xs s y), count_cons test z xs, count_set test xs s x y h)

-- ---- orders

-- where two names are one
same_span : (s first : ℕ) (at : ℕ × ℕ) → is_span s first at ≡ true → at ≡ (s, first)
same_span s first at h = by (at.0 == s) (at.1 == first) refl refl h
  where
    by : (b c : Bool) → (at.0 == s) ≡ b → (at.1 == first) ≡ c → (b && c) ≡ true → at ≡ (s, first)
    by true true p q h = (λ i. (eqb-true at.0 s p i, eqb-true at.1 first q i))
    by true false p q h = absurd (false≢true h)
    by false c p q h = absurd (false≢true h)

-- how often a span stands in two orders in a row, and in what is left of one
pub often_append : (s first : ℕ) (xs ys : List (ℕ × ℕ)) → how_often s first (xs ++ ys) ≡ how_often s first xs
    + how_often s first ys
often_append s first = count_append (is_span s first)

pub often_filter : (test : ℕ × ℕ → Bool) (s first : ℕ) (xs : List (ℕ × ℕ)) → how_often s first (filter test xs)
    ≡ cond (test (s, first)) (how_often s first xs) 0
often_filter test s first [] = by (test (s, first))
  where
    by : (k : Bool) → ◌≡◌ {A = ℕ} 0 (cond k 0 0)
    by true = refl
    by false = refl
often_filter test s first (x ∷ xs) =
    left (test x) ∙ step (test x) (is_span s first x) (test (s, first)) (how_often s first (filter test xs))
    (how_often s first xs) (λ h. ap test (same_span s first x h)) (often_filter test s first xs)
    ∙ ap (λ n. cond (test (s, first)) n 0) (sym (count_cons (is_span s first) x xs))
  where
    left : (b : Bool) → how_often s first (cond b (x ∷ filter test xs) (filter test xs))
        ≡ cond b (one_if (is_span s first x) + how_often s first (filter test xs)) (how_often s first (filter test xs))
    left true = count_cons (is_span s first) x (filter test xs)
    left false = refl

    step : (b c k : Bool) (n m : ℕ) → (c ≡ true → b ≡ k) → n ≡ cond k m 0 → cond b (one_if c + n) n
        ≡ cond k (one_if c + m) 0
    step true true true n m h e = omega (arith, e)
    step true true false n m h e = absurd (false≢true (sym (h refl)))
    step false true true n m h e = absurd (false≢true (h refl))
    step false true false n m h e = e
    step b false true n m h e = cases b
      where
        cases : (b : Bool) → cond b (0 + n) n ≡ 0 + m
        cases true = omega (arith, e)
        cases false = omega (arith, e)
    step b false false n m h e = cases b
      where
        cases : (b : Bool) → cond b (0 + n) n ≡ 0
        cases true = omega (arith, e)
        cases false = e

-- this one is gone, another one stays
pub often_without : (s first t other : ℕ) (xs : List (ℕ × ℕ)) → how_often t other (without_span s first xs)
    ≡ cond (is_span s first (t, other)) 0 (how_often t other xs)
often_without s first t other xs = often_filter (λ at. not (is_span s first at)) t other xs
    ∙ by (is_span s first (t, other))
  where
    by : (b : Bool) → cond (not b) (how_often t other xs) 0 ≡ cond b 0 (how_often t other xs)
    by true = refl
    by false = refl

-- those of a subscription are gone, those of the others stay
pub often_without_all : (s t first : ℕ) (xs : List (ℕ × ℕ)) → how_often t first (without_subscription s xs)
    ≡ cond (t == s) 0 (how_often t first xs)
often_without_all s t first xs = often_filter (λ at. not (at.0 == s)) t first xs ∙ by (t == s)
  where
    by : (b : Bool) → cond (not b) (how_often t first xs) 0 ≡ cond b 0 (how_often t first xs)
    by true = refl
    by false = refl

-- a span stands once at the end of an order, and the others as before
pub often_pushed : (s first t other : ℕ) (xs : List (ℕ × ℕ)) → how_often t other (xs ++ (s, first) ∷ [])
    ≡ how_often t other xs + one_if (is_span t other (s, first))
often_pushed s first t other xs = often_append t other xs ((s, first) ∷ [])
    ∙ ap (λ n. how_often t other xs + n) (by (is_span t other (s, first)))
  where
    by : (b : Bool) → length {A = ℕ × ℕ} (cond b ((s, first) ∷ []) []) ≡ one_if b
    by true = refl
    by false = refl

-- how often a span stands among those of a subscription by their names
pub often_named : (s t first : ℕ) (spans : List Span) → how_often t first (named s spans)
    ≡ cond (s == t) (length (filter (λ (p : Span). p.first == first) spans)) 0
often_named s t first [] = by (s == t)
  where
    by : (k : Bool) → ◌≡◌ {A = ℕ} 0 (cond k 0 0)
    by true = refl
    by false = refl
often_named s t first (p ∷ spans) =
    count_cons (is_span t first) (s, p.first) (named s spans)
    ∙ ap (λ n. one_if ((s == t) && (p.first == first)) + n) (often_named s t first spans)
    ∙ by (s == t) (p.first == first)
    ∙ ap (λ n. cond (s == t) n 0) (sym (count_cons (λ (p : Span). p.first == first) p spans))
  where
    by : (b c : Bool) → one_if (b && c) + cond b (length (filter (λ (p : Span). p.first == first) spans)) 0
        ≡ cond b (one_if c + length (filter (λ (p : Span). p.first == first) spans)) 0
    by true c = refl
    by false c = refl

-- ---- counts over subscriptions

-- how many spans of a subscription are out as a delivery
abbrev pub out_of : ℕ → Subscription → ℕ
out_of d q = length (filter (λ p. is_out_as d p.status) q.spans)

-- how many have a link once a subscription is put in the place of another
pub links_set : (link : ℕ) (subs : List Subscription) (s : ℕ) (q r : Subscription) → slice_get subs s ≡ Some q
    → links_of link (slice_set subs s r) + one_if (q.link == link) ≡ links_of link subs + one_if (r.link == link)
links_set link subs s q r h = count_set (λ (q : Subscription). q.link == link) subs s q r h

-- it has the same link
pub links_kept : (link : ℕ) (subs : List Subscription) (s : ℕ) (q r : Subscription) → slice_get subs s ≡ Some q → r.link
    ≡ q.link → links_of link (slice_set subs s r) ≡ links_of link subs
links_kept link subs s q r h e = let same : one_if (r.link == link) ≡ one_if (q.link == link) =
    ap (λ n. one_if (n == link)) e in omega (arith, same, links_set link subs s q r h)

-- in two lists in a row
pub links_append : (link : ℕ) (xs ys : List Subscription) → links_of link (xs ++ ys) ≡ links_of link xs
    + links_of link ys
links_append link = count_append (λ (q : Subscription). q.link == link)

-- no subscription has a link that wasn't given
pub links_none : (p : Picture) (link : ℕ) (subs : List Subscription) → p.next_link ≤ link
    → AllByRecursion (IsGoodSubscription p) subs → links_of link subs ≡ 0
links_none p link [] le h = refl
links_none p link (q ∷ subs) le h =
    count_cons (λ (q : Subscription). q.link == link) q subs
    ∙ (λ i. one_if (ne_eqb q.link link (omega (arith, le, h.0.linked)) i) + links_none p link subs le h.1 i)

-- how many spans are out as a delivery once a subscription is put in the place of another, and in two lists in a row
pub out_set : (d : ℕ) (subs : List Subscription) (s : ℕ) (q r : Subscription) → slice_get subs s ≡ Some q
    → out_in d (slice_set subs s r) + out_of d q ≡ out_in d subs + out_of d r
out_set d [] s q r h = absurd (let none : None ≡ Some q = h in cc)
out_set d (z ∷ subs) zero q r h = let same : out_of d z ≡ out_of d q = ap (out_of d) (let e : z ≡ q = cc in e) in
    omega (arith, same)
out_set d (z ∷ subs) (suc s) q r h = omega (arith, out_set d subs s q r h)

pub out_append : (d : ℕ) (xs ys : List Subscription) → out_in d (xs ++ ys) ≡ out_in d xs + out_in d ys
out_append d [] ys = omega arith
out_append d (q ∷ xs) ys = omega (arith, out_append d xs ys)

-- ---- good subscriptions

-- what is said of a span's status holds where more was offered and more deliveries were given
pub offered_later : (offered offered' next next' first last : ℕ) (status : Status) → offered ≤ offered' → next ≤ next'
    → WasOffered offered next (record { first = first; last = last; status = status })
    → WasOffered offered' next' (record { first = first; last = last; status = status })
offered_later offered offered' next next' first last (Ready taken) le le' h = (λ e. omega (arith, h.0 e, le), tt)
offered_later offered offered' next next' first last (InFlight number moment) le le' h =
    (λ e. omega (arith, h.0 e, le), omega (arith, h.1, le'))

pub span_later : (batch offered offered' next next' : ℕ) (p : Span) → offered ≤ offered' → next ≤ next'
    → IsGoodSpan batch offered next p → IsGoodSpan batch offered' next' p
span_later batch offered offered' next next' p le le' h =
    record {
      short = h.short;
      handed_out = offered_later offered offered' next next' p.first p.last p.status le le'
          h.handed_out;
    }

pub spans_later : (batch offered offered' next next' : ℕ) (spans : List Span) → offered ≤ offered' → next ≤ next'
    → AllByRecursion (IsGoodSpan batch offered next) spans → AllByRecursion (IsGoodSpan batch offered' next') spans
spans_later batch offered offered' next next' spans le le' =
    all_then (IsGoodSpan batch offered next) (IsGoodSpan batch offered' next') spans
    (λ p. span_later batch offered offered' next next' p le le')

-- a subscription is good in another picture with the same limits and front, in which no fewer links and deliveries were
-- given
pub good_later : (p r : Picture) (q : Subscription) → r.limits ≡ p.limits → r.front ≡ p.front → p.next_link
    ≤ r.next_link → p.next_delivery ≤ r.next_delivery → IsGoodSubscription p q → IsGoodSubscription r q
good_later p r q lim front links number h =
    let batch : r.limits.batch ≡ p.limits.batch = ap (λ c. c.batch) lim in
    let window : r.limits.window ≡ p.limits.window = ap (λ c. c.window) lim in
    record {
      begins = h.begins;
      reaches = h.reaches;
      placed = omega (arith, h.placed, front);
      linked = omega (arith, h.linked, links);
      has_none = h.has_none;
      rise = λ e. rw front (h.rise e);
      from_floor = λ e. rw front (h.from_floor e);
      never_delivered = λ e n less le. h.never_delivered e n less (omega (arith, le, front));
      good = rw batch (spans_later p.limits.batch q.offered q.offered p.next_delivery r.next_delivery q.spans
          (omega arith) number h.good);
      few = omega (arith, h.few, window);
    }

pub all_later : (p r : Picture) (subs : List Subscription) → r.limits ≡ p.limits → r.front ≡ p.front → p.next_link
    ≤ r.next_link → p.next_delivery ≤ r.next_delivery
    → AllByRecursion (IsGoodSubscription p) subs → AllByRecursion (IsGoodSubscription r) subs
all_later p r subs lim front links number =
    all_then (IsGoodSubscription p) (IsGoodSubscription r) subs (λ q. good_later p r q lim front links number)

-- ---- one subscription becomes another

-- each subscription that stays has a floor as high as before, or higher
abbrev pub NoFloorFalls : Picture → Picture → Type 0
NoFloorFalls old new = (i : ℕ) (a b : Subscription) → slice_get old.subscriptions i ≡ Some a
    → slice_get new.subscriptions i ≡ Some b → a.floor ≤ b.floor

-- nothing changes in the subscriptions
pub floors_same : (old new : Picture) → new.subscriptions ≡ old.subscriptions → NoFloorFalls old new
floors_same old new same i a b h k =
    let e : Some b ≡ Some a = sym k ∙ ap (λ subs. slice_get subs i) same ∙ h in
    let is : b ≡ a = cc in
    omega (arith, ap (λ (q : Subscription). q.floor) is)

-- what a call keeps: what it leaves is a picture, in which no floor fell
pub record KeepsPicture (old new : Picture) : Type 0 where
  pub picture : IsPicture new
  pub floors : NoFloorFalls old new

pub kept_same : (p : Picture) → IsPicture p → KeepsPicture p p
kept_same p good = record { picture = good; floors = floors_same p p refl }

-- one subscription changes, and its floor doesn't fall
pub floors_set : (old new : Picture) (s : ℕ) (q r : Subscription) → slice_get old.subscriptions s ≡ Some q
    → new.subscriptions ≡ slice_set old.subscriptions s r → q.floor ≤ r.floor → NoFloorFalls old new
floors_set old new s q r here is le i a b h k = by (cases_eq i s)
  where
    by : (i ≡ s) ⊎ (i ≡ s → ⊥) → a.floor ≤ b.floor
    by (inl e) =
        let old_is : Some q ≡ Some a = sym here ∙ ap (slice_get old.subscriptions) (sym e) ∙ h in
        let new_is : Some r ≡ Some b = sym (get_set old.subscriptions s q r here)
        ∙ ap (λ subs. slice_get subs s) (sym is) ∙ ap (slice_get new.subscriptions) (sym e) ∙ k in
        let p : q ≡ a = cc in
        let w : r ≡ b = cc in
        omega (arith, le, ap (λ (q : Subscription). q.floor) p, ap (λ (q : Subscription). q.floor) w)
    by (inr e) =
        let both : Some a ≡ Some b = sym h ∙ sym (get_set_other old.subscriptions s i r e)
        ∙ ap (λ subs. slice_get subs i) (sym is) ∙ k in
        let w : a ≡ b = cc in
        omega (arith, ap (λ (q : Subscription). q.floor) w)

module _ (p : Picture) (s : ℕ) (q : Subscription) (here : slice_get p.subscriptions s ≡ Some q) where
  -- the picture with another subscription in this one's place, and other orders, clock and next numbers
  abbrev pub changed : Subscription → ℕ → ℕ → ℕ → List (ℕ × ℕ) → List (ℕ × ℕ) → Picture
  changed r clock next_link next_delivery ready out =
      record p {
        clock = clock;
        next_link = next_link;
        next_delivery = next_delivery;
        subscriptions = slice_set p.subscriptions s r;
        ready = ready;
        in_flight = out;
      }

  -- an order is right where it is right of this subscription, and the others stand in it as before
  order_set : (test : Status → Bool) (r : Subscription) (xs ys : List (ℕ × ℕ))
      → ((t first : ℕ) → how_often t first xs ≡ stands_there test first (slice_get p.subscriptions t))
      → ((first : ℕ) → how_often s first ys ≡ span_there test (beginning first r.spans))
      → ((t first : ℕ) → (t ≡ s → ⊥) → how_often t first ys ≡ how_often t first xs)
      → (t first : ℕ) → how_often t first ys ≡ stands_there test first (slice_get (slice_set p.subscriptions s r) t)
  order_set test r xs ys was mine others t first = by (cases_eq t s)
    where
      by : (t ≡ s) ⊎ (t ≡ s → ⊥) → how_often t first ys
          ≡ stands_there test first (slice_get (slice_set p.subscriptions s r) t)
      by (inl e) = rw e (mine first ∙ sym (ap (stands_there test first) (get_set p.subscriptions s q r here)))
      by (inr e) = others t first e ∙ was t first
          ∙ sym (ap (stands_there test first) (get_set_other p.subscriptions s t r e))

  -- what it takes that this is a picture again
  pub changed_keeps : (r : Subscription) (clock next_link next_delivery : ℕ) (ready out : List (ℕ × ℕ)) → IsPicture p
      → p.next_link ≤ next_link → p.next_delivery ≤ next_delivery
      → IsGoodSubscription (changed r clock next_link next_delivery ready out) r
      → ((link : ℕ) → links_of link (slice_set p.subscriptions s r) ≤ 1)
      → ((d : ℕ) → out_in d (slice_set p.subscriptions s r) ≤ 1)
      → ((first : ℕ) → how_often s first ready ≡ span_there is_ready (beginning first r.spans))
      → ((t first : ℕ) → (t ≡ s → ⊥) → how_often t first ready ≡ how_often t first p.ready)
      → ((first : ℕ) → how_often s first out ≡ span_there is_out (beginning first r.spans))
      → ((t first : ℕ) → (t ≡ s → ⊥) → how_often t first out ≡ how_often t first p.in_flight)
      → IsPicture (changed r clock next_link next_delivery ready out)
  changed_keeps r clock next_link next_delivery ready out good links numbers is link_count out_count mine others
      mine_out others_out =
      let new : Picture = changed r clock next_link next_delivery ready out in
      record {
        in_range = good.in_range;
        within = good.within;
        closed = good.closed;
        few = omega (arith, good.few, length-set p.subscriptions s r);
        good = all_set (IsGoodSubscription new) p.subscriptions s r
            (all_later p new p.subscriptions refl refl links numbers good.good) is;
        links = link_count;
        deliveries = out_count;
        ready = order_set is_ready r p.ready ready good.ready mine others;
        out = order_set is_out r p.in_flight out good.out mine_out others_out;
      }

  -- the links are as before where it has the same link
  pub links_as_before : (r : Subscription) → IsPicture p → r.link ≡ q.link → (link : ℕ)
      → links_of link (slice_set p.subscriptions s r) ≤ 1
  links_as_before r good e link = omega (arith, good.links link, links_kept link p.subscriptions s q r here e)
