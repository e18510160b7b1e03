-- What a full picture shows without its settled spans, and lemmas for it. Then `subscribe`, `take` and `take_any`: each
-- answers the same on both pictures, and leaves pictures that go together.
use Rattle.std.proofs.Common.{◌≡◌, ℕ, zero, suc, max, Bool, true, false, not, cond, ◌==◌, List, []}
use Rattle.std.proofs.Common.{◌∷◌, ◌++◌, length, map, find, Option, Some, None, option_map, Result, Ok, Err}
use Rattle.std.proofs.Common.{slice_get}
use Rattle.std.proofs.Common.{slice_set, nat_lt, nat_le, refl, sym, ap, ◌∙◌}
use Rattle.std.specs.List.{AllByRecursion}
use Rattle.std.proofs.lemmas.List.{length-map, map-append}
use Rattle.std.proofs.lemmas.Option.{slice_get-map}
use Rattle.rb_deliveries.specs.declared.span.Span.{Span}
use Rattle.rb_deliveries.specs.declared.span.Status.TheVariants.{InFlight}
use Rattle.rb_deliveries.specs.Changes.{has_room_at}
use Rattle.rb_deliveries.specs.Changes.{named}
use Rattle.rb_deliveries.specs.Picture.{Subscription}
use Rattle.rb_deliveries.specs.Spans.{beginning, cut_spans, first_ready}
use Rattle.rb_deliveries.proofs.subs.KnownLaws.{all_get}
use Rattle.rb_desk.specs.declared.refusal.DeskRefusal.{DeskRefusal}
use Rattle.rb_desk.specs.declared.refusal.DeskRefusal.TheVariants as refusal
use Rattle.rb_desk.specs.Calls.{subscribe, take, take_any}
use Rattle.rb_desk.specs.Calls.{delivered_from, delivered_span, delivered_any_from}
use Rattle.rb_desk.specs.Calls.{delivered_any_of}
use Rattle.rb_desk.specs.Calls.{delivered_any_span, delivered_picture, none_ready}
use Rattle.rb_desk.specs.Calls.{has_window_room}
use Rattle.rb_desk.specs.Picture.{Picture}
use Rattle.rb_desk.specs.FullSpans.{FullSpan, Settled, Unsettled, StartsUnsettled, all_unsettled}
use Rattle.rb_desk.specs.FullSpans.{full_with_status, unsettled_spans}
use Rattle.rb_desk.specs.FullPicture.{FullPicture, FullSubscription, unsettled_picture, unsettled_subscription}
use Rattle.rb_desk.specs.FullCalls as full
use Rattle.rb_desk.specs.FullPicture.{IsFullPicture, IsFullSubscription}
use Rattle.rb_desk.proofs.full.FullUnsettled.{unsettled_all}
use Rattle.rb_desk.proofs.full.FullUnsettled.{unsettled_status}

-- drops the settled spans from what a call leaves
abbrev pub shown_answer : {A : Type 0} → Result A DeskRefusal × FullPicture → Result A DeskRefusal × Picture
shown_answer r = (r.0, unsettled_picture r.1)

-- a test, both branches of which are shown
pub branches_shown : {A : Type 0} (b : Bool) {r r' : Result A DeskRefusal × Picture}
    (u u' : Result A DeskRefusal × FullPicture)
    → r ≡ shown_answer u → r' ≡ shown_answer u' → cond b r r' ≡ shown_answer (cond b u u')
branches_shown true u u' e e' = e
branches_shown false u u' e e' = e'

-- ---- subscriptions

set_shown : (subs : List FullSubscription) (s : ℕ) (r : FullSubscription)
    → slice_set (map unsettled_subscription subs) s (unsettled_subscription r)
    ≡ map unsettled_subscription (slice_set subs s r)
set_shown [] s r = refl
set_shown (q ∷ subs) zero r = refl
set_shown (q ∷ subs) (suc s) r = ap (λ rest. unsettled_subscription q ∷ rest) (set_shown subs s r)

-- a subscription is replaced, where its unsettled spans are known
pub changed_shown : (subs : List FullSubscription) (s : ℕ) (r : FullSubscription) (spans : List Span)
    → unsettled_spans r.spans ≡ spans
    → slice_set (map unsettled_subscription subs) s (record (unsettled_subscription r) { spans = spans })
    ≡ map unsettled_subscription (slice_set subs s r)
changed_shown subs s r spans is =
    ap (λ xs. slice_set (map unsettled_subscription subs) s (record (unsettled_subscription r) { spans = xs })) (sym is)
    ∙ set_shown subs s r

pub map_shown : (g : Subscription → Subscription) (h : FullSubscription → FullSubscription) (P : FullSubscription → Type 0)
    → ((q : FullSubscription) → P q → g (unsettled_subscription q) ≡ unsettled_subscription (h q))
    → (subs : List FullSubscription) → AllByRecursion P subs
    → map g (map unsettled_subscription subs) ≡ map unsettled_subscription (map h subs)
map_shown g h P each [] all = refl
map_shown g h P each (q ∷ subs) all = (λ i. each q all.0 i ∷ map_shown g h P each subs all.1 i)

-- the rest of a picture with these subscriptions
abbrev pub with_subs : FullPicture → List Subscription → Picture
with_subs y subs = record (unsettled_picture y) { subscriptions = subs }

module _ (x : FullPicture) (good : IsFullPicture x) where
  abbrev found : ℕ → Option FullSubscription
  found s = slice_get x.subscriptions s

  abbrev f : FullSubscription → Subscription
  f = unsettled_subscription

  its : (s : ℕ) (q : FullSubscription) → found s ≡ Some q → IsFullSubscription x.front q
  its s q here = all_get (IsFullSubscription x.front) x.subscriptions s q good here

  -- ---- subscribe

  pub subscribe_shown : (start : ℕ) → subscribe (unsettled_picture x) start ≡ shown_answer (full.full_subscribe x start)
  unfolding subscribe
  subscribe_shown start =
      branches_shown (nat_lt x.front start) _ _ refl
      ((λ i. cond (nat_le 1024 (length-map x.subscriptions f i)) (Err refusal.TooMany, unsettled_picture x) (
        Ok (length-map x.subscriptions f i, x.next_link),
        record (with_subs (full.full_subscribed_picture x start spans)
            (map f x.subscriptions ++ record (f new) { spans = sym (unsettled_all spans) i } ∷ []))
            { ready = x.ready ++ named (length-map x.subscriptions f i) spans },
      ))
      ∙ branches_shown (nat_le 1024 (length x.subscriptions)) _ _ refl
      (ap (λ subs. (
        Ok (length x.subscriptions, x.next_link),
        with_subs
            (full.full_subscribed_picture x start spans) subs,
      ))
      (sym (map-append f x.subscriptions (new ∷ [])))))
    where
      spans : List Span
      spans = cut_spans x.limits.batch (suc start) x.front

      new : FullSubscription
      new = record {
        start = start;
        floor = start;
        offered = start;
        link = x.next_link;
        closed = false;
        spans = all_unsettled spans;
      }

  -- ---- take and take any

  delivered_shown : (s : ℕ) (q : FullSubscription) (span : Span) (clock : ℕ)
      → delivered_picture (unsettled_picture x) s (f q) span clock
      ≡ unsettled_picture (full.full_delivered_picture x s q span clock)
  delivered_shown s q span clock =
      ap (with_subs (full.full_delivered_picture x s q span clock))
      (changed_shown x.subscriptions s
      (record q {
        offered = max q.offered span.last;
        spans = full_with_status span.first (InFlight x.next_delivery clock) q.spans;
      })
      _ (unsettled_status span.first (InFlight x.next_delivery clock) q.spans))

  pub take_shown : (s link cursor now : ℕ) → take (unsettled_picture x) s link cursor now
      ≡ shown_answer (full.full_take x s link cursor now)
  unfolding take
  take_shown s link cursor now =
      ap (delivered_from (unsettled_picture x) s link cursor now) (slice_get-map f x.subscriptions s)
      ∙ by (found s) refl
    where
      no_ready : (q : FullSubscription) → StartsUnsettled q.spans → (o : Option ℕ)
          → none_ready (unsettled_picture x) (f q) cursor o ≡ full.full_none_ready x q cursor o
      no_ready q starts None = refl
      no_ready q starts (Some last) = of q.spans starts
        where
          of : (xs : List FullSpan) → StartsUnsettled xs
              → none_ready (unsettled_picture x) (record (f q) { spans = unsettled_spans xs }) cursor (Some last)
              ≡ full.full_none_ready x (record q { spans = xs }) cursor (Some last)
          of [] h = refl
          of (Unsettled p ∷ rest) h = refl
          of (Settled a b ∷ rest) h = absurd h

      span : (q : FullSubscription) → StartsUnsettled q.spans → (o : Option Span)
          → delivered_span (unsettled_picture x) s (f q) cursor now o
          ≡ shown_answer (full.full_delivered_span x s q cursor now o)
      span q starts None = ap (λ why. (Err why, unsettled_picture x)) (no_ready q starts x.closing)
      span q starts (Some p) = ap (λ y. (Ok (full.full_delivery_from x s q p), y))
          (delivered_shown s q p (max x.clock now))

      by : (o : Option FullSubscription) → found s ≡ o
          → delivered_from (unsettled_picture x) s link cursor now (option_map f o)
          ≡ shown_answer (full.full_delivered_from x s link cursor now o)
      by None none = refl
      by (Some q) here =
          branches_shown (not (link == q.link)) _ _ refl
          (branches_shown q.closed _ _ refl
          (branches_shown (not (full.full_has_room x.limits.window q)) _ _ refl
          (span q (its s q here).starts (first_ready (unsettled_spans q.spans)))))

  may_go_shown : has_window_room (unsettled_picture x) ≡ full.full_has_window_room x
  may_go_shown = (λ i at. (ap (has_room_at x.limits.window) (slice_get-map f x.subscriptions at.0)
      ∙ same (slice_get x.subscriptions at.0)) i)
    where
      same : (o : Option FullSubscription) → has_room_at x.limits.window (option_map f o)
          ≡ full.full_has_room_at x.limits.window o
      same None = refl
      same (Some q) = refl

  pub take_any_shown : (now : ℕ) → take_any (unsettled_picture x) now ≡ shown_answer (full.full_take_any x now)
  unfolding take_any
  take_any_shown now =
      ap (λ test. delivered_any_from (unsettled_picture x) now (find test x.ready)) may_go_shown
      ∙ by (find (full.full_has_window_room x) x.ready)
    where
      span : (s : ℕ) (q : FullSubscription) (o : Option Span)
          → delivered_any_span (unsettled_picture x) s (f q) now o
          ≡ shown_answer (full.full_delivered_any_span x s q now o)
      span s q None = refl
      span s q (Some p) = ap (λ y. (Ok (full.full_delivery_from x s q p), y)) (delivered_shown s q p (max x.clock now))

      of : (s first : ℕ) (o : Option FullSubscription)
          → delivered_any_of (unsettled_picture x) s first now (option_map f o)
          ≡ shown_answer (full.full_delivered_any_of x s first now o)
      of s first None = refl
      of s first (Some q) = span s q (beginning first (unsettled_spans q.spans))

      by : (o : Option (ℕ × ℕ)) → delivered_any_from (unsettled_picture x) now o
          ≡ shown_answer (full.full_delivered_any_from x now o)
      by None = refl
      by (Some at) =
          ap (delivered_any_of (unsettled_picture x) at.0 at.1 now) (slice_get-map f x.subscriptions at.0)
          ∙ of at.0 at.1 (slice_get x.subscriptions at.0)
