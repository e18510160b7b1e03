-- The invariant of a picture (*IsPicture*), which every call preserves.
use Rattle.std.specs.Prelude.{◌≡◌, ℕ, suc, ◌+◌, ◌<◌, ◌≤◌, Bool, true, false, List, [], ◌∷◌, length}
use Rattle.std.specs.Prelude.{IfSome, Option, Some, None, slice_get, ◌==◌, ◌⊎◌}
use Rattle.std.specs.List.{filter, AllByRecursion}
use Rattle.rb_deliveries.specs.declared.span.Span.{Span}
use Rattle.rb_deliveries.specs.declared.span.Status.{Status}
use Rattle.rb_deliveries.specs.declared.span.Status.TheVariants.{Ready, InFlight}
use Rattle.rb_desk.specs.Limits.{Limits, first_out_of_range}
use Rattle.rb_deliveries.specs.Spans.{is_ready, is_fresh, is_out, is_out_as, beginning}
use Rattle.rb_deliveries.specs.Spans.{how_many_out, floor_of, SpansRise}
use Rattle.rb_desk.specs.Picture.{Picture}
use Rattle.rb_deliveries.specs.Picture.{Subscription}
use Rattle.rb_deliveries.specs.Changes.{is_span}

-- the limits are in their ranges
abbrev pub AreInRange : Limits → Type 0
AreInRange c = first_out_of_range c.batch c.window c.timeout c.capacity c.intake c.appliers ≡ None

-- a number is in a span
abbrev pub IsInSpan : ℕ → List Span → Type 0
IsInSpan n [] = ⊥
IsInSpan n (p ∷ rest) = ((p.first ≤ n) × (n ≤ p.last)) ⊎ IsInSpan n rest

-- A span has at most `batch` numbers. If it was taken, its numbers were delivered. If it is in
-- flight, its delivery's number was issued.
abbrev pub WasOffered : ℕ → ℕ → Span → Type 0
WasOffered offered next p = (is_fresh p.status ≡ false → p.last ≤ offered)
    × IsNumbered next p.status
  where
    IsNumbered : ℕ → Status → Type 0
    IsNumbered next (Ready taken) = Unit {0}
    IsNumbered next (InFlight number moment) = number < next

pub record IsGoodSpan (batch offered next : ℕ) (p : Span) : Type 0 where
  pub short : p.last < p.first + batch
  pub handed_out : WasOffered offered next p

-- A good subscription. The start is at most the floor, the floor at most the greatest number
-- delivered, and that at most the front. Its link was issued. If it is closed, it has no spans.
-- Else its spans rise from the floor to the front; the number after the floor begins the first
-- span, or the floor is the front; and each number that was never delivered is in a span. No more
-- spans are in flight than the window holds.
pub record IsGoodSubscription (p : Picture) (q : Subscription) : Type 0 where
  pub begins : q.start ≤ q.floor
  pub reaches : q.floor ≤ q.offered
  pub placed : q.offered ≤ p.front
  pub linked : q.link < p.next_link
  pub has_none : q.closed ≡ true → q.spans ≡ []
  pub rise : q.closed ≡ false → SpansRise (suc q.floor) q.spans p.front
  pub from_floor : q.closed ≡ false → q.floor ≡ floor_of q.spans p.front
  pub never_delivered : q.closed ≡ false → (n : ℕ) → q.offered < n → n ≤ p.front
      → IsInSpan n q.spans
  pub good : AllByRecursion (IsGoodSpan p.limits.batch q.offered p.next_delivery) q.spans
  pub few : how_many_out q.spans ≤ p.limits.window

-- how often a span is in an order
abbrev pub how_often : ℕ → ℕ → List (ℕ × ℕ) → ℕ
how_often s first order = length (filter (is_span s first) order)

-- 1 if the subscription has a span that begins with this number and passes the test, else 0
abbrev pub one_if : Bool → ℕ
one_if true = 1
one_if false = 0

abbrev pub span_there : (Status → Bool) → Option Span → ℕ
span_there test None = 0
span_there test (Some p) = one_if (test p.status)

abbrev pub stands_there : (Status → Bool) → ℕ → Option Subscription → ℕ
stands_there test first None = 0
stands_there test first (Some q) = span_there test (beginning first q.spans)

-- how many subscriptions have this link, and how many spans are in flight as this delivery
abbrev pub links_of : ℕ → List Subscription → ℕ
links_of link subs = length (filter (λ q. q.link == link) subs)

abbrev pub out_in : ℕ → List Subscription → ℕ
out_in d [] = 0
out_in d (q ∷ rest) = length (filter (λ p. is_out_as d p.status) q.spans) + out_in d rest

-- A picture. Its limits are in their ranges, the front is within the capacity, and the closing
-- number, if there is one, is the front. There are at most 1,024 subscriptions, and each is good.
-- No two have the same link, and no two spans are in flight as the same delivery. The ready order
-- has each ready span once and nothing else; the in-flight order has each span in flight once and
-- nothing else.
pub record IsPicture (p : Picture) : Type 0 where
  pub in_range : AreInRange p.limits
  pub within : p.front ≤ p.limits.capacity
  pub closed : IfSome p.closing (λ last. last ≡ p.front)
  pub few : length p.subscriptions ≤ 1024
  pub good : AllByRecursion (IsGoodSubscription p) p.subscriptions
  pub links : (link : ℕ) → links_of link p.subscriptions ≤ 1
  pub deliveries : (d : ℕ) → out_in d p.subscriptions ≤ 1
  pub ready : (s first : ℕ) → how_often s first p.ready
      ≡ stands_there is_ready first (slice_get p.subscriptions s)
  pub out : (s first : ℕ) → how_often s first p.in_flight
      ≡ stands_there is_out first (slice_get p.subscriptions s)
