-- A full picture: the desk's state with settled spans. Without them it is a *Picture*.
use Rattle.std.specs.Prelude.{◌≡◌, ℕ, suc, Bool, true, false, List, [], map, Option, None}
use Rattle.std.specs.List.{AllByRecursion}
use Rattle.rb_deliveries.specs.Picture.{Subscription}
use Rattle.rb_desk.specs.Limits.{Limits}
use Rattle.rb_desk.specs.Picture.{Picture}
use Rattle.rb_desk.specs.FullSpans.{FullSpan, IsPartition, StartsUnsettled, unsettled_spans}

-- as *Subscription*, but for the spans
pub record FullSubscription : Type 0 where
  pub start : ℕ
  pub floor : ℕ
  pub offered : ℕ
  pub link : ℕ
  pub closed : Bool
  pub spans : List FullSpan

-- as *Picture*, but for the subscriptions
pub record FullPicture : Type 0 where
  pub limits : Limits
  pub front : ℕ
  pub closing : Option ℕ
  pub clock : ℕ
  pub next_link : ℕ
  pub next_delivery : ℕ
  pub subscriptions : List FullSubscription
  pub ready : List (ℕ × ℕ)
  pub in_flight : List (ℕ × ℕ)

-- the full picture before any call
abbrev pub empty_full_picture : Limits → FullPicture
empty_full_picture limits = record {
  limits = limits;
  front = 0;
  closing = None;
  clock = 0;
  next_link = 1;
  next_delivery = 1;
  subscriptions = [];
  ready = [];
  in_flight = [];
}

-- a subscription, and a picture, without the settled spans
abbrev pub unsettled_subscription : FullSubscription → Subscription
unsettled_subscription q = record {
  start = q.start;
  floor = q.floor;
  offered = q.offered;
  link = q.link;
  closed = q.closed;
  spans = unsettled_spans q.spans;
}

abbrev pub unsettled_picture : FullPicture → Picture
unsettled_picture x = record {
  limits = x.limits;
  front = x.front;
  closing = x.closing;
  clock = x.clock;
  next_link = x.next_link;
  next_delivery = x.next_delivery;
  subscriptions = map unsettled_subscription x.subscriptions;
  ready = x.ready;
  in_flight = x.in_flight;
}

-- What every call keeps. The spans of an open subscription partition the numbers after its floor,
-- up to the front, and no settled one comes first. A closed subscription has none.
pub record IsFullSubscription (front : ℕ) (q : FullSubscription) : Type 0 where
  pub has_none : q.closed ≡ true → q.spans ≡ []
  pub parts : q.closed ≡ false → IsPartition (suc q.floor) q.spans front
  pub starts : StartsUnsettled q.spans

abbrev pub IsFullPicture : FullPicture → Type 0
IsFullPicture x = AllByRecursion (IsFullSubscription x.front) x.subscriptions
