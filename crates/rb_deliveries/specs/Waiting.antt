-- Which subscription's span is delivered first: the rank that each subscription has for that.
use Rattle.std.specs.Prelude.{◌≡◌, ℕ, ◌-◌, Bool, true, false, not, ◌&&◌, nat_lt, nat_le, List, []}
use Rattle.std.specs.Prelude.{◌∷◌, map, Option, Some, None, IfSome, slice_get, slice_set}
use Rattle.std.specs.Prelude.{if◌then◌else◌}
use Rattle.std.specs.List.{AllByRecursion}
use Rattle.rb_deliveries.specs.declared.sub.Sub.{Sub}
use Rattle.rb_deliveries.specs.declared.span.Status.{Status}
use Rattle.rb_deliveries.specs.declared.span.Status.TheVariants.{Ready, InFlight}
use Rattle.rb_deliveries.specs.declared.rank.Held.{Held}
use Rattle.rb_deliveries.specs.declared.rank.Rank.{Rank}
use Rattle.rb_deliveries.specs.Spans.{how_many_out}
use Rattle.rb_deliveries.specs.Subs.{Belongs}
use Rattle.rb_deliveries.specs.Queues.{AreRising, Queue, birth, earlier, first_by, least, spans_of}

-- the rank that is first in line, of a span that was taken before and of the next one that wasn't
abbrev pub sooner_rank : Option Held → Rank → Rank
sooner_rank None fresh = fresh
sooner_rank (Some h) fresh = if earlier fresh h.rank then fresh else h.rank

-- The rank of the span that is first in line. The numbers that follow the taken ones count, even
-- if none of them is placed yet: their rank is that of the placement then, which comes after all.
abbrev pub queue_rank : Queue → Rank
queue_rank kept = sooner_rank (least kept.held) (birth kept.cutting kept.next)

-- the rank of a subscription that is open and has room in its window
abbrev pub sub_rank : ℕ → Sub → Option Rank
sub_rank window sub =
    if not sub.closed && nat_lt (how_many_out (spans_of sub.queue.held)) window then
    Some (queue_rank sub.queue) else None

-- the moment at which a delivery in flight was taken, as a place in an order
abbrev pub moment_of : Status → Option Rank
moment_of (Ready taken) = None
moment_of (InFlight number moment) = Some (record { front = moment; turn = 0 })

-- the earlier of two; of two that are the same, the first
abbrev pub first_rank : Option Rank → Option Rank → Option Rank
first_rank = first_by (λ t. t)

-- the earliest moment of these spans
abbrev pub earliest : List Held → Option Rank
earliest [] = None
earliest (h ∷ rest) = first_rank (moment_of h.span.status) (earliest rest)

-- the earliest moment of an open subscription
abbrev pub sub_moment : Sub → Option Rank
sub_moment sub = if sub.closed then None else earliest sub.queue.held

-- whether what was taken at this moment is due
abbrev pub is_past : ℕ → ℕ → Rank → Bool
is_past timeout clock moment = nat_le timeout (clock - moment.front)

-- the line and the moments are those of the subscriptions, whose spans rise
pub record AreWaiting (window : ℕ) (subs : List Sub) (line moments : List (Option Rank)) : Type 0
  where
    pub in_line : line ≡ map (sub_rank window) subs
    pub in_flight : moments ≡ map sub_moment subs
    pub rising : AllByRecursion (λ sub. AreRising sub.queue) subs

-- a subscription that changed has its rank and its moment again
pub record StandsAgain (window s : ℕ) (sub : Sub) (line moments new_line new_moments : List (Option
    Rank))
    : Type 0 where
  pub in_line : new_line ≡ slice_set line s (sub_rank window sub)
  pub in_flight : new_moments ≡ slice_set moments s (sub_moment sub)
  pub rises : AreRising sub.queue

-- the place of a moment that is past, or none is
abbrev pub FirstPast : ℕ → ℕ → List (Option Rank) → Option ℕ → Type 0
FirstPast timeout clock moments None =
    AllByRecursion (λ o. IfSome o (λ t. is_past timeout clock t ≡ false)) moments
FirstPast timeout clock moments (Some s) = (t : Rank) × (slice_get moments s ≡ Some (Some t))
    × (is_past timeout clock t ≡ true)

-- what is stored of these subscriptions agrees with the front, at some turn
abbrev pub BelongAll : ℕ → List Sub → Type 0
BelongAll front subs = (turn : ℕ) × (number : ℕ) × AllByRecursion (Belongs front turn number) subs
