-- What is stored of one subscription: its spans, what a call changes of it, and which of its spans
-- is delivered next.
use Rattle.std.specs.Prelude.{◌≡◌, ℕ, suc, ◌+◌, ◌<◌, ◌≤◌, max, true, false, not, ◌&&◌, nat_lt, None}
use Rattle.std.specs.Prelude.{List, [], ◌∷◌, ◌++◌, ◌⊎◌, Option, Some, slice_get, if◌then◌else◌}
use Rattle.std.specs.List.{AllByRecursion}
use Rattle.std.specs.Option.{option_map}
use Rattle.rb_deliveries.specs.declared.rank.Rank.{Rank}
use Rattle.rb_deliveries.specs.declared.rank.Held.{Held}
use Rattle.rb_deliveries.specs.declared.span.Span.{Span}
use Rattle.rb_deliveries.specs.declared.span.Status.{Status}
use Rattle.rb_deliveries.specs.declared.span.Status.TheVariants.{Ready, InFlight}
use Rattle.rb_deliveries.specs.declared.sub.Sub.{Sub}
use Rattle.rb_deliveries.specs.Spans.{cut_spans, is_fresh, is_ready, how_many_out, out_as}
use Rattle.rb_deliveries.specs.Queues.{earlier, first_by, least, cut_queue, delivered_queue}
use Rattle.rb_deliveries.specs.Queues.{returned_queue, settled_queue, Queue, queue_held}
use Rattle.rb_deliveries.specs.Queues.{queue_floor, spans_of}

-- the spans of a subscription: a closed one has none
abbrev pub sub_held : ℕ → ℕ → Sub → List Held
sub_held batch front sub = if sub.closed then [] else queue_held batch front sub.queue

-- a rank was drawn by now: its front and its turn are not later
abbrev pub IsDrawn : ℕ → ℕ → Rank → Type 0
IsDrawn front turn rank = (rank.front ≤ front) × (rank.turn ≤ turn)

-- a delivery's number was issued
abbrev pub IsGiven : ℕ → Status → Type 0
IsGiven next (Ready taken) = Unit {0}
IsGiven next (InFlight number moment) = number < next

-- the numbers of deliveries in flight were issued, and a turn is left for each number issued
abbrev pub AreGiven : ℕ → ℕ → List Held → Type 0
AreGiven next turn held = AllByRecursion (λ h. IsGiven next h.span.status) held
    × (turn + next < 18446744073709551616)

-- a stored span was taken before, its rank was drawn, and its delivery's number was issued
abbrev pub IsKnown : ℕ → ℕ → ℕ → Held → Type 0
IsKnown front turn next h = (is_fresh h.span.status ≡ false) × IsDrawn front turn h.rank
    × IsGiven next h.span.status

-- what is stored of a subscription agrees with the front, the turns and the deliveries' numbers
pub record Belongs (front turn number : ℕ) (sub : Sub) : Type 0 where
  pub is_offered : sub.offered ≤ front
  pub is_next : sub.queue.next ≤ suc front
  pub is_drawn : IsDrawn front turn sub.queue.cutting
  pub are_known : AllByRecursion (IsKnown front turn number) sub.queue.held

-- ---- what a call does to a subscription

abbrev pub delivered_sub : Sub → Span → ℕ → ℕ → Sub
delivered_sub sub span number clock =
    record sub {
      offered = max sub.offered span.last;
      queue = delivered_queue sub.queue span (InFlight number clock);
    }

abbrev pub returned_sub : Sub → ℕ → Rank → Sub
returned_sub sub first rank = record sub { queue = returned_queue sub.queue first rank }

abbrev pub settled_sub : Sub → ℕ → Sub
settled_sub sub first = record sub { queue = settled_queue sub.queue first }

abbrev pub new_sub : ℕ → ℕ → Rank → Sub
new_sub start link rank =
    record {
      start = start;
      offered = start;
      link = link;
      closed = false;
      queue = cut_queue start rank;
    }

abbrev pub reconnected_sub : Sub → ℕ → ℕ → Rank → Sub
reconnected_sub sub cursor link rank = record sub { link = link; queue = cut_queue cursor rank }

abbrev pub closed_sub : Sub → Sub
closed_sub sub =
    record sub { closed = true; queue = cut_queue (queue_floor sub.queue) sub.queue.cutting }

-- the span was taken before and is ready, or it is the first one never taken
abbrev pub IsHeld : Queue → Span → Type 0
IsHeld kept span = (front : List Held) × (h : Held) × (back : List Held)
    × (kept.held ≡ front ++ h ∷ back) × (h.span ≡ span)

abbrev pub IsDeliverable : ℕ → ℕ → Queue → Span → Type 0
IsDeliverable batch front kept span = (IsHeld kept span × (is_ready span.status ≡ true))
    ⊎ (slice_get (cut_spans batch kept.next front) 0 ≡ Some span)

-- the span that is in flight as this delivery
abbrev pub sub_out_as : ℕ → Sub → Option Span
sub_out_as d sub = if sub.closed then None else out_as d (spans_of sub.queue.held)

-- the span of a subscription to deliver before its others, and the first of all, with its
-- subscription's number
abbrev pub next_to_deliver : ℕ → ℕ → ℕ → Sub → Option Held
next_to_deliver window batch front sub =
    if not sub.closed && nat_lt (how_many_out (spans_of sub.queue.held)) window then least
    (queue_held batch front sub.queue) else None

abbrev pub span_to_deliver : ℕ × Held → ℕ × Span
span_to_deliver c = (c.0, c.1.span)

abbrev pub goes_first : Option (ℕ × Held) → Option (ℕ × Held) → Option (ℕ × Held)
goes_first = first_by (λ c. c.1.rank)

abbrev pub first_to_deliver : ℕ → ℕ → ℕ → ℕ → List Sub → Option (ℕ × Held)
first_to_deliver window batch front s [] = None
first_to_deliver window batch front s (sub ∷ rest) =
    goes_first (option_map (λ h. (s, h)) (next_to_deliver window batch front sub))
    (first_to_deliver window batch front (suc s) rest)

-- a rank comes after those of all stored spans of the subscription with this number
abbrev pub ComesLast : Rank → List Held → Type 0
ComesLast rank = AllByRecursion (λ h. earlier h.rank rank ≡ true)

abbrev pub ComesLastAt : List Sub → ℕ → Rank → Type 0
ComesLastAt subs s rank = (sub : Sub) → slice_get subs s ≡ Some sub
    → ComesLast rank sub.queue.held

-- a delivery's number is greater than those of all deliveries in flight to that subscription
abbrev pub IsNewest : ℕ → List Held → Type 0
IsNewest number = AllByRecursion (λ h. IsGiven number h.span.status)

abbrev pub IsNewestAt : List Sub → ℕ → ℕ → Type 0
IsNewestAt subs s number = (sub : Sub) → slice_get subs s ≡ Some sub
    → IsNewest number sub.queue.held
