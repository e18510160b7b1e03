-- How the spans of one subscription are stored. Spans that were never taken are the rest of one
-- cutting, grown by every placement, so the number where they begin determines them. Only spans
-- that were taken are stored, each with its rank.
use Rattle.std.specs.Prelude.{ℕ, suc, ◌≤◌, ◌<◌, Bool, true, false, ◌||◌, ◌&&◌, List, [], ◌∷◌}
use Rattle.std.specs.Prelude.{◌++◌, map, Option, Some, None, ◌==◌, nat_lt, nat_le, if◌then◌else◌}
use Rattle.std.specs.Prelude.{not, ◌-◌}
use Rattle.std.specs.List.{filter}
use Rattle.rb_deliveries.specs.contracts.rank.Rank as rank
use Rattle.rb_deliveries.specs.declared.rank.Rank.{Rank}
use Rattle.rb_deliveries.specs.declared.rank.Held.{Held}
use Rattle.rb_deliveries.specs.declared.span.Span.{Span}
use Rattle.rb_deliveries.specs.declared.span.Status.{Status}
use Rattle.rb_deliveries.specs.declared.span.Status.TheVariants.{Ready}
use Rattle.rb_deliveries.specs.Spans.{cut_spans, is_ready}

-- A queue: the spans that were taken before and are not settled, the first number of the spans
-- never taken, and the rank of their cutting.
pub record Queue : Type 0 where
  pub held : List Held
  pub next : ℕ
  pub cutting : Rank

-- everything before the first span is settled; if none was taken, everything before the next number
abbrev pub floor_before : List Held → ℕ → ℕ
floor_before [] next = next - 1
floor_before (h ∷ rest) next = h.span.first - 1

abbrev pub queue_floor : Queue → ℕ
queue_floor kept = floor_before kept.held kept.next

-- whether rank a was drawn before b: with a smaller front, or with the same front in an earlier
-- turn
abbrev pub earlier : Rank → Rank → Bool
earlier a b = nat_lt a.front b.front || ((a.front == b.front) && nat_lt a.turn b.turn)

-- whether the second rank comes before the first; where there is none, it would come last
abbrev pub overtakes : Option Rank → Option Rank → Bool
overtakes first None = false
overtakes None (Some b) = true
overtakes (Some a) (Some b) = earlier b a

-- The one with the earlier rank; of two with the same rank, the first.
abbrev pub first_by : {X : Type 0} → (X → Rank) → Option X → Option X → Option X
first_by rank None b = b
first_by rank (Some a) None = Some a
first_by rank (Some a) (Some b) = if earlier (rank b) (rank a) then Some b else Some a

-- the rank of a span that was never taken: the cutting's if its first number was placed then,
-- else that of its placement
abbrev pub birth : Rank → ℕ → Rank
birth cutting first = if nat_le first cutting.front then cutting else
    record { front = first; turn = 0 }

abbrev pub with_birth : Rank → Span → Held
with_birth cutting p = record { span = p; rank = birth cutting p.first }

abbrev pub ranked : Rank → List Span → List Held
ranked cutting = map (with_birth cutting)

-- all spans of a queue, with their ranks and without them
abbrev pub queue_held : ℕ → ℕ → Queue → List Held
queue_held batch front kept = kept.held ++ ranked kept.cutting (cut_spans batch kept.next front)

abbrev pub spans_of : List Held → List Span
spans_of = map (λ h. h.span)

abbrev pub queue_spans : ℕ → ℕ → Queue → List Span
queue_spans batch front kept = spans_of (queue_held batch front kept)

-- the first in line; of two with the same rank, the first; then the first in line of the ready
-- ones
abbrev pub better : Option Held → Option Held → Option Held
better = first_by (λ h. h.rank)

abbrev pub if_ready : Held → Option Held
if_ready h = if is_ready h.span.status then Some h else None

abbrev pub least : List Held → Option Held
least [] = None
least (h ∷ rest) = better (if_ready h) (least rest)

-- sets the status and the rank of the span that begins with this number
abbrev pub stated : ℕ → Status → Rank → Held → Held
stated first status rank h =
    if h.span.first == first then
    record { span = record h.span { status = status }; rank = rank } else h

abbrev pub restated : ℕ → Status → Rank → List Held → List Held
restated first status rank = map (stated first status rank)

-- the spans without the one that begins with this number
abbrev pub without_held : ℕ → List Held → List Held
without_held first = filter (λ h. not (h.span.first == first))

-- the spans rise from this number on: each begins after the one before it ends, and the next number
-- comes after all of them
abbrev pub HeldRise : ℕ → List Held → ℕ → Type 0
HeldRise low [] next = low ≤ next
HeldRise low (h ∷ rest) next = (low ≤ h.span.first) × (h.span.first ≤ h.span.last)
    × HeldRise (suc h.span.last) rest next

abbrev pub RiseSome : List Held → Type 0
RiseSome held = (low : ℕ) × (next : ℕ) × HeldRise low held next

-- a queue's spans rise, from number 1 on
abbrev pub AreRising : Queue → Type 0
AreRising kept = HeldRise 1 kept.held kept.next

-- the queue after its subscription cuts after a cursor
abbrev pub cut_queue : ℕ → Rank → Queue
cut_queue cursor rank = record { held = []; next = suc cursor; cutting = rank }

-- changes a stored span; stores the first span never taken; removes a span
abbrev pub restated_queue : Queue → ℕ → Status → Rank → Queue
restated_queue kept first status rank =
    record kept { held = restated first status rank kept.held }

abbrev pub pushed_queue : Queue → Span → Status → Queue
pushed_queue kept span status =
    record kept {
      held = kept.held
          ++ record { span = record span { status = status }; rank = kept.cutting } ∷ [];
      next =
          suc span.last;
    }

-- the queue after a span was delivered, was returned, was settled
abbrev pub delivered_queue : Queue → Span → Status → Queue
delivered_queue kept span status =
    if span.first == kept.next then pushed_queue kept span status else
    restated_queue kept span.first status kept.cutting

abbrev pub returned_queue : Queue → ℕ → Rank → Queue
returned_queue kept first rank = restated_queue kept first (Ready true) rank

abbrev pub settled_queue : Queue → ℕ → Queue
settled_queue kept first = record kept { held = without_held first kept.held }

-- the most numbers that can be placed
abbrev pub most_numbers : ℕ
most_numbers = 16777216

-- a batch has 1 to 256 numbers, and at most `most_numbers` are placed
abbrev pub AreLimited : ℕ → ℕ → Type 0
AreLimited batch front = (1 ≤ batch) × (batch ≤ 256) × (front ≤ most_numbers)

-- a span has at least one number, and a number after its last one exists
abbrev pub HasNumbers : Span → Type 0
HasNumbers span = (span.first ≤ span.last) × (span.last < 18446744073709551615)

-- whether a queue has no span
abbrev pub is_none_left : Queue → ℕ → Bool
is_none_left kept front = is_none kept.held && nat_lt front kept.next
  where
    is_none : List Held → Bool
    is_none [] = true
    is_none (h ∷ rest) = false
