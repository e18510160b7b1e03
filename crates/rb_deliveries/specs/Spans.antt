-- The spans of one subscription: how numbers are cut into spans, and how their statuses change. A
-- number after the floor that is in no span is settled.
use Rattle.std.specs.Prelude.{ℕ, zero, suc, ◌+◌, ◌-◌, ◌≤◌, min, Bool, true, false, not, ◌&&◌, List}
use Rattle.std.specs.Prelude.{[], ◌∷◌, ◌++◌, length, Option, ◌==◌, nat_lt, nat_le, if◌then◌else◌}
use Rattle.std.specs.List.{filter, find}
use Rattle.rb_deliveries.specs.declared.span.Span.{Span}
use Rattle.rb_deliveries.specs.declared.span.Status.{Status}
use Rattle.rb_deliveries.specs.declared.span.Status.TheVariants.{Ready, InFlight}

-- whether a status is ready; ready and never taken; in flight as this delivery; in flight
abbrev pub is_ready : Status → Bool
is_ready (Ready taken) = true
is_ready (InFlight number moment) = false

abbrev pub is_fresh : Status → Bool
is_fresh (Ready taken) = not taken
is_fresh (InFlight number moment) = false

abbrev pub is_out_as : ℕ → Status → Bool
is_out_as d (Ready taken) = false
is_out_as d (InFlight number moment) = number == d

abbrev pub is_out : Status → Bool
is_out (Ready taken) = false
is_out (InFlight number moment) = true

-- whether a status is in flight, taken at least `timeout` ticks ago
abbrev pub is_due : ℕ → ℕ → Status → Bool
is_due timeout clock (Ready taken) = false
is_due timeout clock (InFlight number moment) = nat_le timeout (clock - moment)

-- a ready span that was never taken
abbrev pub fresh : ℕ → ℕ → Span
fresh first last = record { first = first; last = last; status = Ready false }

-- spans rise within the numbers from low to high: each has a number, and begins after the one
-- before it ends
abbrev pub SpansRise : ℕ → List Span → ℕ → Type 0
SpansRise low [] high = low ≤ suc high
SpansRise low (p ∷ rest) high = (low ≤ p.first) × (p.first ≤ p.last)
    × SpansRise (suc p.last) rest high

-- Cuts the numbers from a to b into spans: the first `batch` numbers, or as many as there are, then
-- the rest. There are at most as many spans as numbers.
abbrev pub cut_into : ℕ → ℕ → ℕ → ℕ → List Span
cut_into zero batch a b = []
cut_into (suc most) batch a b = if nat_lt b a then [] else fresh a (min (a + batch - 1) b)
    ∷ cut_into most batch (a + batch) b

unfoldable pub cut_spans : ℕ → ℕ → ℕ → List Span
cut_spans batch a b = cut_into (suc b - a) batch a b

-- the first span that is ready, the one that is in flight as this delivery, and the one that begins
-- with this number
abbrev pub first_ready : List Span → Option Span
first_ready = find (λ p. is_ready p.status)

abbrev pub out_as : ℕ → List Span → Option Span
out_as d = find (λ p. is_out_as d p.status)

abbrev pub beginning : ℕ → List Span → Option Span
beginning first = find (λ p. p.first == first)

-- how many are in flight
abbrev pub how_many_out : List Span → ℕ
how_many_out spans = length (filter (λ p. is_out p.status) spans)

-- how many are ready
abbrev pub how_many_ready : List Span → ℕ
how_many_ready spans = length (filter (λ p. is_ready p.status) spans)

-- sets the status of the span that begins with this number
abbrev pub with_status : ℕ → Status → List Span → List Span
with_status first status [] = []
with_status first status (p ∷ rest) = (if p.first == first then record p { status = status } else p)
    ∷ with_status first status rest

-- makes the spans that are due ready again
abbrev pub gone_back : ℕ → ℕ → List Span → List Span
gone_back timeout clock [] = []
gone_back timeout clock (p ∷ rest) =
    (if is_due timeout clock p.status then record p { status = Ready true } else p)
    ∷ gone_back timeout clock rest

-- the spans without the one that begins with this number
abbrev pub without_first : ℕ → List Span → List Span
without_first first = filter (λ p. not (p.first == first))

-- how many numbers a span has
abbrev pub span_length : Span → ℕ
span_length p = suc p.last - p.first

-- `count` numbers from n on, each a ready span of its own, which counts as taken
abbrev pub single_span : ℕ → Span
single_span n = record { first = n; last = n; status = Ready true }

abbrev pub singles : ℕ → ℕ → List Span
singles n zero = []
singles n (suc count) = single_span n ∷ singles (suc n) count

-- opens the span that begins with this number: each of its numbers is a span in its place
abbrev pub opened_spans : ℕ → List Span → List Span
opened_spans first [] = []
opened_spans first (p ∷ rest) =
    (if p.first == first then singles p.first (span_length p) else p ∷ [])
    ++ opened_spans first rest

-- everything before the first span is settled; if there is none, everything up to the front
abbrev pub floor_of : List Span → ℕ → ℕ
floor_of [] front = front
floor_of (p ∷ rest) front = p.first - 1

-- the last span takes number n if it is ready, was never taken, ends right before n and has fewer
-- than `batch` numbers
abbrev pub takes_one_more : ℕ → ℕ → Span → Bool
takes_one_more batch n p =
    is_fresh p.status && ((suc p.last == n) && nat_lt (suc p.last - p.first) batch)

abbrev pub last_takes : ℕ → ℕ → List Span → Bool
last_takes batch n [] = false
last_takes batch n (p ∷ []) = takes_one_more batch n p
last_takes batch n (p ∷ q ∷ rest) = last_takes batch n (q ∷ rest)

abbrev pub last_with : ℕ → List Span → List Span
last_with n [] = []
last_with n (p ∷ []) = record p { last = n } ∷ []
last_with n (p ∷ q ∷ rest) = p ∷ last_with n (q ∷ rest)

-- the spans after number n is placed: the last one takes it, or a new one begins with it
abbrev pub grown_spans : ℕ → ℕ → List Span → List Span
grown_spans batch n spans = if last_takes batch n spans then last_with n spans else spans
    ++ fresh n n ∷ []
