-- The spans of a subscription, settled ones included, and how they change. Those of an open
-- subscription partition the numbers after its floor, up to the front.
use Rattle.std.specs.Prelude.{◌≡◌, ℕ, suc, ◌-◌, ◌≤◌, Bool, true, false, ◌&&◌, List, [], ◌∷◌}
use Rattle.std.specs.Prelude.{◌++◌, map, ◌==◌, nat_lt, if◌then◌else◌, ◌⊎◌}
use Rattle.rb_deliveries.specs.declared.span.Span.{Span}
use Rattle.rb_deliveries.specs.declared.span.Status.{Status}
use Rattle.rb_deliveries.specs.declared.span.Status.TheVariants.{Ready}
use Rattle.rb_deliveries.specs.Spans.{fresh, is_due, is_fresh, singles, span_length}

-- a span that is ready or in flight, or the first and the last number of a settled one
pub data FullSpan : Type 0 where
  Unsettled : Span → FullSpan
  Settled : ℕ → ℕ → FullSpan

abbrev pub full_first : FullSpan → ℕ
full_first (Unsettled p) = p.first
full_first (Settled first last) = first

abbrev pub full_last : FullSpan → ℕ
full_last (Unsettled p) = p.last
full_last (Settled first last) = last

-- the spans that are ready or in flight, and such spans with no settled one
abbrev pub unsettled_spans : List FullSpan → List Span
unsettled_spans [] = []
unsettled_spans (Unsettled p ∷ rest) = p ∷ unsettled_spans rest
unsettled_spans (Settled first last ∷ rest) = unsettled_spans rest

abbrev pub all_unsettled : List Span → List FullSpan
all_unsettled = map (λ p. Unsettled p)

-- Spans partition the numbers from `low` to `high`: each has a number, the first begins with `low`,
-- each other one right after the one before it, and the last ends with `high`.
abbrev pub IsPartition : ℕ → List FullSpan → ℕ → Type 0
IsPartition low [] high = low ≡ suc high
IsPartition low (x ∷ rest) high =
    (full_first x ≡ low) × (full_first x ≤ full_last x) × IsPartition (suc (full_last x)) rest high

-- a settled span from `first` to `last` is one of these
abbrev pub IsSettledSpan : ℕ → ℕ → List FullSpan → Type 0
IsSettledSpan first last [] = ⊥
IsSettledSpan first last (Unsettled p ∷ rest) = IsSettledSpan first last rest
IsSettledSpan first last (Settled a b ∷ rest) = ((a ≡ first) × (b ≡ last))
    ⊎ IsSettledSpan first last rest

-- a settled span has this number
abbrev pub IsInSettled : ℕ → List FullSpan → Type 0
IsInSettled n [] = ⊥
IsInSettled n (Unsettled p ∷ rest) = IsInSettled n rest
IsInSettled n (Settled a b ∷ rest) = ((a ≤ n) × (n ≤ b)) ⊎ IsInSettled n rest

-- no settled span comes first
abbrev pub StartsUnsettled : List FullSpan → Type 0
StartsUnsettled [] = Unit {0}
StartsUnsettled (Unsettled p ∷ rest) = Unit {0}
StartsUnsettled (Settled a b ∷ rest) = ⊥

-- ---- changes

-- the unsettled span that begins with this number gets this status
abbrev pub full_with_status : ℕ → Status → List FullSpan → List FullSpan
full_with_status first status [] = []
full_with_status first status (Unsettled p ∷ rest) =
    Unsettled (if p.first == first then record p { status = status } else p)
    ∷ full_with_status first status rest
full_with_status first status (Settled a b ∷ rest) =
    Settled a b ∷ full_with_status first status rest

-- what is due is ready again
abbrev pub full_gone_back : ℕ → ℕ → List FullSpan → List FullSpan
full_gone_back timeout clock [] = []
full_gone_back timeout clock (Unsettled p ∷ rest) =
    Unsettled (if is_due timeout clock p.status then record p { status = Ready true } else p)
    ∷ full_gone_back timeout clock rest
full_gone_back timeout clock (Settled a b ∷ rest) = Settled a b ∷ full_gone_back timeout clock rest

-- the unsettled span that begins with this number is settled
abbrev pub full_settled : ℕ → List FullSpan → List FullSpan
full_settled first [] = []
full_settled first (Unsettled p ∷ rest) =
    (if p.first == first then Settled p.first p.last else Unsettled p) ∷ full_settled first rest
full_settled first (Settled a b ∷ rest) = Settled a b ∷ full_settled first rest

-- As long as a settled span comes first, it is removed and its last number is the floor. The pair
-- is the floor at the end and the spans left.
abbrev pub full_raised : ℕ → List FullSpan → ℕ × List FullSpan
full_raised floor [] = (floor, [])
full_raised floor (Unsettled p ∷ rest) = (floor, Unsettled p ∷ rest)
full_raised floor (Settled a b ∷ rest) = full_raised b rest

-- the unsettled span that begins with this number is opened: each of its numbers is a span
abbrev pub full_opened_spans : ℕ → List FullSpan → List FullSpan
full_opened_spans first [] = []
full_opened_spans first (Unsettled p ∷ rest) =
    (if p.first == first then all_unsettled (singles p.first (span_length p)) else Unsettled p ∷ [])
    ++ full_opened_spans first rest
full_opened_spans first (Settled a b ∷ rest) = Settled a b ∷ full_opened_spans first rest

-- Number n is placed. If the last span is ready, was never taken and has fewer than `batch`
-- numbers, it takes n; else n begins a new one.
abbrev pub full_last_takes : ℕ → List FullSpan → Bool
full_last_takes batch [] = false
full_last_takes batch (Unsettled p ∷ []) =
    is_fresh p.status && nat_lt (suc p.last - p.first) batch
full_last_takes batch (Settled a b ∷ []) = false
full_last_takes batch (x ∷ y ∷ rest) = full_last_takes batch (y ∷ rest)

abbrev pub full_last_with : ℕ → List FullSpan → List FullSpan
full_last_with n [] = []
full_last_with n (Unsettled p ∷ []) = Unsettled (record p { last = n }) ∷ []
full_last_with n (Settled a b ∷ []) = Settled a b ∷ []
full_last_with n (x ∷ y ∷ rest) = x ∷ full_last_with n (y ∷ rest)

abbrev pub full_grown_spans : ℕ → ℕ → List FullSpan → List FullSpan
full_grown_spans batch n spans =
    if full_last_takes batch spans then full_last_with n spans else spans
    ++ Unsettled (fresh n n) ∷ []
