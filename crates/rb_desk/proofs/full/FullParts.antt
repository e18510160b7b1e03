-- Each change of the spans of a partition leaves a partition, and no settled span first.
use Rattle.std.proofs.Common.{◌≡◌, ℕ, zero, suc, ◌+◌, ◌-◌, ◌≤◌, Bool, true, false, cond, ◌==◌, List, [], ◌∷◌, ◌++◌}
use Rattle.std.proofs.Common.{refl, sym, subst, arith}
use Rattle.std.proofs.lemmas.Bool.{false≢true}
use Rattle.rb_deliveries.specs.declared.span.Span.{Span}
use Rattle.rb_deliveries.specs.declared.span.Status.{Status}
use Rattle.rb_deliveries.specs.declared.span.Status.TheVariants.{Ready}
use Rattle.rb_deliveries.specs.Spans.{cut_spans, floor_of, fresh, is_due, singles, span_length}
use Rattle.rb_deliveries.proofs.spans.CutLaws.{cut_induction}
use Rattle.rb_desk.proofs.calls.CallCases.{either_way}
use Rattle.rb_desk.specs.FullSpans.{FullSpan, Settled, Unsettled, IsPartition, StartsUnsettled, all_unsettled}
use Rattle.rb_desk.specs.FullSpans.{full_gone_back, full_grown_spans, full_last_takes, full_last_with}
use Rattle.rb_desk.specs.FullSpans.{full_opened_spans, full_settled}
use Rattle.rb_desk.specs.FullSpans.{full_with_status, full_last, full_raised, unsettled_spans}

-- ---- cut spans

pub cut_part : (batch a b : ℕ) → 1 ≤ batch → a ≤ suc b → IsPartition a (all_unsettled (cut_spans batch a b)) b
cut_part batch a b one =
    cut_induction batch b (λ a spans. a ≤ suc b → IsPartition a (all_unsettled spans) b) one
    (λ a less h. omega (arith, less, h))
    (λ a le rest h. (refl, omega (arith, le, one), rest (omega arith)))
    (suc b - a) a (omega arith)

pub all_start : (spans : List Span) → StartsUnsettled (all_unsettled spans)
all_start [] = tt
all_start (p ∷ rest) = tt

-- ---- a span changes and keeps its numbers

pub status_part : (low high first : ℕ) (status : Status) (xs : List FullSpan) → IsPartition low xs high
    → IsPartition low (full_with_status first status xs) high
status_part low high first status [] h = h
status_part low high first status (Unsettled p ∷ rest) h =
    by (p.first == first) (status_part (suc p.last) high first status rest h.2)
  where
    by : (b : Bool) → IsPartition (suc p.last) (full_with_status first status rest) high
        → IsPartition low (Unsettled (cond b (record p { status = status }) p) ∷ full_with_status first status rest)
        high
    by true next = (h.0, h.1, next)
    by false next = (h.0, h.1, next)
status_part low high first status (Settled a b ∷ rest) h =
    (h.0, h.1, status_part (suc b) high first status rest h.2)

pub status_starts : (first : ℕ) (status : Status) (xs : List FullSpan) → StartsUnsettled xs
    → StartsUnsettled (full_with_status first status xs)
status_starts first status [] h = tt
status_starts first status (Unsettled p ∷ rest) h = tt
status_starts first status (Settled a b ∷ rest) h = h

pub back_part : (low high timeout clock : ℕ) (xs : List FullSpan) → IsPartition low xs high
    → IsPartition low (full_gone_back timeout clock xs) high
back_part low high timeout clock [] h = h
back_part low high timeout clock (Unsettled p ∷ rest) h =
    by (is_due timeout clock p.status) (back_part (suc p.last) high timeout clock rest h.2)
  where
    by : (b : Bool) → IsPartition (suc p.last) (full_gone_back timeout clock rest) high
        → IsPartition low (Unsettled
        (cond b (record p { status = Ready true }) p) ∷ full_gone_back timeout clock rest) high
    by true next = (h.0, h.1, next)
    by false next = (h.0, h.1, next)
back_part low high timeout clock (Settled a b ∷ rest) h = (h.0, h.1, back_part (suc b) high timeout clock rest h.2)

pub back_starts : (timeout clock : ℕ) (xs : List FullSpan) → StartsUnsettled xs
    → StartsUnsettled (full_gone_back timeout clock xs)
back_starts timeout clock [] h = tt
back_starts timeout clock (Unsettled p ∷ rest) h = tt
back_starts timeout clock (Settled a b ∷ rest) h = h

pub settled_part : (low high first : ℕ) (xs : List FullSpan) → IsPartition low xs high
    → IsPartition low (full_settled first xs) high
settled_part low high first [] h = h
settled_part low high first (Unsettled p ∷ rest) h =
    by (p.first == first) (settled_part (suc p.last) high first rest h.2)
  where
    by : (b : Bool) → IsPartition (suc p.last) (full_settled first rest) high
        → IsPartition low (cond b (Settled p.first p.last) (Unsettled p) ∷ full_settled first rest) high
    by true next = (h.0, h.1, next)
    by false next = (h.0, h.1, next)
settled_part low high first (Settled a b ∷ rest) h = (h.0, h.1, settled_part (suc b) high first rest h.2)

-- ---- settled spans are removed from the front

pub raised_part : (floor high : ℕ) (xs : List FullSpan) → IsPartition (suc floor) xs high
    → IsPartition (suc (full_raised floor xs).0) (full_raised floor xs).1 high
raised_part floor high [] h = h
raised_part floor high (Unsettled p ∷ rest) h = h
raised_part floor high (Settled a b ∷ rest) h = raised_part b high rest h.2

pub raised_starts : (floor : ℕ) (xs : List FullSpan) → StartsUnsettled (full_raised floor xs).1
raised_starts floor [] = tt
raised_starts floor (Unsettled p ∷ rest) = tt
raised_starts floor (Settled a b ∷ rest) = raised_starts b rest

-- the floor of the unsettled spans is the one that the partition begins after
floor_same : (floor high : ℕ) (xs : List FullSpan) → IsPartition (suc floor) xs high → StartsUnsettled xs
    → floor_of (unsettled_spans xs) high ≡ floor
floor_same floor high [] h starts = omega (arith, h)
floor_same floor high (Unsettled p ∷ rest) h starts = omega (arith, h.0)
floor_same floor high (Settled a b ∷ rest) h starts = absurd starts

pub raised_floor : (floor high : ℕ) (xs : List FullSpan) → IsPartition (suc floor) xs high
    → floor_of (unsettled_spans (full_raised floor xs).1) high ≡ (full_raised floor xs).0
raised_floor floor high xs h =
    floor_same (full_raised floor xs).0 high (full_raised floor xs).1 (raised_part floor high xs h)
    (raised_starts floor xs)

-- ---- a span is opened

singles_part : (n count end high : ℕ) (rest : List FullSpan) → n + count ≡ end → IsPartition end rest high
    → IsPartition n (all_unsettled (singles n count) ++ rest) high
singles_part n zero end high rest is h = subst (λ low. IsPartition low rest high) (omega (arith, is)) h
singles_part n (suc count) end high rest is h =
    (refl, omega arith, singles_part (suc n) count end high rest (omega (arith, is)) h)

pub opened_part : (low high first : ℕ) (xs : List FullSpan) → IsPartition low xs high
    → IsPartition low (full_opened_spans first xs) high
opened_part low high first [] h = h
opened_part low high first (Unsettled p ∷ rest) h =
    by (p.first == first) (opened_part (suc p.last) high first rest h.2)
  where
    by : (b : Bool) → IsPartition (suc p.last) (full_opened_spans first rest) high
        → IsPartition low
        (cond b (all_unsettled (singles p.first (span_length p))) (Unsettled p ∷ []) ++ full_opened_spans first rest)
        high
    by true next =
        subst (λ n. IsPartition n
        (all_unsettled (singles p.first (span_length p)) ++ full_opened_spans first rest) high) h.0
        (singles_part p.first (span_length p) (suc p.last) high (full_opened_spans first rest)
        (omega (arith, h.1)) next)
    by false next = (h.0, h.1, next)
opened_part low high first (Settled a b ∷ rest) h = (h.0, h.1, opened_part (suc b) high first rest h.2)

singles_start : (n count : ℕ) (rest : List FullSpan) → 1 ≤ count
    → StartsUnsettled (all_unsettled (singles n count) ++ rest)
singles_start n zero rest one = absurd (omega (arith, one))
singles_start n (suc count) rest one = tt

pub opened_starts : (low high first : ℕ) (xs : List FullSpan) → IsPartition low xs high → StartsUnsettled xs
    → StartsUnsettled (full_opened_spans first xs)
opened_starts low high first [] h starts = tt
opened_starts low high first (Unsettled p ∷ rest) h starts = by (p.first == first)
  where
    by : (b : Bool) → StartsUnsettled
        (cond b (all_unsettled (singles p.first (span_length p))) (Unsettled p ∷ []) ++ full_opened_spans first rest)
    by true = singles_start p.first (span_length p) (full_opened_spans first rest) (omega (arith, h.1))
    by false = tt
opened_starts low high first (Settled a b ∷ rest) h starts = absurd starts

-- ---- a number is placed

lengthened_part : (batch low front : ℕ) (xs : List FullSpan) → full_last_takes batch xs ≡ true
    → IsPartition low xs front
    → IsPartition low (full_last_with (suc front) xs) (suc front)
lengthened_part batch low front [] takes h = absurd (false≢true takes)
lengthened_part batch low front (Unsettled p ∷ []) takes h = (h.0, omega (arith, h.1, h.2), refl)
lengthened_part batch low front (Settled a b ∷ []) takes h = absurd (false≢true takes)
lengthened_part batch low front (Unsettled p ∷ y ∷ rest) takes h =
    (h.0, h.1, lengthened_part batch (suc p.last) front (y ∷ rest) takes h.2)
lengthened_part batch low front (Settled a b ∷ y ∷ rest) takes h =
    (h.0, h.1, lengthened_part batch (suc b) front (y ∷ rest) takes h.2)

more_part : (low front : ℕ) (xs : List FullSpan) → IsPartition low xs front
    → IsPartition low (xs ++ Unsettled (fresh (suc front) (suc front)) ∷ []) (suc front)
more_part low front [] h = (sym h, omega arith, refl)
more_part low front (x ∷ rest) h = (h.0, h.1, more_part (suc (full_last x)) front rest h.2)

pub grown_part : (batch low front : ℕ) (xs : List FullSpan) → IsPartition low xs front
    → IsPartition low (full_grown_spans batch (suc front) xs) (suc front)
grown_part batch low front xs h = by (full_last_takes batch xs) refl
  where
    by : (b : Bool) → full_last_takes batch xs ≡ b
        → IsPartition low (cond b (full_last_with (suc front) xs)
        (xs ++ Unsettled (fresh (suc front) (suc front)) ∷ []))
        (suc front)
    by true takes = lengthened_part batch low front xs takes h
    by false takes = more_part low front xs h

with_starts : (n : ℕ) (xs : List FullSpan) → StartsUnsettled xs → StartsUnsettled (full_last_with n xs)
with_starts n [] h = tt
with_starts n (Unsettled p ∷ []) h = tt
with_starts n (Settled a b ∷ []) h = h
with_starts n (Unsettled p ∷ y ∷ rest) h = tt
with_starts n (Settled a b ∷ y ∷ rest) h = h

more_starts : (n : ℕ) (xs : List FullSpan) → StartsUnsettled xs → StartsUnsettled (xs ++ Unsettled (fresh n n) ∷ [])
more_starts n [] h = tt
more_starts n (Unsettled p ∷ rest) h = tt
more_starts n (Settled a b ∷ rest) h = h

pub grown_starts : (batch n : ℕ) (xs : List FullSpan) → StartsUnsettled xs
    → StartsUnsettled (full_grown_spans batch n xs)
grown_starts batch n xs h =
    either_way StartsUnsettled (full_last_takes batch xs) (full_last_with n xs) (xs ++ Unsettled (fresh n n) ∷ [])
    (with_starts n xs h) (more_starts n xs h)
