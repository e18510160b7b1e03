-- Each change of spans, with the settled ones dropped before or after it.
use Rattle.std.proofs.Common.{◌≡◌, ℕ, suc, ◌-◌, ◌≤◌, Bool, true, false, ◌&&◌, not, cond, ◌==◌, List, [], ◌∷◌, ◌++◌}
use Rattle.std.proofs.Common.{nat_lt}
use Rattle.std.proofs.Common.{eq-eqb, ne_eqb, refl, sym, ap, ◌∙◌, arith}
use Rattle.std.proofs.lemmas.Bool.{false≢true, and_right}
use Rattle.rb_deliveries.specs.declared.span.Span.{Span}
use Rattle.rb_deliveries.specs.declared.span.Status.{Status}
use Rattle.rb_deliveries.specs.declared.span.Status.TheVariants.{Ready}
use Rattle.rb_deliveries.specs.Spans.{fresh, gone_back, grown_spans, is_due, is_fresh, last_takes, last_with}
use Rattle.rb_deliveries.specs.Spans.{opened_spans}
use Rattle.rb_deliveries.specs.Spans.{singles, span_length, with_status, without_first}
use Rattle.rb_desk.specs.FullSpans.{FullSpan, Settled, Unsettled, IsPartition, all_unsettled, full_gone_back}
use Rattle.rb_desk.specs.FullSpans.{full_grown_spans}
use Rattle.rb_desk.specs.FullSpans.{full_last_takes, full_last_with, full_opened_spans, full_settled, full_with_status}
use Rattle.rb_desk.specs.FullSpans.{full_last}
use Rattle.rb_desk.specs.FullSpans.{full_raised, unsettled_spans}

pub unsettled_append : (xs ys : List FullSpan) → unsettled_spans (xs ++ ys) ≡ unsettled_spans xs ++ unsettled_spans ys
unsettled_append [] ys = refl
unsettled_append (Unsettled p ∷ xs) ys = ap (λ ws. p ∷ ws) (unsettled_append xs ys)
unsettled_append (Settled a b ∷ xs) ys = unsettled_append xs ys

pub unsettled_all : (spans : List Span) → unsettled_spans (all_unsettled spans) ≡ spans
unsettled_all [] = refl
unsettled_all (p ∷ rest) = ap (λ ws. p ∷ ws) (unsettled_all rest)

pub unsettled_status : (first : ℕ) (status : Status) (xs : List FullSpan)
    → unsettled_spans (full_with_status first status xs) ≡ with_status first status (unsettled_spans xs)
unsettled_status first status [] = refl
unsettled_status first status (Unsettled p ∷ rest) =
    ap (λ ws. cond (p.first == first) (record p { status = status }) p ∷ ws) (unsettled_status first status rest)
unsettled_status first status (Settled a b ∷ rest) = unsettled_status first status rest

pub unsettled_back : (timeout clock : ℕ) (xs : List FullSpan)
    → unsettled_spans (full_gone_back timeout clock xs) ≡ gone_back timeout clock (unsettled_spans xs)
unsettled_back timeout clock [] = refl
unsettled_back timeout clock (Unsettled p ∷ rest) =
    ap (λ ws. cond (is_due timeout clock p.status) (record p { status = Ready true }) p ∷ ws)
    (unsettled_back timeout clock rest)
unsettled_back timeout clock (Settled a b ∷ rest) = unsettled_back timeout clock rest

pub unsettled_once_settled : (first : ℕ) (xs : List FullSpan)
    → unsettled_spans (full_settled first xs) ≡ without_first first (unsettled_spans xs)
unsettled_once_settled first [] = refl
unsettled_once_settled first (Unsettled p ∷ rest) = by (p.first == first) (unsettled_once_settled first rest)
  where
    by : (b : Bool) → unsettled_spans (full_settled first rest) ≡ without_first first (unsettled_spans rest)
        → unsettled_spans (cond b (Settled p.first p.last) (Unsettled p) ∷ full_settled first rest)
        ≡ cond (not b) (p ∷ without_first first (unsettled_spans rest)) (without_first first (unsettled_spans rest))
    by true next = next
    by false next = ap (λ ws. p ∷ ws) next
unsettled_once_settled first (Settled a b ∷ rest) = unsettled_once_settled first rest

pub unsettled_raised : (floor : ℕ) (xs : List FullSpan) → unsettled_spans (full_raised floor xs).1 ≡ unsettled_spans xs
unsettled_raised floor [] = refl
unsettled_raised floor (Unsettled p ∷ rest) = refl
unsettled_raised floor (Settled a b ∷ rest) = unsettled_raised b rest

pub unsettled_opened : (first : ℕ) (xs : List FullSpan)
    → unsettled_spans (full_opened_spans first xs) ≡ opened_spans first (unsettled_spans xs)
unsettled_opened first [] = refl
unsettled_opened first (Unsettled p ∷ rest) =
    unsettled_append (cond (p.first == first) (all_unsettled (singles p.first (span_length p))) (Unsettled p ∷ []))
    (full_opened_spans first rest)
    ∙ (λ i. one (p.first == first) i ++ unsettled_opened first rest i)
  where
    one : (b : Bool) → unsettled_spans (cond b (all_unsettled (singles p.first (span_length p))) (Unsettled p ∷ []))
        ≡ cond b (singles p.first (span_length p)) (p ∷ [])
    one true = unsettled_all (singles p.first (span_length p))
    one false = refl
unsettled_opened first (Settled a b ∷ rest) = unsettled_opened first rest

-- ---- the last span takes a number

-- a partition begins right after its end at the latest; one with a span begins at its end or before
pub part_reach : (low high : ℕ) (xs : List FullSpan) → IsPartition low xs high → low ≤ suc high
part_reach low high [] h = omega (arith, h)
part_reach low high (x ∷ rest) h = omega (arith, h.0, h.1, part_reach (suc (full_last x)) high rest h.2)

pub part_more : (low high : ℕ) (x : FullSpan) (rest : List FullSpan) → IsPartition low (x ∷ rest) high → low ≤ high
part_more low high x rest h = omega (arith, h.0, h.1, part_reach (suc (full_last x)) high rest h.2)

-- a span that doesn't end at the front takes no number, so the others decide
ends_before : (batch n : ℕ) (p : Span) (ws : List Span) → (suc p.last ≡ n → ⊥)
    → last_takes batch n (p ∷ ws) ≡ last_takes batch n ws
ends_before batch n p [] other =
    ap (λ b. is_fresh p.status && (b && nat_lt (suc p.last - p.first) batch)) (ne_eqb (suc p.last) n other)
    ∙ and_right (is_fresh p.status) false refl
ends_before batch n p (q ∷ ws) other = refl

pub takes_same : (batch low front : ℕ) (xs : List FullSpan) → IsPartition low xs front
    → full_last_takes batch xs ≡ last_takes batch (suc front) (unsettled_spans xs)
takes_same batch low front [] h = refl
takes_same batch low front (Unsettled p ∷ []) h =
    sym (ap (λ b. is_fresh p.status && (b && nat_lt (suc p.last - p.first) batch))
    (eq-eqb (suc p.last) (suc front) h.2))
takes_same batch low front (Settled a b ∷ []) h = refl
takes_same batch low front (Unsettled p ∷ y ∷ rest) h =
    takes_same batch (suc p.last) front (y ∷ rest) h.2
    ∙ sym (ends_before batch (suc front) p (unsettled_spans (y ∷ rest))
    (λ e. omega (arith, e, part_more (suc p.last) front y rest h.2)))
takes_same batch low front (Settled a b ∷ y ∷ rest) h = takes_same batch (suc b) front (y ∷ rest) h.2

-- if the last span takes a number, it is an unsettled one
pub last_with_shown : (batch low front n : ℕ) (xs : List FullSpan) → IsPartition low xs front
    → full_last_takes batch xs ≡ true
    → unsettled_spans (full_last_with n xs) ≡ last_with n (unsettled_spans xs)
last_with_shown batch low front n [] h takes = refl
last_with_shown batch low front n (Unsettled p ∷ []) h takes = refl
last_with_shown batch low front n (Settled a b ∷ []) h takes = absurd (false≢true takes)
last_with_shown batch low front n (Unsettled p ∷ y ∷ rest) h takes =
    ap (λ ws. p ∷ ws) (last_with_shown batch (suc p.last) front n (y ∷ rest) h.2 takes)
    ∙ by (unsettled_spans (y ∷ rest)) (sym (takes_same batch (suc p.last) front (y ∷ rest) h.2) ∙ takes)
  where
    by : (ws : List Span) → last_takes batch (suc front) ws ≡ true → p ∷ last_with n ws ≡ last_with n (p ∷ ws)
    by [] none = absurd (false≢true none)
    by (q ∷ ws) some = refl
last_with_shown batch low front n (Settled a b ∷ y ∷ rest) h takes =
    last_with_shown batch (suc b) front n (y ∷ rest) h.2 takes

pub unsettled_grown : (batch low front : ℕ) (xs : List FullSpan) → IsPartition low xs front
    → unsettled_spans (full_grown_spans batch (suc front) xs) ≡ grown_spans batch (suc front) (unsettled_spans xs)
unsettled_grown batch low front xs h =
    by (full_last_takes batch xs) refl
    ∙ ap (λ b. cond b (last_with (suc front) (unsettled_spans xs))
    (unsettled_spans xs ++ fresh (suc front) (suc front) ∷ []))
    (takes_same batch low front xs h)
  where
    by : (b : Bool) → full_last_takes batch xs ≡ b
        → unsettled_spans (cond b (full_last_with (suc front) xs)
        (xs ++ Unsettled (fresh (suc front) (suc front)) ∷ []))
        ≡ cond b (last_with (suc front) (unsettled_spans xs)) (unsettled_spans xs ++ fresh (suc front) (suc front) ∷ [])
    by true takes = last_with_shown batch low front (suc front) xs h takes
    by false takes = unsettled_append xs (Unsettled (fresh (suc front) (suc front)) ∷ [])
