-- Each change of spans, and which numbers are in settled ones after it.
use Rattle.std.proofs.Common.{◌≡◌, ℕ, suc, ◌<◌, ◌≤◌, ◌⊎◌, inl, inr, Bool, true, false, cond, ◌==◌, List, [], ◌∷◌, ◌++◌}
use Rattle.std.proofs.Common.{Some, None, ne_eqb, eqb-true, refl, ap, ◌∙◌, subst, arith}
use Rattle.rb_deliveries.specs.declared.span.Span.{Span}
use Rattle.rb_deliveries.specs.declared.span.Status.{Status}
use Rattle.rb_deliveries.specs.Spans.{beginning, fresh, singles, span_length}
use Rattle.rb_desk.specs.FullSpans.{FullSpan, Settled, Unsettled, IsPartition, IsInSettled, all_unsettled}
use Rattle.rb_desk.specs.FullSpans.{full_gone_back}
use Rattle.rb_desk.specs.FullSpans.{full_grown_spans, full_last_takes, full_last_with, full_opened_spans, full_settled}
use Rattle.rb_desk.specs.FullSpans.{full_with_status}
use Rattle.rb_desk.specs.FullSpans.{full_raised, unsettled_spans}

-- number n is in a settled span of both, or of neither
abbrev pub SameSettled : ℕ → List FullSpan → List FullSpan → Type 1
SameSettled n xs ys = IsInSettled n xs ≡ IsInSettled n ys

abbrev or : ℕ → ℕ → ℕ → Type 0 → Type 0
or n a b X = ((a ≤ n) × (n ≤ b)) ⊎ X

-- unsettled spans add nothing
pub unsettled_adds_none : (n : ℕ) (spans : List Span) (xs : List FullSpan)
    → SameSettled n (all_unsettled spans ++ xs) xs
unsettled_adds_none n [] xs = refl
unsettled_adds_none n (p ∷ rest) xs = unsettled_adds_none n rest xs

pub none_settled_yet : (n : ℕ) (spans : List Span) → IsInSettled n (all_unsettled spans) → ⊥
none_settled_yet n [] h = h
none_settled_yet n (p ∷ rest) h = none_settled_yet n rest h

pub status_same : (n first : ℕ) (status : Status) (xs : List FullSpan)
    → SameSettled n (full_with_status first status xs) xs
status_same n first status [] = refl
status_same n first status (Unsettled p ∷ rest) = status_same n first status rest
status_same n first status (Settled a b ∷ rest) = ap (or n a b) (status_same n first status rest)

pub back_same : (n timeout clock : ℕ) (xs : List FullSpan) → SameSettled n (full_gone_back timeout clock xs) xs
back_same n timeout clock [] = refl
back_same n timeout clock (Unsettled p ∷ rest) = back_same n timeout clock rest
back_same n timeout clock (Settled a b ∷ rest) = ap (or n a b) (back_same n timeout clock rest)

pub opened_same : (n first : ℕ) (xs : List FullSpan) → SameSettled n (full_opened_spans first xs) xs
opened_same n first [] = refl
opened_same n first (Unsettled p ∷ rest) = by (p.first == first) ∙ opened_same n first rest
  where
    by : (b : Bool) → SameSettled n
        (cond b (all_unsettled (singles p.first (span_length p))) (Unsettled p ∷ []) ++ full_opened_spans first rest)
        (full_opened_spans first rest)
    by true = unsettled_adds_none n (singles p.first (span_length p)) (full_opened_spans first rest)
    by false = refl
opened_same n first (Settled a b ∷ rest) = ap (or n a b) (opened_same n first rest)

lengthened_same : (n m : ℕ) (xs : List FullSpan) → SameSettled n (full_last_with m xs) xs
lengthened_same n m [] = refl
lengthened_same n m (Unsettled p ∷ []) = refl
lengthened_same n m (Settled a b ∷ []) = refl
lengthened_same n m (Unsettled p ∷ y ∷ rest) = lengthened_same n m (y ∷ rest)
lengthened_same n m (Settled a b ∷ y ∷ rest) = ap (or n a b) (lengthened_same n m (y ∷ rest))

more_same : (n : ℕ) (p : Span) (xs : List FullSpan) → SameSettled n (xs ++ Unsettled p ∷ []) xs
more_same n p [] = refl
more_same n p (Unsettled q ∷ rest) = more_same n p rest
more_same n p (Settled a b ∷ rest) = ap (or n a b) (more_same n p rest)

pub growth_same : (n batch m : ℕ) (xs : List FullSpan) → SameSettled n (full_grown_spans batch m xs) xs
growth_same n batch m xs = by (full_last_takes batch xs)
  where
    by : (b : Bool) → SameSettled n (cond b (full_last_with m xs) (xs ++ Unsettled (fresh m m) ∷ [])) xs
    by true = lengthened_same n m xs
    by false = more_same n (fresh m m) xs

-- ---- a span is settled

pub settled_still : (n first : ℕ) (xs : List FullSpan) → IsInSettled n xs → IsInSettled n (full_settled first xs)
settled_still n first [] h = h
settled_still n first (Unsettled p ∷ rest) h = by (p.first == first) (settled_still n first rest h)
  where
    by : (b : Bool) → IsInSettled n (full_settled first rest)
        → IsInSettled n (cond b (Settled p.first p.last) (Unsettled p) ∷ full_settled first rest)
    by true next = inr next
    by false next = next
settled_still n first (Settled a b ∷ rest) (inl here) = inl here
settled_still n first (Settled a b ∷ rest) (inr there) = inr (settled_still n first rest there)

pub settled_now : (n first : ℕ) (xs : List FullSpan) (span : Span) → beginning first (unsettled_spans xs) ≡ Some span
    → span.first ≤ n → n ≤ span.last → IsInSettled n (full_settled first xs)
settled_now n first [] span found from to = absurd (let none : None ≡ Some span = found in cc)
settled_now n first (Unsettled p ∷ rest) span found from to =
    by (p.first == first) found (λ more. settled_now n first rest span more from to)
  where
    by : (b : Bool) → cond b (Some p) (beginning first (unsettled_spans rest)) ≡ Some span
        → (beginning first (unsettled_spans rest) ≡ Some span → IsInSettled n (full_settled first rest))
        → IsInSettled n (cond b (Settled p.first p.last) (Unsettled p) ∷ full_settled first rest)
    by true here next =
        let e : span ≡ p = cc in
        inl (subst (λ (x : Span). (x.first ≤ n) × (n ≤ x.last)) e (from, to))
    by false here next = next here
settled_now n first (Settled a b ∷ rest) span found from to = inr (settled_now n first rest span found from to)

-- no span begins with the number, so none is settled
settles_none : (first low high : ℕ) (xs : List FullSpan) → IsPartition low xs high → first < low
    → full_settled first xs ≡ xs
settles_none first low high [] h less = refl
settles_none first low high (Unsettled p ∷ rest) h less =
    (λ i. cond (ne_eqb p.first first (omega (arith, h.0, less)) i) (Settled p.first p.last) (Unsettled p)
    ∷ settles_none first (suc p.last) high rest h.2 (omega (arith, h.0, h.1, less)) i)
settles_none first low high (Settled a b ∷ rest) h less =
    ap (λ ys. Settled a b ∷ ys) (settles_none first (suc b) high rest h.2 (omega (arith, h.0, h.1, less)))

pub settled_was : (n first low high : ℕ) (xs : List FullSpan) (span : Span) → IsPartition low xs high
    → beginning first (unsettled_spans xs) ≡ Some span → IsInSettled n (full_settled first xs)
    → IsInSettled n xs ⊎ ((span.first ≤ n) × (n ≤ span.last))
settled_was n first low high [] span h found i = absurd i
settled_was n first low high (Unsettled p ∷ rest) span h found i =
    by (p.first == first) refl found i (settled_was n first (suc p.last) high rest span h.2)
  where
    Was : Type 0
    Was = IsInSettled n rest ⊎ ((span.first ≤ n) × (n ≤ span.last))

    by : (b : Bool) → (p.first == first) ≡ b → cond b (Some p) (beginning first (unsettled_spans rest)) ≡ Some span
        → IsInSettled n (cond b (Settled p.first p.last) (Unsettled p) ∷ full_settled first rest)
        → (beginning first (unsettled_spans rest) ≡ Some span → IsInSettled n (full_settled first rest) → Was)
        → Was
    by true is here (inl this) next =
        let e : p ≡ span = cc in
        inr (subst (λ (x : Span). (x.first ≤ n) × (n ≤ x.last)) e this)
    by true is here (inr there) next =
        inl (subst (IsInSettled n)
        (settles_none first (suc p.last) high rest h.2 (omega (arith, h.1, eqb-true p.first first is))) there)
    by false is here there next = next here there
settled_was n first low high (Settled a b ∷ rest) span h found (inl here) = inl (inl here)
settled_was n first low high (Settled a b ∷ rest) span h found (inr there) =
    over (settled_was n first (suc b) high rest span h.2 found there)
  where
    over : IsInSettled n rest ⊎ ((span.first ≤ n) × (n ≤ span.last))
        → (((a ≤ n) × (n ≤ b)) ⊎ IsInSettled n rest) ⊎ ((span.first ≤ n) × (n ≤ span.last))
    over (inl was) = inl (inr was)
    over (inr now) = inr now

-- ---- settled spans are removed from the front

pub raised_was : (n floor : ℕ) (xs : List FullSpan) → IsInSettled n (full_raised floor xs).1 → IsInSettled n xs
raised_was n floor [] h = h
raised_was n floor (Unsettled p ∷ rest) h = h
raised_was n floor (Settled a b ∷ rest) h = inr (raised_was n b rest h)

pub raised_still : (n floor high : ℕ) (xs : List FullSpan) → IsPartition (suc floor) xs high
    → (n ≤ floor) ⊎ IsInSettled n xs → (n ≤ (full_raised floor xs).0) ⊎ IsInSettled n (full_raised floor xs).1
raised_still n floor high [] h is = is
raised_still n floor high (Unsettled p ∷ rest) h is = is
raised_still n floor high (Settled a b ∷ rest) h (inl below) =
    raised_still n b high rest h.2 (inl (omega (arith, below, h.0, h.1)))
raised_still n floor high (Settled a b ∷ rest) h (inr (inl here)) = raised_still n b high rest h.2 (inl here.1)
raised_still n floor high (Settled a b ∷ rest) h (inr (inr there)) = raised_still n b high rest h.2 (inr there)
