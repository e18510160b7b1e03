-- Spans that rise: which one begins where, and what changes if one gets another status or is removed.
use Rattle.std.proofs.Common.{◌≡◌, ℕ, suc, ◌+◌, ◌-◌, ◌<◌, ◌≤◌, ◌⊎◌, inl, inr, Bool, true, false, not, cond, ◌==◌, List}
use Rattle.std.proofs.Common.{[], ◌∷◌, length, Some, None, filter, find, eq-eqb, ne_eqb, eqb-true, refl, sym, ap, subst}
use Rattle.std.proofs.Common.{◌∙◌, arith}
use Rattle.std.specs.List.{AllByRecursion}
use Rattle.std.proofs.lemmas.Bool.{cases_lt}
use Rattle.rb_deliveries.specs.declared.span.Span.{Span}
use Rattle.rb_deliveries.specs.declared.span.Status.{Status}
use Rattle.rb_deliveries.specs.Spans.{beginning, with_status, without_first, floor_of, SpansRise}
use Rattle.rb_desk.specs.IsPicture.{IsInSpan, one_if, span_there}
use Rattle.rb_deliveries.proofs.orders.Line.{all_then}
use Rattle.rb_deliveries.proofs.spans.RisingLaws.{rise_lower}
use Rattle.rb_desk.proofs.pictures.PictureLaws.{count_cons}

-- ---- where they begin and end

-- they begin no later than behind their end
pub rise_reach : (low high : ℕ) (spans : List Span) → SpansRise low spans high → low ≤ suc high
rise_reach low high [] h = h
rise_reach low high (p ∷ rest) h = omega (arith, h.0, h.1, rise_reach (suc p.last) high rest h.2)

-- none begins below the first number, and none ends behind the last one
pub rise_begins : (low high : ℕ) (spans : List Span) → SpansRise low spans high
    → AllByRecursion (λ p. low ≤ p.first) spans
rise_begins low high [] h = tt
rise_begins low high (p ∷ rest) h = (
  omega (arith, h.0),
  all_then (λ (x : Span). suc p.last ≤ x.first) (λ x. low ≤ x.first) rest (λ x le. omega (arith, le, h.0, h.1))
      (rise_begins (suc p.last) high rest h.2),
)

pub rise_ends : (low high : ℕ) (spans : List Span) → SpansRise low spans high
    → AllByRecursion (λ p. (p.first ≤ p.last) × (p.last ≤ high)) spans
rise_ends low high [] h = tt
rise_ends low high (p ∷ rest) h =
    ((h.1, omega (arith, rise_reach (suc p.last) high rest h.2)), rise_ends (suc p.last) high rest h.2)

-- none begins with a number below the first one
pub none_begins : (n low high : ℕ) (spans : List Span) → SpansRise low spans high → n < low → beginning n spans ≡ None
none_begins n low high [] h less = refl
none_begins n low high (p ∷ rest) h less =
    rw (ne_eqb p.first n (omega (arith, h.0, less)))
    (none_begins n (suc p.last) high rest h.2 (omega (arith, h.0, h.1, less)))

-- ---- what is found

-- what holds of all holds of the one that is found
pub all_spans_found : (P : Span → Type 0) (test : Span → Bool) (spans : List Span) (span : Span) → AllByRecursion P spans
    → find test spans ≡ Some span → P span
all_spans_found P test [] span h found = absurd (let none : None ≡ Some span = found in cc)
all_spans_found P test (p ∷ rest) span h found = by (test p) found (all_spans_found P test rest span h.1)
  where
    by : (b : Bool) → cond b (Some p) (find test rest) ≡ Some span → (find test rest ≡ Some span → P span) → P span
    by true here next = subst P (let e : p ≡ span = cc in e) h.0
    by false here next = next here

-- the one that is found passes, and is the one that begins with its first number
pub found_passes : {X : Type 0} (test : X → Bool) (xs : List X) (x : X) → find test xs ≡ Some x → test x ≡ true
found_passes {X} test [] x found = absurd (let none : None ≡ Some x = found in cc)
found_passes {X} test (y ∷ rest) x found = by (test y) refl found (found_passes test rest x)
  where
    by : (b : Bool) → test y ≡ b → cond b (Some y) (find test rest) ≡ Some x
        → (find test rest ≡ Some x → test x ≡ true) → test x ≡ true
    by true is here next = ap test (let e : y ≡ x = cc in sym e) ∙ is
    by false is here next = next here

pub found_begins : (test : Span → Bool) (low high : ℕ) (spans : List Span) (span : Span) → SpansRise low spans high
    → find test spans ≡ Some span → beginning span.first spans ≡ Some span
found_begins test low high [] span h found = absurd (let none : None ≡ Some span = found in cc)
found_begins test low high (p ∷ rest) span h found =
    by (test p) found (found_begins test (suc p.last) high rest span h.2)
  where
    by : (b : Bool) → cond b (Some p) (find test rest) ≡ Some span
        → (find test rest ≡ Some span → beginning span.first rest ≡ Some span)
        → cond (p.first == span.first) (Some p) (beginning span.first rest) ≡ Some span
    by true here next = let e : p ≡ span = cc in rw (eq-eqb p.first span.first (ap (λ (x : Span). x.first) e)) here
    by false here next =
        let behind : suc p.last ≤ span.first =
        all_spans_found (λ x. suc p.last ≤ x.first) test rest span (rise_begins (suc p.last) high rest h.2) here in
        rw (ne_eqb p.first span.first (omega (arith, behind, h.1))) (next here)

-- ---- one gets another status

-- they rise as before
pub restated_rise : (low high first : ℕ) (status : Status) (spans : List Span) → SpansRise low spans high
    → SpansRise low (with_status first status spans) high
restated_rise low high first status [] h = h
restated_rise low high first status (p ∷ rest) h =
    by (p.first == first) (restated_rise (suc p.last) high first status rest h.2)
  where
    by : (b : Bool) → SpansRise (suc p.last) (with_status first status rest) high
        → SpansRise low (cond b (record p { status = status }) p ∷ with_status first status rest) high
    by true next = (h.0, h.1, next)
    by false next = (h.0, h.1, next)

-- the one that begins with this number has the status, and the one that begins with another is as before
pub restated_there : (test : Status → Bool) (first : ℕ) (status : Status) (spans : List Span) (span : Span)
    → beginning first spans ≡ Some span → span_there test (beginning first (with_status first status spans))
    ≡ one_if (test status)
restated_there test first status [] span found = absurd (let none : None ≡ Some span = found in cc)
restated_there test first status (p ∷ rest) span found =
    by (p.first == first) refl found (restated_there test first status rest span)
  where
    by : (b : Bool) → (p.first == first) ≡ b → cond b (Some p) (beginning first rest) ≡ Some span
        → (beginning first rest ≡ Some span → span_there test (beginning first (with_status first status rest))
        ≡ one_if (test status))
        → span_there test (beginning first (cond b (record p { status = status }) p ∷ with_status first status rest))
        ≡ one_if (test status)
    by true is here next = rw is refl
    by false is here next = rw is (next here)

pub restated_other : (n first : ℕ) (status : Status) (spans : List Span) → (n ≡ first → ⊥)
    → beginning n (with_status first status spans) ≡ beginning n spans
restated_other n first status [] other = refl
restated_other n first status (p ∷ rest) other = by (p.first == first) refl (restated_other n first status rest other)
  where
    by : (b : Bool) → (p.first == first) ≡ b → beginning n (with_status first status rest) ≡ beginning n rest
        → beginning n (cond b (record p { status = status }) p ∷ with_status first status rest) ≡ beginning n (p ∷ rest)
    by true is next =
        let e : p.first ≡ first = eqb-true p.first first is in
        rw (ne_eqb p.first n (λ same. other (sym same ∙ e))) next
    by false is next = ap (cond (p.first == n) (Some p)) next

-- what changes only the span that begins with a number changes none where all begin behind it
abbrev pub ChangesNoLater : (ℕ → List Span → List Span) → Type 0
ChangesNoLater change = (first low high : ℕ) (spans : List Span) → SpansRise low spans high → first < low
    → change first spans ≡ spans

pub changes_no_later : (change : ℕ → List Span → List Span) → ((first : ℕ) → change first [] ≡ [])
    → ((first : ℕ) (p : Span) (rest : List Span) → (p.first == first) ≡ false
    → change first (p ∷ rest) ≡ p ∷ change first rest)
    → ChangesNoLater change
changes_no_later change empty other first low high [] h less = empty first
changes_no_later change empty other first low high (p ∷ rest) h less =
    other first p rest (ne_eqb p.first first (omega (arith, h.0, less)))
    ∙ ap (λ xs. p ∷ xs)
    (changes_no_later change empty other first (suc p.last) high rest h.2 (omega (arith, h.0, h.1, less)))

pub restated_none : (status : Status) → ChangesNoLater (λ first. with_status first status)
restated_none status =
    changes_no_later (λ first. with_status first status) (λ _. refl) (λ first p rest other.
    ap (λ b. cond b (record p { status = status }) p ∷ with_status first status rest) other)

-- how many pass a test of the status
pub restated_count : (test : Status → Bool) (low high first : ℕ) (status : Status) (spans : List Span) (span : Span)
    → SpansRise low spans high → beginning first spans ≡ Some span
    → length (filter (λ p. test p.status) (with_status first status spans)) + one_if (test span.status)
    ≡ length (filter (λ p. test p.status) spans) + one_if (test status)
restated_count test low high first status [] span h found = absurd (let none : None ≡ Some span = found in cc)
restated_count test low high first status (p ∷ rest) span h found =
    by (p.first == first) refl found (restated_count test (suc p.last) high first status rest span h.2)
  where
    passes : Span → Bool
    passes p = test p.status

    by : (b : Bool) → (p.first == first) ≡ b → cond b (Some p) (beginning first rest) ≡ Some span
        → (beginning first rest ≡ Some span → length (filter passes (with_status first status rest))
        + one_if (test span.status) ≡ length (filter passes rest) + one_if (test status))
        → length (filter passes (cond b (record p { status = status }) p ∷ with_status first status rest))
        + one_if (test span.status) ≡ length (filter passes (p ∷ rest)) + one_if (test status)
    by true is here next =
        let e : p ≡ span = cc in
        let same : one_if (test p.status) ≡ one_if (test span.status) = ap (λ (x : Span). one_if (test x.status)) e in
        let stay : length (filter passes (with_status first status rest)) ≡ length (filter passes rest) =
        ap (λ l. length (filter passes l))
        (restated_none status first (suc p.last) high rest h.2 (omega (arith, h.1, eqb-true p.first first is))) in
        omega (
          arith,
          same,
          stay,
          count_cons passes (record p { status = status }) (with_status first status rest),
          count_cons passes p rest,
        )
    by false is here next = omega
        (arith, next here, count_cons passes p (with_status first status rest), count_cons passes p rest)

-- what holds of all, and of the one with the status
pub restated_all : (P : Span → Type 0) (low high first : ℕ) (status : Status) (spans : List Span) (span : Span)
    → SpansRise low spans high → beginning first spans ≡ Some span → P (record span { status = status })
    → AllByRecursion P spans
    → AllByRecursion P (with_status first status spans)
restated_all P low high first status [] span h found new all = tt
restated_all P low high first status (p ∷ rest) span h found new all =
    by (p.first == first) refl found
    (λ more. restated_all P (suc p.last) high first status rest span h.2 more new all.1)
  where
    by : (b : Bool) → (p.first == first) ≡ b → cond b (Some p) (beginning first rest) ≡ Some span
        → (beginning first rest ≡ Some span → AllByRecursion P (with_status first status rest))
        → AllByRecursion P (cond b (record p { status = status }) p ∷ with_status first status rest)
    by true is here next =
        let e : span ≡ p = cc in (
          subst (λ (x : Span). P (record x { status = status })) e new,
          rw (restated_none status first (suc p.last) high rest h.2 (omega (arith, h.1, eqb-true p.first first is)))
              all.1,
        )
    by false is here next = (all.0, next here)

-- the first one begins where it did, and a number is in one where it was
pub restated_floor : (first front : ℕ) (status : Status) (spans : List Span)
    → floor_of (with_status first status spans) front ≡ floor_of spans front
restated_floor first front status [] = refl
restated_floor first front status (p ∷ rest) = by (p.first == first)
  where
    by : (b : Bool) → (cond b (record p { status = status }) p).first - 1 ≡ p.first - 1
    by true = refl
    by false = refl

pub restated_in : (n first : ℕ) (status : Status) (spans : List Span) → IsInSpan n spans
    → IsInSpan n (with_status first status spans)
restated_in n first status [] i = i
restated_in n first status (p ∷ rest) i = by (p.first == first) i (restated_in n first status rest)
  where
    by : (b : Bool) → ((p.first ≤ n) × (n ≤ p.last)) ⊎ IsInSpan n rest
        → (IsInSpan n rest → IsInSpan n (with_status first status rest))
        → IsInSpan n (cond b (record p { status = status }) p ∷ with_status first status rest)
    by true (inl here) next = inl here
    by false (inl here) next = inl here
    by true (inr there) next = inr (next there)
    by false (inr there) next = inr (next there)

-- ---- the floor

-- no number below the first one is in a span
none_begins_ahead : (n low high : ℕ) (spans : List Span) → SpansRise low spans high → n < low → IsInSpan n spans → ⊥
none_begins_ahead n low high [] h less i = i
none_begins_ahead n low high (p ∷ rest) h less (inl here) = omega (arith, here.0, h.0, less)
none_begins_ahead n low high (p ∷ rest) h less (inr there) =
    none_begins_ahead n (suc p.last) high rest h.2 (omega (arith, h.0, h.1, less)) there

-- the floor is no lower than the number before those from which the spans rise, and they rise from it on
pub floor_up : (low high : ℕ) (spans : List Span) → SpansRise (suc low) spans high → low ≤ floor_of spans high
floor_up low high [] h = omega (arith, h)
floor_up low high (p ∷ rest) h = omega (arith, h.0)

pub floor_rise : (low high : ℕ) (spans : List Span) → SpansRise (suc low) spans high
    → SpansRise (suc (floor_of spans high)) spans high
floor_rise low high [] h = omega arith
floor_rise low high (p ∷ rest) h = (omega (arith, h.0), h.1, h.2)

-- where each number that was never delivered is in a span, the floor was delivered
pub floor_offered : (low offered high : ℕ) (spans : List Span) → SpansRise (suc low) spans high → offered ≤ high
    → ((n : ℕ) → offered < n → n ≤ high → IsInSpan n spans) → floor_of spans high ≤ offered
floor_offered low offered high spans h le never = by (cases_lt offered (floor_of spans high))
  where
    from : SpansRise (suc (floor_of spans high)) spans high
    from = floor_rise low high spans h

    by : (offered < floor_of spans high) ⊎ (floor_of spans high ≤ offered) → floor_of spans high ≤ offered
    by (inl less) =
        absurd (none_begins_ahead (floor_of spans high) (suc (floor_of spans high)) high spans from (omega arith)
        (never (floor_of spans high) less
        (omega (arith, rise_reach (suc (floor_of spans high)) high spans from))))
    by (inr more) = more

-- ---- one is removed

-- none is removed where none begins with this number
pub without_none : ChangesNoLater without_first
without_none = changes_no_later without_first (λ _. refl) (λ first p rest other.
    ap (λ b. cond (not b) (p ∷ without_first first rest) (without_first first rest)) other)

-- the others rise as before
pub without_rise : (low high first : ℕ) (spans : List Span) → SpansRise low spans high
    → SpansRise low (without_first first spans) high
without_rise low high first [] h = h
without_rise low high first (p ∷ rest) h =
    by (p.first == first) (without_rise (suc p.last) high first rest h.2)
  where
    by : (b : Bool) → SpansRise (suc p.last) (without_first first rest) high
        → SpansRise low (cond (not b) (p ∷ without_first first rest) (without_first first rest)) high
    by true next = rise_lower low (suc p.last) high (without_first first rest) (omega (arith, h.0, h.1)) next
    by false next = (h.0, h.1, next)

-- what holds of all holds of the others
pub without_all : (P : Span → Type 0) (first : ℕ) (spans : List Span) → AllByRecursion P spans
    → AllByRecursion P (without_first first spans)
without_all P first [] h = tt
without_all P first (p ∷ rest) h = by (p.first == first) (without_all P first rest h.1)
  where
    by : (b : Bool) → AllByRecursion P (without_first first rest)
        → AllByRecursion P (cond (not b) (p ∷ without_first first rest) (without_first first rest))
    by true next = next
    by false next = (h.0, next)

-- a number behind the one that is removed is in a span as before
pub without_in : (n low high first : ℕ) (spans : List Span) (span : Span) → SpansRise low spans high
    → beginning first spans ≡ Some span → span.last < n → IsInSpan n spans → IsInSpan n (without_first first spans)
without_in n low high first [] span h found less i = i
without_in n low high first (p ∷ rest) span h found less i =
    by (p.first == first) refl found i (without_in n (suc p.last) high first rest span h.2)
  where
    by : (b : Bool) → (p.first == first) ≡ b → cond b (Some p) (beginning first rest) ≡ Some span
        → ((p.first ≤ n) × (n ≤ p.last)) ⊎ IsInSpan n rest
        → (beginning first rest ≡ Some span → span.last < n → IsInSpan n rest → IsInSpan n (without_first first rest))
        → IsInSpan n (cond (not b) (p ∷ without_first first rest) (without_first first rest))
    by true is here (inl there) next =
        let e : p ≡ span = cc in
        absurd (omega (arith, ap (λ (x : Span). x.last) e, there.1, less))
    by true is here (inr there) next =
        subst (IsInSpan n)
        (sym (without_none first (suc p.last) high rest h.2 (omega (arith, h.1, eqb-true p.first first is)))) there
    by false is here (inl there) next = inl there
    by false is here (inr there) next = inr (next here less there)

-- none begins with its number, and the one that begins with another is as before
pub without_there : (first : ℕ) (spans : List Span) → beginning first (without_first first spans) ≡ None
without_there first [] = refl
without_there first (p ∷ rest) = by (p.first == first) refl (without_there first rest)
  where
    by : (b : Bool) → (p.first == first) ≡ b → beginning first (without_first first rest) ≡ None
        → beginning first (cond (not b) (p ∷ without_first first rest) (without_first first rest)) ≡ None
    by true is next = next
    by false is next = rw is next

pub without_other : (n first : ℕ) (spans : List Span) → (n ≡ first → ⊥)
    → beginning n (without_first first spans) ≡ beginning n spans
without_other n first [] other = refl
without_other n first (p ∷ rest) other = by (p.first == first) refl (without_other n first rest other)
  where
    by : (b : Bool) → (p.first == first) ≡ b → beginning n (without_first first rest) ≡ beginning n rest
        → beginning n (cond (not b) (p ∷ without_first first rest) (without_first first rest)) ≡ beginning n (p ∷ rest)
    by true is next =
        let e : p.first ≡ first = eqb-true p.first first is in
        next ∙ sym (ap (λ b. cond b (Some p) (beginning n rest))
        (ne_eqb p.first n (λ same. other (sym same ∙ e))))
    by false is next = ap (cond (p.first == n) (Some p)) next

-- how many pass a test of the status
pub without_count : (test : Status → Bool) (low high first : ℕ) (spans : List Span) (span : Span)
    → SpansRise low spans high → beginning first spans ≡ Some span
    → length (filter (λ p. test p.status) (without_first first spans)) + one_if (test span.status)
    ≡ length (filter (λ p. test p.status) spans)
without_count test low high first [] span h found = absurd (let none : None ≡ Some span = found in cc)
without_count test low high first (p ∷ rest) span h found =
    by (p.first == first) refl found (without_count test (suc p.last) high first rest span h.2)
  where
    passes : Span → Bool
    passes p = test p.status

    by : (b : Bool) → (p.first == first) ≡ b → cond b (Some p) (beginning first rest) ≡ Some span
        → (beginning first rest ≡ Some span → length (filter passes (without_first first rest))
        + one_if (test span.status) ≡ length (filter passes rest))
        → length (filter passes (cond (not b) (p ∷ without_first first rest) (without_first first rest)))
        + one_if (test span.status) ≡ length (filter passes (p ∷ rest))
    by true is here next =
        let e : p ≡ span = cc in
        let same : one_if (test p.status) ≡ one_if (test span.status) = ap (λ (x : Span). one_if (test x.status)) e in
        let stay : length (filter passes (without_first first rest)) ≡ length (filter passes rest) =
        ap (λ l. length (filter passes l))
        (without_none first (suc p.last) high rest h.2 (omega (arith, h.1, eqb-true p.first first is))) in
        omega (arith, same, stay, count_cons passes p rest)
    by false is here next = omega
        (arith, next here, count_cons passes p (without_first first rest), count_cons passes p rest)
