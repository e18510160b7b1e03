-- Spans that rise, one of which is opened: each of its numbers is a span in its place.
use Rattle.std.proofs.Common.{◌≡◌, ℕ, zero, suc, ◌+◌, ◌-◌, ◌<◌, ◌≤◌, ◌⊎◌, inl, inr, Bool, true, false, cond, ◌==◌, List}
use Rattle.std.proofs.Common.{[], ◌∷◌, ◌++◌, length, Some, None, filter, eq-eqb, ne_eqb, eqb-true, refl, sym, ap, ◌∙◌}
use Rattle.std.proofs.Common.{subst, arith}
use Rattle.std.specs.List.{AllByRecursion}
use Rattle.std.proofs.lemmas.Bool.{cases_lt, cases_eq}
use Rattle.rb_deliveries.specs.declared.span.Span.{Span}
use Rattle.rb_deliveries.specs.declared.span.Status.{Status}
use Rattle.rb_deliveries.specs.declared.span.Status.TheVariants.{Ready}
use Rattle.rb_deliveries.specs.Spans.{beginning, floor_of, opened_spans, single_span, singles, span_length, SpansRise}
use Rattle.rb_desk.specs.IsPicture.{IsInSpan, one_if, span_there}
use Rattle.rb_desk.proofs.pictures.PictureLaws.{count_cons, count_append}
use Rattle.rb_deliveries.proofs.spans.RisingLaws.{rise_lower}
use Rattle.rb_desk.proofs.pictures.RiseLaws.{rise_begins, none_begins, all_spans_found, ChangesNoLater}
use Rattle.rb_desk.proofs.pictures.RiseLaws.{changes_no_later}

-- ---- numbers one after another, each a span

-- before spans that rise they rise
singles_rise : (low n count end high : ℕ) (rest : List Span) → low ≤ n → n + count ≡ end → SpansRise end rest high
    → SpansRise low (singles n count ++ rest) high
singles_rise low n zero end high rest le is h = rise_lower low end high rest (omega (arith, le, is)) h
singles_rise low n (suc count) end high rest le is h =
    (le, omega arith, singles_rise (suc n) (suc n) count end high rest (omega arith) (omega (arith, is)) h)

-- each number is in one
singles_in : (k n count : ℕ) (rest : List Span) → n ≤ k → k < n + count → IsInSpan k (singles n count ++ rest)
singles_in k n zero rest low high = absurd (omega (arith, low, high))
singles_in k n (suc count) rest low high =
    by (cases_lt n k) (λ less. singles_in k (suc n) count rest (omega (arith, less)) (omega (arith, high)))
  where
    by : (n < k) ⊎ (k ≤ n) → (n < k → IsInSpan k (singles (suc n) count ++ rest))
        → ((n ≤ k) × (k ≤ n)) ⊎ IsInSpan k (singles (suc n) count ++ rest)
    by (inl less) next = inr (next less)
    by (inr le) next = inl (low, le)

-- what is in a span behind them is
in_behind : (k : ℕ) (front rest : List Span) → IsInSpan k rest → IsInSpan k (front ++ rest)
in_behind k [] rest i = i
in_behind k (p ∷ front) rest i = inr (in_behind k front rest i)

-- what holds of each number's span, and of those behind, holds of all
singles_all : (P : Span → Type 0) (n count : ℕ) (rest : List Span)
    → ((k : ℕ) → n ≤ k → k < n + count → P (single_span k)) → AllByRecursion P rest
    → AllByRecursion P (singles n count ++ rest)
singles_all P n zero rest each h = h
singles_all P n (suc count) rest each h = (
  each n (omega arith) (omega arith),
  singles_all P (suc n) count rest (λ k low high. each k (omega (arith, low)) (omega (arith, high))) h,
)

-- none of them passes a test that the status of an opened number doesn't pass
singles_none : (test : Status → Bool) (n count : ℕ) → test (Ready true) ≡ false
    → length (filter (λ (p : Span). test p.status) (singles n count)) ≡ 0
singles_none test n zero none = refl
singles_none test n (suc count) none =
    count_cons (λ (p : Span). test p.status) (single_span n) (singles (suc n) count)
    ∙ (λ i. one_if (none i) + singles_none test (suc n) count none i)

-- the first one begins with the first number
singles_floor : (n count front : ℕ) (rest : List Span) → 0 < count → floor_of (singles n count ++ rest) front ≡ n - 1
singles_floor n zero front rest less = absurd (omega (arith, less))
singles_floor n (suc count) front rest less = refl

-- how many of these spans begin with a number
abbrev pub how_many_begin : ℕ → List Span → ℕ
how_many_begin k spans = length (filter (λ (p : Span). p.first == k) spans)

-- A number is one of these, and one of their spans begins with it; or it isn't, and what begins with it is behind them.
abbrev IsOneOf : ℕ → ℕ → ℕ → List Span → Type 0
IsOneOf k n count rest =
    (n ≤ k) × (k < n + count) × (how_many_begin k (singles n count) ≡ 1)
    × (beginning k (singles n count ++ rest) ≡ Some (single_span k))

abbrev IsNoneOf : ℕ → ℕ → ℕ → List Span → Type 0
IsNoneOf k n count rest =
    ((k < n) ⊎ (n + count ≤ k)) × (how_many_begin k (singles n count) ≡ 0)
    × (beginning k (singles n count ++ rest) ≡ beginning k rest)

singles_begin : (k n count : ℕ) (rest : List Span) → IsOneOf k n count rest ⊎ IsNoneOf k n count rest
singles_begin k n zero rest = inr (by (cases_lt k n), refl, refl)
  where
    by : (k < n) ⊎ (n ≤ k) → (k < n) ⊎ (n + 0 ≤ k)
    by (inl less) = inl less
    by (inr le) = inr (omega (arith, le))
singles_begin k n (suc count) rest = by (cases_eq n k) (singles_begin k (suc n) count rest)
  where
    more : how_many_begin k (singles n (suc count)) ≡ one_if (n == k) + how_many_begin k (singles (suc n) count)
    more = count_cons (λ (p : Span). p.first == k) (single_span n) (singles (suc n) count)

    here : n ≡ k → how_many_begin k (singles (suc n) count) ≡ 0 → IsOneOf k n (suc count) rest
    here e none =
        let one : one_if (n == k) ≡ 1 = ap one_if (eq-eqb n k e) in (
          omega (arith, e),
          omega (arith, e),
          omega (arith, more, one, none),
          rw (eq-eqb n k e) (ap (λ m. Some (single_span m)) e),
        )

    there : (n ≡ k → ⊥) → beginning k (singles n (suc count) ++ rest) ≡ beginning k (singles (suc n) count ++ rest)
    there other = rw (ne_eqb n k other) refl

    by : (n ≡ k) ⊎ (n ≡ k → ⊥) → IsOneOf k (suc n) count rest ⊎ IsNoneOf k (suc n) count rest
        → IsOneOf k n (suc count) rest ⊎ IsNoneOf k n (suc count) rest
    by (inl e) (inl one) = absurd (omega (arith, e, one.0))
    by (inl e) (inr none) = inl (here e none.1)
    by (inr other) (inl one) =
        let no : one_if (n == k) ≡ 0 = ap one_if (ne_eqb n k other) in
        inl (
          omega (arith, one.0),
          omega (arith, one.1),
          omega (arith, more, no, one.2),
          there other ∙ one.3,
        )
    by (inr other) (inr none) =
        let no : one_if (n == k) ≡ 0 = ap one_if (ne_eqb n k other) in
        inr (outside other none.0, omega (arith, more, no, none.1), there other ∙ none.2)
      where
        outside : (n ≡ k → ⊥) → (k < suc n) ⊎ (suc n + count ≤ k) → (k < n) ⊎ (n + suc count ≤ k)
        outside other (inl less) = inl (omega (arith, less, other))
        outside other (inr le) = inr (omega (arith, le))

-- ---- one is opened

-- none is opened where none begins with this number
opened_none : ChangesNoLater opened_spans
opened_none = changes_no_later opened_spans (λ _. refl) (λ first p rest other.
    ap (λ b. cond b (singles p.first (span_length p)) (p ∷ []) ++ opened_spans first rest) other)

-- what holds where the first span is opened, and goes on over a span before it, holds where one is opened
opened_induction : (P : ℕ → List Span → List Span → Type 0) (high : ℕ) (span : Span)
    → ((low : ℕ) (rest : List Span) → low ≤ span.first → span.first ≤ span.last
    → SpansRise (suc span.last) rest high
    → P low (span ∷ rest) (singles span.first (span_length span) ++ rest))
    → ((low : ℕ) (p : Span) (rest opened : List Span) → low ≤ p.first → p.first ≤ p.last → p.last < span.first
    → P (suc p.last) rest opened → P low (p ∷ rest) (p ∷ opened))
    → (low : ℕ) (spans : List Span) → SpansRise low spans high → beginning span.first spans ≡ Some span
    → P low spans (opened_spans span.first spans)
opened_induction P high span opens goes low [] h found = absurd (let none : None ≡ Some span = found in cc)
opened_induction P high span opens goes low (p ∷ rest) h found =
    by (p.first == span.first) refl found (opened_induction P high span opens goes (suc p.last) rest h.2)
  where
    by : (b : Bool) → (p.first == span.first) ≡ b → cond b (Some p) (beginning span.first rest) ≡ Some span
        → (beginning span.first rest ≡ Some span → P (suc p.last) rest (opened_spans span.first rest))
        → P low (p ∷ rest) (cond b (singles p.first (span_length p)) (p ∷ []) ++ opened_spans span.first rest)
    by true is here next =
        let e : span ≡ p = cc in
        subst (λ (x : Span). SpansRise low (x ∷ rest) high
        → P low (x ∷ rest) (singles x.first (span_length x) ++ opened_spans span.first rest)) e
        (λ h. rw (opened_none span.first (suc span.last) high rest h.2 (omega (arith, h.1)))
        (opens low rest h.0 h.1 h.2)) h
    by false is here next =
        let behind : suc p.last ≤ span.first =
        all_spans_found (λ x. suc p.last ≤ x.first) (λ x. x.first == span.first) rest span
        (rise_begins (suc p.last) high rest h.2) here in
        goes low p rest (opened_spans span.first rest) h.0 h.1 behind (next here)

-- nothing is nothing either way, and a count of at most one as a choice
no_way : (b : Bool) → ◌≡◌ {A = ℕ} (cond b 0 0) 0
no_way true = refl
no_way false = refl

one_way : (b : Bool) → one_if b ≡ cond b 1 0
one_way true = refl
one_way false = refl

module _ (high : ℕ) (span : Span) (low : ℕ) (spans : List Span) (h : SpansRise low spans high)
    (found : beginning span.first spans ≡ Some span) where
  -- they rise as before, the first one begins where it did, and a number is in one where it was
  pub opened_rise : SpansRise low (opened_spans span.first spans) high
  opened_rise =
      opened_induction (λ low spans opened. SpansRise low opened high) high span
      (λ low rest le order h. singles_rise low span.first (span_length span) (suc span.last) high rest le (omega arith)
      h)
      (λ low p rest opened le order before next. (le, order, next)) low spans h found

  pub opened_floor : floor_of (opened_spans span.first spans) high ≡ floor_of spans high
  opened_floor =
      opened_induction (λ low spans opened. floor_of opened high ≡ floor_of spans high) high span
      (λ low rest le order h. singles_floor span.first (span_length span) high rest (omega arith))
      (λ low p rest opened le order before next. refl) low spans h found

  pub opened_in : (k : ℕ) → IsInSpan k spans → IsInSpan k (opened_spans span.first spans)
  opened_in k =
      opened_induction (λ low spans opened. IsInSpan k spans → IsInSpan k opened) high span
      (λ low rest le order h. by rest order)
      (λ low p rest opened le order before. over p rest opened) low spans h found
    where
      by : (rest : List Span) → span.first ≤ span.last → ((span.first ≤ k) × (k ≤ span.last)) ⊎ IsInSpan k rest
          → IsInSpan k (singles span.first (span_length span) ++ rest)
      by rest order (inl here) = singles_in k span.first (span_length span) rest here.0 (omega (arith, order, here.1))
      by rest order (inr there) = in_behind k (singles span.first (span_length span)) rest there

      over : (p : Span) (rest opened : List Span) → (IsInSpan k rest → IsInSpan k opened)
          → ((p.first ≤ k) × (k ≤ p.last)) ⊎ IsInSpan k rest → ((p.first ≤ k) × (k ≤ p.last)) ⊎ IsInSpan k opened
      over p rest opened next (inl here) = inl here
      over p rest opened next (inr there) = inr (next there)

  -- what holds of all, and of each opened number's span, holds of all then
  pub opened_all : (P : Span → Type 0) → ((k : ℕ) → span.first ≤ k → k ≤ span.last → P (single_span k))
      → AllByRecursion P spans → AllByRecursion P (opened_spans span.first spans)
  opened_all P each =
      opened_induction (λ low spans opened. AllByRecursion P spans → AllByRecursion P opened) high span
      (λ low rest le order h all. singles_all P span.first (span_length span) rest
      (λ k from to. each k from (omega (arith, to, order))) all.1)
      (λ low p rest opened le order before next all. (all.0, next all.1)) low spans h found

  -- how many pass a test that the status of an opened number doesn't pass
  pub opened_count : (test : Status → Bool) → test (Ready true) ≡ false
      → length (filter (λ (p : Span). test p.status) (opened_spans span.first spans)) + one_if (test span.status)
      ≡ length (filter (λ (p : Span). test p.status) spans)
  opened_count test none =
      opened_induction (λ low spans opened. length (filter passes opened) + one_if (test span.status)
      ≡ length (filter passes spans)) high span
      (λ low rest le order h.
      omega (
        arith,
        count_append passes (singles span.first (span_length span)) rest,
        singles_none test span.first (span_length span) none,
        count_cons passes span rest,
      ))
      (λ low p rest opened le order before next.
      omega (arith, next, count_cons passes p opened, count_cons passes p rest)) low spans h found
    where
      passes : Span → Bool
      passes p = test p.status

  -- ---- the span that begins with a number

  abbrev opened_begin : ℕ → ℕ
  opened_begin k = how_many_begin k (singles span.first (span_length span))

  -- What begins with a number and passes a test: before, with the spans of the opened numbers if their status passes; and
  -- after, with the opened span if it passed.
  opened_there : (test : Status → Bool) (k : ℕ)
      → span_there test (beginning k (opened_spans span.first spans))
      + cond (span.first == k) (one_if (test span.status)) 0
      ≡ span_there test (beginning k spans) + cond (test (Ready true)) (opened_begin k) 0
  opened_there test k =
      opened_induction (λ low spans opened. span_there test (beginning k opened)
      + cond (span.first == k) (one_if (test span.status)) 0
      ≡ span_there test (beginning k spans) + cond (test (Ready true)) (opened_begin k) 0) high span
      (λ low rest le order h. opens rest order h (singles_begin k span.first (span_length span) rest)
      (cases_eq span.first k))
      (λ low p rest opened le order before next. over p rest opened order before next (p.first == k) refl)
      low spans h found
    where
      opens : (rest : List Span) → span.first ≤ span.last → SpansRise (suc span.last) rest high
          → IsOneOf k span.first (span_length span) rest ⊎ IsNoneOf k span.first (span_length span) rest
          → (span.first ≡ k) ⊎ (span.first ≡ k → ⊥)
          → span_there test (beginning k (singles span.first (span_length span) ++ rest))
          + cond (span.first == k) (one_if (test span.status)) 0
          ≡ span_there test (beginning k (span ∷ rest)) + cond (test (Ready true)) (opened_begin k) 0
      opens rest order h (inl is) (inl e) =
          rw (is.3, is.2, eq-eqb span.first k e) (omega (arith, one_way (test (Ready true))))
      opens rest order h (inl is) (inr other) =
          rw (is.3, is.2, ne_eqb span.first k other, none_begins k (suc span.last) high rest h (omega (arith, is.1)))
          (omega (arith, one_way (test (Ready true))))
      opens rest order h (inr is) (inl e) = absurd (outside is.0)
        where
          outside : (k < span.first) ⊎ (span.first + span_length span ≤ k) → ⊥
          outside (inl less) = omega (arith, less, e)
          outside (inr le) = omega (arith, le, e, order)
      opens rest order h (inr is) (inr other) =
          rw (is.2, is.1, ne_eqb span.first k other) (omega (arith, no_way (test (Ready true))))

      -- a span before it begins with none of its numbers
      before_all : (p : Span) → p.first ≤ p.last → p.last < span.first → p.first ≡ k → opened_begin k ≡ 0
      before_all p order before e = by (singles_begin k span.first (span_length span) [])
        where
          by : IsOneOf k span.first (span_length span) [] ⊎ IsNoneOf k span.first (span_length span) []
              → opened_begin k ≡ 0
          by (inl is) = absurd (omega (arith, is.0, order, before, e))
          by (inr is) = is.1

      over : (p : Span) (rest opened : List Span) → p.first ≤ p.last → p.last < span.first
          → span_there test (beginning k opened) + cond (span.first == k) (one_if (test span.status)) 0
          ≡ span_there test (beginning k rest) + cond (test (Ready true)) (opened_begin k) 0
          → (b : Bool) → (p.first == k) ≡ b
          → span_there test (cond b (Some p) (beginning k opened))
          + cond (span.first == k) (one_if (test span.status)) 0
          ≡ span_there test (cond b (Some p) (beginning k rest)) + cond (test (Ready true)) (opened_begin k) 0
      over p rest opened order before next true is =
          let e : p.first ≡ k = eqb-true p.first k is in
          rw (before_all p order before e, ne_eqb span.first k (λ same. omega (arith, order, before, e, same)))
          (omega (arith, no_way (test (Ready true))))
      over p rest opened order before next false is = next

  -- the opened numbers come to pass a test that the span didn't pass
  pub opened_comes : (test : Status → Bool) → test span.status ≡ false → test (Ready true) ≡ true → (k : ℕ)
      → span_there test (beginning k (opened_spans span.first spans))
      ≡ span_there test (beginning k spans) + opened_begin k
  opened_comes test none some k =
      let gone : cond (span.first == k) (one_if (test span.status)) 0 ≡ 0 =
      ap (λ b. cond (span.first == k) (one_if b) 0) none ∙ no_way (span.first == k) in
      let come : cond (test (Ready true)) (opened_begin k) 0 ≡ opened_begin k =
      ap (λ b. cond b (opened_begin k) 0) some in
      omega (arith, gone, come, opened_there test k)

  -- or they don't pass: then nothing does that begins where the span did, and what begins elsewhere does as before
  pub opened_goes : (test : Status → Bool) → test (Ready true) ≡ false
      → span_there test (beginning span.first (opened_spans span.first spans)) ≡ 0
  opened_goes test none =
      let gone : cond (span.first == span.first) (one_if (test span.status)) 0 ≡ one_if (test span.status) =
      ap (λ b. cond b (one_if (test span.status)) 0) (eq-eqb span.first span.first refl) in
      let come : cond (test (Ready true)) (opened_begin span.first) 0 ≡ 0 =
      ap (λ b. cond b (opened_begin span.first) 0) none in
      let was : span_there test (beginning span.first spans) ≡ one_if (test span.status) =
      ap (span_there test) found in
      omega (arith, gone, come, was, opened_there test span.first)

  pub opened_other : (test : Status → Bool) → test (Ready true) ≡ false → (k : ℕ) → (k ≡ span.first → ⊥)
      → span_there test (beginning k (opened_spans span.first spans)) ≡ span_there test (beginning k spans)
  opened_other test none k other =
      let gone : cond (span.first == k) (one_if (test span.status)) 0 ≡ 0 =
      ap (λ b. cond b (one_if (test span.status)) 0) (ne_eqb span.first k (λ e. other (sym e))) in
      let come : cond (test (Ready true)) (opened_begin k) 0 ≡ 0 = ap (λ b. cond b (opened_begin k) 0) none in
      omega (arith, gone, come, opened_there test k)
