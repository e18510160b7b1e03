-- The invariant of `no_number_is_lost`. What is in flight was delivered so, and each number after the start was settled
-- or is in a span. Then: changes of spans that preserve it.
use Rattle.std.proofs.Common.{◌≡◌, ℕ, suc, ◌<◌, ◌≤◌, ◌⊎◌, inl, inr, Bool, true, false, not, cond, ◌==◌, List, []}
use Rattle.std.proofs.Common.{◌∷◌, ◌++◌, Some, slice_get, slice_set, eqb-true, refl, sym, ap, ◌∙◌, subst, arith}
use Rattle.std.specs.List.{AllByRecursion}
use Rattle.std.proofs.lemmas.Bool.{cases_eq}
use Rattle.rb_deliveries.specs.declared.span.Span.{Span}
use Rattle.rb_deliveries.specs.declared.span.Status.{Status}
use Rattle.rb_deliveries.specs.declared.span.Status.TheVariants.{Ready, InFlight}
use Rattle.rb_deliveries.specs.Picture.{Subscription}
use Rattle.rb_deliveries.specs.Spans.{beginning, fresh, gone_back, grown_spans, is_due, last_takes, last_with}
use Rattle.rb_deliveries.specs.Spans.{SpansRise}
use Rattle.rb_deliveries.specs.Spans.{without_first}
use Rattle.rb_deliveries.proofs.orders.Line.{all_both, all_then}
use Rattle.rb_deliveries.proofs.spans.CutLaws.{CutIsFresh}
use Rattle.rb_desk.specs.Picture.{Picture}
use Rattle.rb_desk.specs.IsPicture.{IsInSpan}
use Rattle.rb_desk.proofs.calls.CallCases.{either_way}
use Rattle.rb_desk.proofs.pictures.PictureLaws.{get_set, get_set_other}
use Rattle.rb_desk.proofs.pictures.RiseLaws.{without_none}

-- ---- the invariant

-- which deliveries were made: to a subscription, under a number, from a first number to a last
abbrev pub Deliveries : Type 1
Deliveries = (s number first last : ℕ) → Type 0

-- if the span is in flight, its delivery was made
abbrev pub MadeAs : Deliveries → ℕ → ℕ → ℕ → Status → Type 0
MadeAs Made s first last (Ready taken) = Unit {0}
MadeAs Made s first last (InFlight number moment) = Made s number first last

abbrev pub SpanWasMade : Deliveries → ℕ → Span → Type 0
SpanWasMade Made s p = MadeAs Made s p.first p.last p.status

-- which numbers of a subscription were settled, where it has this link
abbrev pub Settlements : Type 1
Settlements = (s link n : ℕ) → Type 0

pub record IsAccounted (Made : Deliveries) (Settled : Settlements) (front s : ℕ) (q : Subscription) : Type 0 where
  pub made : AllByRecursion (SpanWasMade Made s) q.spans
  pub kept : q.closed ≡ false → (n : ℕ) → q.start < n → n ≤ front → Settled s q.link n ⊎ IsInSpan n q.spans

abbrev pub Accounts : Deliveries → Settlements → Picture → Type 0
Accounts Made Settled p = (s : ℕ) (q : Subscription) → slice_get p.subscriptions s ≡ Some q
    → IsAccounted Made Settled p.front s q

-- ---- with one call more

-- a longer journal says what the shorter one said
pub record CarriesOver (Made Made' : Deliveries) (Settled Settled' : Settlements) : Type 0 where
  pub made : (s number first last : ℕ) → Made s number first last → Made' s number first last
  pub settled : (s link n : ℕ) → Settled s link n → Settled' s link n

module _ {Made Made' : Deliveries} {Settled Settled' : Settlements} (on : CarriesOver Made Made' Settled Settled') where
  made_later : (s first last : ℕ) (status : Status) → MadeAs Made s first last status → MadeAs Made' s first last status
  made_later s first last (Ready taken) h = tt
  made_later s first last (InFlight number moment) h = on.made s number first last h

  pub all_made_later : (s : ℕ) (spans : List Span) → AllByRecursion (SpanWasMade Made s) spans
      → AllByRecursion (SpanWasMade Made' s) spans
  all_made_later s spans = all_then (SpanWasMade Made s) (SpanWasMade Made' s) spans
      (λ p. made_later s p.first p.last p.status)

  pub settled_or : (s link n : ℕ) {X Y : Type 0} → (X → Y) → Settled s link n ⊎ X → Settled' s link n ⊎ Y
  settled_or s link n f (inl h) = inl (on.settled s link n h)
  settled_or s link n f (inr x) = inr (f x)

  pub accounted_later : (front s : ℕ) (q : Subscription) → IsAccounted Made Settled front s q
      → IsAccounted Made' Settled' front s q
  accounted_later front s q h = record {
    made = all_made_later s q.spans h.made;
    kept = λ runs n low high. settled_or s q.link n (λ i. i) (h.kept runs n low high);
  }

  pub accounts_later : (p new : Picture) → new.subscriptions ≡ p.subscriptions → new.front ≡ p.front
      → Accounts Made Settled p → Accounts Made' Settled' new
  accounts_later p new same front h s q here =
      rw front (accounted_later p.front s q (h s q (ap (λ subs. slice_get subs s) (sym same) ∙ here)))

  -- one subscription is replaced by one that is accounted for
  pub accounts_set : (p new : Picture) (s : ℕ) (q r : Subscription) → slice_get p.subscriptions s ≡ Some q
      → new.subscriptions ≡ slice_set p.subscriptions s r → new.front ≡ p.front → Accounts Made Settled p
      → IsAccounted Made' Settled' p.front s r
      → Accounts Made' Settled' new
  accounts_set p new s q r here is front h mine t x there = rw front (by (cases_eq t s))
    where
      at : slice_get (slice_set p.subscriptions s r) t ≡ Some x
      at = ap (λ subs. slice_get subs t) (sym is) ∙ there

      by : (t ≡ s) ⊎ (t ≡ s → ⊥) → IsAccounted Made' Settled' p.front t x
      by (inl e) =
          let both : Some r ≡ Some x = sym (get_set p.subscriptions s q r here)
          ∙ ap (slice_get (slice_set p.subscriptions s r)) (sym e) ∙ at in
          let same : r ≡ x = cc in
          subst (λ m. IsAccounted Made' Settled' p.front m x) (sym e)
          (subst (λ (y : Subscription). IsAccounted Made' Settled' p.front s y) same mine)
      by (inr other) = accounted_later p.front t x (h t x (sym (get_set_other p.subscriptions s t r other) ∙ at))

-- ---- each change of spans

module _ (Made : Deliveries) (s : ℕ) where
  -- cut spans: none is in flight
  pub fresh_made : (spans : List Span) → AllByRecursion CutIsFresh spans → AllByRecursion (SpanWasMade Made s) spans
  fresh_made [] h = tt
  fresh_made (p ∷ rest) h = (
    subst (MadeAs Made s p.first p.last) (sym h.0) tt,
    fresh_made rest h.1,
  )

  -- spans that go back: what is still in flight was so before
  pub back_made : (timeout clock : ℕ) (spans : List Span) → AllByRecursion (SpanWasMade Made s) spans
      → AllByRecursion (SpanWasMade Made s) (gone_back timeout clock spans)
  back_made timeout clock [] h = tt
  back_made timeout clock (p ∷ rest) h = (
    either_way (SpanWasMade Made s) (is_due timeout clock p.status) (record p { status = Ready true }) p tt h.0,
    back_made timeout clock rest h.1,
  )

  -- a span in flight takes no number
  with_made : (batch n : ℕ) (spans : List Span) → last_takes batch n spans ≡ true
      → AllByRecursion (SpanWasMade Made s) spans → AllByRecursion (SpanWasMade Made s) (last_with n spans)
  with_made batch n [] takes h = tt
  with_made batch n (p ∷ []) takes h = (by p.status takes, tt)
    where
      by : (status : Status) → last_takes batch n (record p { status = status } ∷ []) ≡ true
          → MadeAs Made s p.first n status
      by (Ready taken) takes = tt
      by (InFlight number moment) takes = absurd (let no : false ≡ true = takes in cc)
  with_made batch n (p ∷ q ∷ rest) takes h = (h.0, with_made batch n (q ∷ rest) takes h.1)

  pub grown_made : (batch n : ℕ) (spans : List Span) → AllByRecursion (SpanWasMade Made s) spans
      → AllByRecursion (SpanWasMade Made s) (grown_spans batch n spans)
  grown_made batch n spans h = by (last_takes batch n spans) refl
    where
      by : (b : Bool) → last_takes batch n spans ≡ b
          → AllByRecursion (SpanWasMade Made s) (cond b (last_with n spans) (spans ++ fresh n n ∷ []))
      by true takes = with_made batch n spans takes h
      by false takes = all_both (SpanWasMade Made s) spans (fresh n n ∷ []) h (tt, tt)

-- a span is removed: each number was in this one, or is in another
pub in_others : (n low high first : ℕ) (spans : List Span) (span : Span) → SpansRise low spans high
    → beginning first spans ≡ Some span → IsInSpan n spans
    → ((span.first ≤ n) × (n ≤ span.last)) ⊎ IsInSpan n (without_first first spans)
in_others n low high first [] span h found i = absurd i
in_others n low high first (p ∷ rest) span h found i =
    by (p.first == first) refl found i (in_others n (suc p.last) high first rest span h.2)
  where
    Out : List Span → Type 0
    Out xs = ((span.first ≤ n) × (n ≤ span.last)) ⊎ IsInSpan n xs

    over : Out (without_first first rest) → Out (p ∷ without_first first rest)
    over (inl out) = inl out
    over (inr there) = inr (inr there)

    by : (b : Bool) → (p.first == first) ≡ b → cond b (Some p) (beginning first rest) ≡ Some span
        → ((p.first ≤ n) × (n ≤ p.last)) ⊎ IsInSpan n rest
        → (beginning first rest ≡ Some span → IsInSpan n rest → Out (without_first first rest))
        → Out (cond (not b) (p ∷ without_first first rest) (without_first first rest))
    by true is here (inl this) next =
        let e : p ≡ span = cc in
        inl (subst (λ (x : Span). (x.first ≤ n) × (n ≤ x.last)) e this)
    by true is here (inr there) next =
        inr (subst (IsInSpan n)
        (sym (without_none first (suc p.last) high rest h.2 (omega (arith, h.1, eqb-true p.first first is)))) there)
    by false is here (inl this) next = inr (inl this)
    by false is here (inr there) next = over (next here there)
