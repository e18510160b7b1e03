-- A span of a subscription that was found: it leaves an order, or goes to the end of one.
use Rattle.std.proofs.Common.{◌≡◌, ℕ, suc, ◌+◌, Bool, true, false, cond, ◌==◌, ◌&&◌, List, [], ◌∷◌, ◌++◌, Some, None}
use Rattle.std.proofs.Common.{slice_get, eq-eqb, ne_eqb, refl, sym, ap, ◌∙◌, ◌⊎◌, inl, inr, arith}
use Rattle.std.proofs.lemmas.Bool.{cases_eq}
use Rattle.rb_deliveries.specs.declared.span.Span.{Span}
use Rattle.rb_deliveries.specs.declared.span.Status.{Status}
use Rattle.rb_deliveries.specs.Spans.{beginning, with_status, SpansRise}
use Rattle.rb_desk.specs.Picture.{Picture}
use Rattle.rb_deliveries.specs.Picture.{Subscription}
use Rattle.rb_deliveries.specs.Changes.{is_span, without_span}
use Rattle.rb_desk.specs.IsPicture.{IsPicture, IsGoodSubscription, how_often, one_if, span_there}
use Rattle.rb_desk.specs.IsPicture.{stands_there}
use Rattle.rb_deliveries.proofs.subs.KnownLaws.{all_get}
use Rattle.rb_desk.proofs.pictures.PictureLaws.{often_without, often_pushed}
use Rattle.rb_desk.proofs.pictures.RiseLaws.{restated_there, restated_other}

-- ---- a span that is there

-- a name is its own, and those of other subscriptions and other spans are others
pub own_name : (s first : ℕ) → is_span s first (s, first) ≡ true
own_name s first = (λ i. eq-eqb s s refl i && eq-eqb first first refl i)

pub other_sub : (s first t other : ℕ) → (t ≡ s → ⊥) → is_span s first (t, other) ≡ false
other_sub s first t other h = ap (λ b. b && (other == first)) (ne_eqb t s h)

pub other_span : (s first other : ℕ) → (other ≡ first → ⊥) → is_span s first (s, other) ≡ false
other_span s first other h = ap (λ b. (s == s) && b) (ne_eqb other first h) ∙ none (s == s)
  where
    none : (b : Bool) → (b && false) ≡ false
    none true = refl
    none false = refl

module _ (p : Picture) (s : ℕ) (q : Subscription) (here : slice_get p.subscriptions s ≡ Some q) where
  -- the subscription that was found is good
  pub found_good : IsPicture p → IsGoodSubscription p q
  found_good good = all_get (IsGoodSubscription p) p.subscriptions s q good.good here

  -- where it has a span it isn't closed, so its spans rise from its floor
  pub open_rise : IsPicture p → (span : Span) (first : ℕ) → beginning first q.spans ≡ Some span
      → SpansRise (suc q.floor) q.spans p.front
  open_rise good span first found = by q.closed refl
    where
      by : (b : Bool) → q.closed ≡ b → SpansRise (suc q.floor) q.spans p.front
      by true is = absurd (let none : None ≡ Some span = ap (beginning first) (sym ((found_good good).has_none is))
          ∙ found in cc)
      by false is = (found_good good).rise is

  -- a right order is right of this subscription
  pub order_here : (test : Status → Bool) (xs : List (ℕ × ℕ))
      → ((t first : ℕ) → how_often t first xs ≡ stands_there test first (slice_get p.subscriptions t)) → (first : ℕ)
      → how_often s first xs ≡ span_there test (beginning first q.spans)
  order_here test xs h first = h s first ∙ ap (stands_there test first) here

  -- a span goes out of an order or comes to its end: those of other subscriptions stand there as before
  module _ (test : Status → Bool) (span : Span) (xs : List (ℕ × ℕ)) where
    pub goes_others : (t first : ℕ) → (t ≡ s → ⊥) → how_often t first (without_span s span.first xs)
        ≡ how_often t first xs
    goes_others t first other = often_without s span.first t first xs
        ∙ ap (λ b. cond b 0 (how_often t first xs)) (other_sub s span.first t first other)

    pub comes_others : (t first : ℕ) → (t ≡ s → ⊥) → how_often t first (xs ++ (s, span.first) ∷ [])
        ≡ how_often t first xs
    comes_others t first other = often_pushed s span.first t first xs
        ∙ ap (λ b. how_often t first xs + one_if b) (other_sub t first s span.first (λ e. other (sym e))) ∙ omega arith

    -- a span that goes out becomes what the order doesn't have, or nothing, and the others are as before
    pub goes_away : (later : List Span) → span_there test (beginning span.first later) ≡ 0
        → ((first : ℕ) → (first ≡ span.first → ⊥)
        → span_there test (beginning first later) ≡ span_there test (beginning first q.spans))
        → ((first : ℕ) → how_often s first xs ≡ span_there test (beginning first q.spans)) → (first : ℕ)
        → how_often s first (without_span s span.first xs) ≡ span_there test (beginning first later)
    goes_away later none same was first = often_without s span.first s first xs ∙ by (cases_eq first span.first)
      where
        by : (first ≡ span.first) ⊎ (first ≡ span.first → ⊥)
            → cond (is_span s span.first (s, first)) 0 (how_often s first xs)
            ≡ span_there test (beginning first later)
        by (inl e) = rw (e, own_name s span.first, none) refl
        by (inr e) = rw (other_span s span.first first e) (was first ∙ sym (same first e))

  -- a span gets a status with which it doesn't stand there any more, or comes to stand there
  module _ (test : Status → Bool) (span : Span) (status : Status) (found : beginning span.first q.spans ≡ Some span)
      (xs : List (ℕ × ℕ)) where
    pub goes_mine : test status ≡ false
        → ((first : ℕ) → how_often s first xs ≡ span_there test (beginning first q.spans)) → (first : ℕ)
        → how_often s first (without_span s span.first xs)
        ≡ span_there test (beginning first (with_status span.first status q.spans))
    goes_mine none =
        goes_away test span xs (with_status span.first status q.spans)
        (restated_there test span.first status q.spans span found ∙ ap one_if none)
        (λ first other. ap (span_there test) (restated_other first span.first status q.spans other))

    -- a span comes to the end of an order in which it didn't stand
    pub comes_mine : test span.status ≡ false → test status ≡ true
        → ((first : ℕ) → how_often s first xs ≡ span_there test (beginning first q.spans)) → (first : ℕ)
        → how_often s first (xs ++ (s, span.first) ∷ [])
        ≡ span_there test (beginning first (with_status span.first status q.spans))
    comes_mine none some was first = often_pushed s span.first s first xs ∙ by (cases_eq first span.first)
      where
        by : (first ≡ span.first) ⊎ (first ≡ span.first → ⊥) → how_often s first xs
            + one_if (is_span s first (s, span.first))
            ≡ span_there test (beginning first (with_status span.first status q.spans))
        by (inl e) =
            rw (
              e,
              own_name s span.first,
              was span.first,
              found,
              none,
              restated_there test span.first status q.spans
                  span found,
              some,
            ) refl
        by (inr e) =
            rw (other_span s first span.first (λ same. e (sym same)), restated_other first span.first status q.spans e)
            (omega (arith, was first))
