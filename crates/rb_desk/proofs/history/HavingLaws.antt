-- How many of some rising spans have a number: none below them, one at most, and one if a span has it.
use Rattle.std.proofs.Common.{◌≡◌, ℕ, suc, ◌<◌, ◌≤◌, ◌⊎◌, inl, inr, Bool, true, false, nat_le, List, [], ◌∷◌}
use Rattle.std.proofs.Common.{refl, ap, arith}
use Rattle.std.proofs.lemmas.Bool.{cases_lt, le-leb, lt-leb, and_from, and_left, and_right}
use Rattle.rb_deliveries.specs.declared.span.Span.{Span}
use Rattle.rb_deliveries.specs.Spans.{SpansRise}
use Rattle.rb_desk.specs.IsPicture.{IsInSpan, one_if}
use Rattle.rb_desk.proofs.pictures.PictureLaws.{count_cons}
use Rattle.rb_desk.specs.History.{span_has, how_many_have}

-- ---- whether one span has it

has_it_within : (n : ℕ) (p : Span) → p.first ≤ n → n ≤ p.last → span_has n p ≡ true
has_it_within n p low high = and_from (nat_le p.first n) (nat_le n p.last) (le-leb p.first n low) (le-leb n p.last high)

pub not_below : (n : ℕ) (p : Span) → n < p.first → span_has n p ≡ false
not_below n p less = and_left (nat_le p.first n) (nat_le n p.last) (lt-leb p.first n less)

pub not_above : (n : ℕ) (p : Span) → p.last < n → span_has n p ≡ false
not_above n p less = and_right (nat_le p.first n) (nat_le n p.last) (lt-leb n p.last less)

-- ---- how many have it

-- none has a number below them
pub none_has : (n low high : ℕ) (spans : List Span) → SpansRise low spans high → n < low → how_many_have n spans ≡ 0
none_has n low high [] h less = refl
none_has n low high (p ∷ rest) h less =
    let none : one_if (span_has n p) ≡ 0 = ap one_if (not_below n p (omega (arith, h.0, less))) in
    omega (
      arith,
      none,
      count_cons (span_has n) p rest,
      none_has n (suc p.last) high rest h.2 (omega (arith, h.0, h.1, less)),
    )

-- two spans that rise share no number
pub one_has_it : (n low high : ℕ) (spans : List Span) → SpansRise low spans high → how_many_have n spans ≤ 1
one_has_it n low high [] h = omega arith
one_has_it n low high (p ∷ rest) h = by (cases_lt p.last n) (one_has_it n (suc p.last) high rest h.2)
  where
    by : (p.last < n) ⊎ (n ≤ p.last) → how_many_have n rest ≤ 1 → how_many_have n (p ∷ rest) ≤ 1
    by (inl less) next =
        let none : one_if (span_has n p) ≡ 0 = ap one_if (not_above n p less) in
        omega (arith, none, count_cons (span_has n) p rest, next)
    by (inr le) next =
        let few : one_if (span_has n p) ≤ 1 = at_most (span_has n p) in
        omega (
          arith,
          few,
          count_cons (span_has n) p rest,
          none_has n (suc p.last) high rest h.2
              (omega (arith, le)),
        )
      where
        at_most : (b : Bool) → one_if b ≤ 1
        at_most true = omega arith
        at_most false = omega arith

-- one has it, so the count isn't 0
some_has_it : (n : ℕ) (spans : List Span) → IsInSpan n spans → 1 ≤ how_many_have n spans
some_has_it n [] i = absurd i
some_has_it n (p ∷ rest) (inl here) =
    let one : one_if (span_has n p) ≡ 1 = ap one_if (has_it_within n p here.0 here.1) in
    omega (arith, one, count_cons (span_has n) p rest)
some_has_it n (p ∷ rest) (inr there) = omega (arith, count_cons (span_has n) p rest, some_has_it n rest there)

pub exactly_one_has : (n low high : ℕ) (spans : List Span) → SpansRise low spans high → IsInSpan n spans
    → how_many_have n spans ≡ 1
exactly_one_has n low high spans h i = omega (arith, one_has_it n low high spans h, some_has_it n spans i)
