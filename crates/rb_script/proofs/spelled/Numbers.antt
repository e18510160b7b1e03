-- The value of digits, one at a time.
use Rattle.std.proofs.Common.{◌≡◌, ℕ, suc, ◌+◌, ◌-◌, ◌*◌, ◌^◌, ◌<◌, ◌≤◌, Bool, true, false, cond, ltb, List, [], ◌∷◌}
use Rattle.std.proofs.Common.{length, drop, get_or, Some, None, sym, ap, ◌∙◌, arith, drop-cons}
use Rattle.std.proofs.lemmas.Bool.{le-ltb, lt-ltb}
use Rattle.std.proofs.Math.ListN.{drop_of_length-le}
use Rattle.rb_script.specs.Words.{value_from, value_within}

-- more digits make no less
value_from-climbs : (high : ℕ) (digits : List ℕ) → high ≤ value_from high digits
value_from-climbs high [] = omega arith
value_from-climbs high (digit ∷ digits) = omega (arith, value_from-climbs (10 * high + (digit - 48)) digits)

-- where one more digit passes 64 bits, all do
pub too_large : (high i : ℕ) (digits : List ℕ) → i < length digits → value_from high (drop i digits)
    ≡ value_from 0 digits → 2 ^ 64 ≤ 10 * high + (get_or digits i 0 - 48) → value_within digits ≡ None
too_large high i digits lt so_far large =
    let d : ℕ = get_or digits i 0 in
    let e : value_from high (drop i digits) ≡ value_from (10 * high + (d - 48)) (drop (suc i) digits) =
    ap (value_from high) (drop-cons digits i 0 lt) in
    let le : 2 ^ 64 ≤ value_from 0 digits =
    omega (arith, value_from-climbs (10 * high + (d - 48)) (drop (suc i) digits)) in
    let no : ltb (value_from 0 digits) (2 ^ 64) ≡ false = le-ltb _ _ le in
    ap (λ (b : Bool). cond b (Some (value_from 0 digits)) None) no

-- after all digits the value is that of all
pub numbers_fits : (high i : ℕ) (digits : List ℕ) → length digits ≤ i → value_from high (drop i digits)
    ≡ value_from 0 digits → high < 2 ^ 64 → Some high ≡ value_within digits
numbers_fits high i digits le so_far small =
    let e : high ≡ value_from 0 digits = ap (value_from high) (sym (drop_of_length-le digits le)) ∙ so_far in
    let lt : value_from 0 digits < 2 ^ 64 = omega arith in
    let yes : ltb (value_from 0 digits) (2 ^ 64) ≡ true = lt-ltb _ _ lt in
    ap (λ (n : ℕ). Some n) e ∙ sym (ap (λ (b : Bool). cond b (Some (value_from 0 digits)) None) yes)
