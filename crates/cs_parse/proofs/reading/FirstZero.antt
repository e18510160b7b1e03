-- The index of the first zero byte.
use Rattle.std.proofs.Common.{◌≡◌, ◌==◌, ℕ, zero, suc, ◌<◌, ◌≤◌, true, cond, List, [], ◌∷◌, length}
use Rattle.std.proofs.Common.{position, Option, Some, None, refl, sym, ap, ◌∙◌, arith}
use Rattle.std.specs.List.{position_or_len}
use Rattle.std.specs.Prelude.{slice_index}
use Rattle.std.proofs.lemmas.Bool.{false≢true, lt-ltb, le-ltb}
use Rattle.memchr.specs.Find.{IsFirstByte, is_byte}
use Rattle.cs_parse.proofs.reading.Letters.{is_zero, nonzero, place_more}

abbrev ZeroAt : List ℕ → ℕ → Type 0
ZeroAt bytes k = (slice_index bytes k == 0) ≡ true

zero_place : (bytes : List ℕ) (k : ℕ) → k < length bytes → ((j : ℕ) → j < k → ¬ ZeroAt bytes j) → ZeroAt bytes k
    → position_or_len is_zero bytes ≡ k
zero_place [] k lt before hit = absurd (omega (arith, lt))
zero_place (zero ∷ bytes) zero lt before hit = refl
zero_place (zero ∷ bytes) (suc k) lt before hit = absurd (before 0 (omega arith) refl)
zero_place (suc b ∷ bytes) zero lt before hit = absurd (false≢true (sym (nonzero b) ∙ hit))
zero_place (suc b ∷ bytes) (suc k) lt before hit =
    place_more b bytes ∙ ap suc
    (zero_place bytes k (omega (arith, lt)) (λ j less. before (suc j) (omega (arith, less))) hit)

zero_none : (bytes : List ℕ) → ((j : ℕ) → j < length bytes → ¬ ZeroAt bytes j) → length bytes
    ≤ position_or_len is_zero bytes
zero_none [] before = omega arith
zero_none (zero ∷ bytes) before = absurd (before 0 (omega arith) refl)
zero_none (suc b ∷ bytes) before =
    let rec = zero_none bytes (λ j less. before (suc j) (omega (arith, less))) in
    omega (arith, rec, place_more b bytes)

pub first_is : (bytes : List ℕ) (found : Option ℕ) → IsFirstByte (is_byte 0) bytes found → found
    ≡ position is_zero bytes
first_is bytes None h =
    let n = position_or_len is_zero bytes in
    sym (ap (λ b. cond b (Some n) None) (le-ltb n (length bytes) (zero_none bytes (λ j less. h j (omega arith) less))))
first_is bytes (Some k) h =
    let n = position_or_len is_zero bytes in
    let at_k : n ≡ k = zero_place bytes k h.0.high (λ j less. h.0.before j (omega arith) less) h.1 in
    ap (λ i. Some i) (sym at_k)
    ∙ sym (ap (λ b. cond b (Some n) None) (lt-ltb n (length bytes) (omega (arith, at_k, h.0.high))))
