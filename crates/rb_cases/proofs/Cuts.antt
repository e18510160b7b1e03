-- Digits cut into pieces, one piece after another.
use Rattle.std.proofs.Common.{◌≡◌, ℕ, zero, suc, ◌<◌, ◌≤◌, min, List, [], ◌∷◌, ◌++◌, length, take, drop, refl, sym, ap}
use Rattle.std.proofs.Common.{◌+◌, ◌∙◌, append_assoc, arith, length-append, length-drop}
use Rattle.std.proofs.lemmas.List.{append-nil, take_at, drop_at, take_min, drop_min}
use Rattle.rb_cases.specs.Pieces.{pieces_text}

-- a bound on the lines is no matter where it is large enough
enough_lines : (m n size : ℕ) (front digits : List ℕ) → 0 < size → length digits ≤ m → length digits ≤ n
    → pieces_text m size front digits ≡ pieces_text n size front digits
enough_lines zero zero size front digits some a b = refl
enough_lines zero (suc n) size front [] some a b = refl
enough_lines zero (suc n) size front (digit ∷ digits) some a b = absurd (omega (arith, a))
enough_lines (suc m) zero size front [] some a b = refl
enough_lines (suc m) zero size front (digit ∷ digits) some a b = absurd (omega (arith, b))
enough_lines (suc m) (suc n) size front [] some a b = refl
enough_lines (suc m) (suc n) size front (digit ∷ digits) some a b =
    let rest = drop size (digit ∷ digits) in
    let short = length-drop size (digit ∷ digits) in
    ap (λ text. front ++ (take size (digit ∷ digits) ++ 10 ∷ text))
    (enough_lines m n size front rest some (omega (arith, some, a, short)) (omega (arith, some, b, short)))

-- the first piece, and the others
pieces_step : (size : ℕ) (front text piece rest : List ℕ) → 0 < size → text ≡ piece ++ rest
    → length piece ≡ min size (length text) → 0 < length text
    → pieces_text (length text) size front text ≡ front ++ (piece ++ 10 ∷ pieces_text (length rest) size front rest)
pieces_step size front [] piece rest some parts is has = absurd (omega (arith, has))
pieces_step size front (digit ∷ digits) piece rest some parts is has =
    let text = digit ∷ digits in
    let n = min size (length text) in
    let taken : take size text ≡ piece = sym (take_min size text) ∙ ap (take n) parts ∙ take_at piece rest n is in
    let left : drop size text ≡ rest = sym (drop_min size text) ∙ ap (drop n) parts ∙ drop_at piece rest n is in
    let both : suc (length digits) ≡ length piece + length rest = ap length parts ∙ length-append piece rest in
    let fewer : length rest ≤ length digits = omega (arith, both, is, some) in
    ap (λ p. front ++ (p ++ 10 ∷ pieces_text (length digits) size front (drop size text))) taken
    ∙ ap (λ r. front ++ (piece ++ 10 ∷ pieces_text (length digits) size front r)) left
    ∙ ap (λ t. front ++ (piece ++ 10 ∷ t)) (enough_lines (length digits) (length rest) size front rest some fewer
    (omega arith))

-- what is made so far, and the rest cut, is the whole cut
pub pieces_go_on : (size : ℕ) (front text piece rest made new whole : List ℕ) → 0 < size → text ≡ piece ++ rest
    → length piece ≡ min size (length text) → 0 < length text → new ≡ ((made ++ front) ++ piece) ++ 10 ∷ []
    → made ++ pieces_text (length text) size front text ≡ whole
    → new ++ pieces_text (length rest) size front rest ≡ whole
pieces_go_on size front text piece rest made new whole some parts is has added so_far =
    let others = pieces_text (length rest) size front rest in
    ap (λ l. l ++ others) added
    ∙ append_assoc ((made ++ front) ++ piece) (10 ∷ []) others
    ∙ append_assoc (made ++ front) piece (10 ∷ others)
    ∙ append_assoc made front (piece ++ 10 ∷ others)
    ∙ ap (λ l. made ++ l) (sym (pieces_step size front text piece rest some parts is has))
    ∙ so_far

pub pieces_done : (size : ℕ) (front rest made whole : List ℕ) → length rest ≡ 0
    → made ++ pieces_text (length rest) size front rest ≡ whole → made ≡ whole
pieces_done size front [] made whole none so_far = sym (append-nil made) ∙ so_far
pieces_done size front (digit ∷ digits) made whole none so_far = absurd (omega (arith, none))
