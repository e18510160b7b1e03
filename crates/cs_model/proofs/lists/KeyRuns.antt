-- A run of key columns is found by the columns before it, those of the key, and those after it.
use Rattle.std.proofs.Common.{◌≡◌, ◌<◌, ◌+◌, ◌∙◌, ℕ, zero, suc, Bool, true, false, List, [], ◌∷◌, length, drop, get_or}
use Rattle.std.proofs.Common.{◌≤◌, Some, None, refl, ap, sym, subst, not, cond, eqb, length-drop, arith}
use Rattle.std.proofs.Math.Dec.{ltb, eqb-suc-zero}
use Rattle.std.specs.List.{position, position_or_len}
use Rattle.std.specs.Option.{unwrap_or}
use Rattle.std.proofs.lemmas.Bool.{cond_both, eqb-true, lt-ltb, ltb-false, ltb-true}
use Rattle.std.proofs.lemmas.List.{get_or-drop}
use Rattle.std.proofs.lemmas.List.Sums.{passes_at_first, prefix_len-le-length}
use Rattle.cs_model.specs.KeyRun.{IsKeyRun, IsKeySplit}

abbrev pub in_key : ℕ → Bool
in_key flag = ltb 0 flag

abbrev pub not_in_key : ℕ → Bool
not_in_key flag = eqb flag 0

skip : (p : ℕ → Bool) (flag : ℕ) (flags : List ℕ) → p flag ≡ false
    → position_or_len p (flag ∷ flags) ≡ suc (position_or_len p flags)
skip p flag flags is = ap (λ b. cond (not b) (1 + position_or_len p flags) 0) is ∙ omega arith

stop : (p : ℕ → Bool) (flag : ℕ) (flags : List ℕ) → p flag ≡ true → position_or_len p (flag ∷ flags) ≡ 0
stop p flag flags is = ap (λ b. cond (not b) (1 + position_or_len p flags) 0) is

after_others : (flags : List ℕ) (count : ℕ) → IsKeyRun (drop (position_or_len in_key flags) flags) 0 count
    → IsKeyRun flags (position_or_len in_key flags) count
after_others [] count = λ run. run
after_others (zero ∷ flags) count =
    subst (λ n. IsKeyRun (drop n (zero ∷ flags)) 0 count → IsKeyRun (zero ∷ flags) n count)
    (sym (skip in_key zero flags refl)) (λ run. (refl, after_others flags count run))
after_others (suc n ∷ flags) count =
    subst (λ m. IsKeyRun (drop m (suc n ∷ flags)) 0 count → IsKeyRun (suc n ∷ flags) m count)
    (sym (stop in_key (suc n) flags (lt-ltb 0 (suc n) (omega arith)))) (λ run. run)

before_others : (flags : List ℕ) → IsKeyRun (drop (position_or_len not_in_key flags) flags) 0 0
    → IsKeyRun flags 0 (position_or_len not_in_key flags)
before_others [] = λ run. run
before_others (zero ∷ flags) =
    subst (λ n. IsKeyRun (drop n (zero ∷ flags)) 0 0 → IsKeyRun (zero ∷ flags) 0 n)
    (sym (stop not_in_key zero flags refl)) (λ run. run)
before_others (suc n ∷ flags) =
    subst (λ m. IsKeyRun (drop m (suc n ∷ flags)) 0 0 → IsKeyRun (suc n ∷ flags) 0 m)
    (sym (skip not_in_key (suc n) flags (eqb-suc-zero n))) (λ run. (omega arith, before_others flags run))

only_others : (flags : List ℕ) → length flags ≤ position_or_len in_key flags → IsKeyRun flags 0 0
only_others [] all = tt
only_others (zero ∷ flags) all = (refl, only_others flags (omega (arith, all, skip in_key zero flags refl)))
only_others (suc n ∷ flags) all =
    absurd (omega (arith, all, stop in_key (suc n) flags (lt-ltb 0 (suc n) (omega arith))))

-- ---- the places that are looked for

pub place_within : (p : ℕ → Bool) (flags : List ℕ) → position_or_len p flags ≤ length flags
place_within p flags = prefix_len-le-length (λ x. not (p x)) flags

pub place_or_end : (p : ℕ → Bool) (flags : List ℕ)
    → unwrap_or (position p flags) (length flags) ≡ position_or_len p flags
place_or_end p flags =
    let first = position_or_len p flags in
    cond_both (ltb first (length flags)) (Some first) None (λ o. unwrap_or o (length flags) ≡ first) (λ is. refl)
    (λ not_is. omega (arith, ltb-false first (length flags) not_is, place_within p flags))

pub run_found : (flags rest last : List ℕ) (first count more : ℕ) → first ≡ position_or_len in_key flags
    → rest ≡ drop first flags → count ≡ position_or_len not_in_key rest → last ≡ drop count rest
    → more ≡ position_or_len in_key last → length last ≤ more → IsKeyRun flags first count
run_found flags rest last first count more is_first is_rest is_count is_last is_more all =
    let tail : IsKeyRun last 0 0 = only_others last (omega (arith, all, is_more)) in
    let keys : IsKeyRun rest 0 count = subst (λ n. IsKeyRun rest 0 n) (sym is_count)
    (before_others rest (subst (λ fs. IsKeyRun fs 0 0) (is_last ∙ ap (λ n. drop n rest) is_count) tail)) in
    subst (λ n. IsKeyRun flags n count) (sym is_first)
    (after_others flags count (subst (λ fs. IsKeyRun fs 0 count) (is_rest ∙ ap (λ n. drop n flags) is_first) keys))

-- different flags have different places
different_places : (flags : List ℕ) (one other : ℕ) → get_or flags one 0 ≡ 0 → 0 < get_or flags other 0 → one ≡ other → ⊥
different_places flags one other none some same = omega (arith, none, some, ap (λ n. get_or flags n 0) same)

rises_by : (n at : ℕ) → (at + n ≡ at → ⊥) → at < at + n
rises_by zero at other = absurd (other (omega arith))
rises_by (suc n) at other = omega arith

pub split_found : (flags rest last : List ℕ) (first count more : ℕ) → first ≡ position_or_len in_key flags
    → rest ≡ drop first flags → count ≡ position_or_len not_in_key rest → last ≡ drop count rest
    → more ≡ position_or_len in_key last → more < length last → IsKeySplit flags
split_found flags rest last first count more is_first is_rest is_count is_last is_more inside =
    let last_len = ap length is_last ∙ length-drop count rest in
    let rest_len = ap length is_rest ∙ length-drop first flags in
    let one : 0 < get_or flags first 0 =
    subst (λ n. 0 < get_or flags n 0) (sym is_first) (ltb-true 0 _ (passes_at_first in_key flags 0
    (omega (arith, inside, last_len, rest_len, is_first)))) in
    let gap : get_or flags (first + count) 0 ≡ 0 =
    sym (get_or-drop first flags count 0) ∙ ap (λ fs. get_or fs count 0) (sym is_rest)
    ∙ ap (λ n. get_or rest n 0) is_count
    ∙ eqb-true _ 0 (passes_at_first not_in_key rest 0 (omega (arith, inside, last_len, is_count))) in
    let other : 0 < get_or flags (first + count + more) 0 =
    let here : get_or last more 0 ≡ get_or flags (first + count + more) 0 =
    ap (λ fs. get_or fs more 0) is_last ∙ get_or-drop count rest more 0
    ∙ ap (λ fs. get_or fs (count + more) 0) is_rest ∙ get_or-drop first flags (count + more) 0
    ∙ ap (λ n. get_or flags n 0) (omega arith) in
    let some : 0 < get_or last more 0 = subst (λ n. 0 < get_or last n 0) (sym is_more)
    (ltb-true 0 _ (passes_at_first in_key last 0 (omega (arith, inside, is_more)))) in
    omega (arith, some, here) in
    record {
      one = first;
      outside = first + count;
      other = first + count + more;
      rise = (
        rises_by count first (λ same. different_places flags (first + count) first gap one same),
        rises_by more (first + count) (λ same. different_places flags (first + count) (first + count + more) gap other (sym same)),
        omega (arith, inside, last_len, rest_len),
      );
      keys = (one, other);
      gap = gap;
    }
