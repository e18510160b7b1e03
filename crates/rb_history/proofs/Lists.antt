-- Beginnings of one list, and how many entries it has under a number.
use Rattle.std.proofs.Common.{◌≡◌, ◌≢◌, ℕ, zero, suc, ◌+◌, ◌<◌, ◌≤◌, true, false, ◌==◌, cond, List, [], ◌∷◌, ◌++◌, length, map, get_or, set, refl, sym, ap, ◌∙◌, arith, zero-add, length-set}
use Rattle.std.proofs.lemmas.List.{get_or-set_same, get_or-set_other}
use Rattle.std.proofs.lemmas.Bool.Decides.{nat_tests}
use mathlib.Core.List.{IsPrefix}
use base.Stored.{Gv}
use Rattle.logbook.specs.Pages.{Cell, cell}
use Rattle.rb_history.specs.Kept.{count_under, HasCounts}

pub prefix_shorter : {A : Type 0} (xs ys zs : List A) → IsPrefix xs zs → IsPrefix ys zs → length xs ≤ length ys → IsPrefix xs ys
prefix_shorter [] ys zs p q le = (ys, refl)
prefix_shorter (x ∷ xs) [] zs p q le = absurd (omega arith)
prefix_shorter (x ∷ xs) (y ∷ ys) [] p q le = absurd (cc (p.1))
prefix_shorter (x ∷ xs) (y ∷ ys) (z ∷ zs) p q le =
    let heads : x ≡ y = cc (p.1, q.1) in
    let rest = prefix_shorter xs ys zs (p.0, cc (p.1)) (q.0, cc (q.1)) (omega arith) in
    (rest.0, cc (heads, rest.1))

pub length_codes : {E : Type 0} (c : E → Gv) (xs : List E) → length (map c xs) ≡ length xs
length_codes c [] = refl
length_codes c (x ∷ xs) = omega (arith, length_codes c xs)

pub count_under-append : {E : Type 0} (k : ℕ) (xs ys : List (ℕ × E)) → count_under k (xs ++ ys) ≡ count_under k xs + count_under k ys
count_under-append k [] ys = sym (zero-add (count_under k ys))
count_under-append k (x ∷ xs) ys = omega (arith, count_under-append k xs ys)

equals_itself : (n : ℕ) → (n == n) ≡ true
equals_itself n = grind (arith, nat_tests)

other_number : (n k : ℕ) → k ≢ n → (n == k) ≡ false
other_number n k apart = grind (arith, nat_tests)

pub one_added : {E : Type 0} (n : ℕ) (log : List (ℕ × E)) (x : E) → count_under n (log ++ (n, x) ∷ []) ≡ count_under n log + 1
one_added n log x = let one : ℕ = 1 in let none : ℕ = 0 in let e : cond (n == n) one none ≡ one = ap (λ b. cond b one none) (equals_itself n) in omega (arith, count_under-append n log ((n, x) ∷ []), e)

pub no_more_of : {E : Type 0} (n k : ℕ) (log : List (ℕ × E)) (x : E) → k ≢ n → count_under k (log ++ (n, x) ∷ []) ≡ count_under k log
no_more_of n k log x apart = let one : ℕ = 1 in let none : ℕ = 0 in let e : cond (n == k) one none ≡ none = ap (λ b. cond b one none) (other_number n k apart) in omega (arith, count_under-append k log ((n, x) ∷ []), e)

by_equality : {P : Type 0} (k n : ℕ) → (k ≡ n → P) → (k ≢ n → P) → P
by_equality zero zero is isnt = is refl
by_equality zero (suc n) is isnt = isnt (λ e. omega arith)
by_equality (suc k) zero is isnt = isnt (λ e. omega arith)
by_equality (suc k) (suc n) is isnt = by_equality k n (λ e. is (ap suc e)) (λ f. isnt (λ e. f (omega arith)))

-- one entry more under a number that has a cell
pub counts_added : {E : Type 0} (cs : List Cell) (log : List (ℕ × E)) (n : ℕ) (x : E) → n < length cs → HasCounts cs log → HasCounts (set cs n (count_under n log + 1, true)) (log ++ (n, x) ∷ [])
counts_added cs log n x here all = record {
  all = λ k. by_equality k n
      (λ e. ap (λ j. (get_or (set cs n (count_under n log + 1, true)) j (0, false)).0) e ∙ (ap (λ (c : Cell). c.0) (get_or-set_same cs n (count_under n log + 1, true) (0, false) here) ∙ (sym (one_added n log x) ∙ ap (λ j. count_under j (log ++ (n, x) ∷ [])) (sym e))))
      (λ apart. ap (λ (c : Cell). c.0) (get_or-set_other cs n k (count_under n log + 1, true) (0, false) apart) ∙ (all.all k ∙ sym (no_more_of n k log x apart)));
  home = λ k less. by_equality k n
      (λ e. ap (λ j. (get_or (set cs n (count_under n log + 1, true)) j (0, false)).1) e ∙ ap (λ (c : Cell). c.1) (get_or-set_same cs n (count_under n log + 1, true) (0, false) here))
      (λ apart. ap (λ (c : Cell). c.1) (get_or-set_other cs n k (count_under n log + 1, true) (0, false) apart) ∙ all.home k (omega (arith, zero-add, length-set cs n (count_under n log + 1, true))));
}

-- the same again
pub counts_kept : {E : Type 0} (cs : List Cell) (log : List (ℕ × E)) (n m : ℕ) → n < length cs → m ≡ count_under n log → HasCounts cs log → HasCounts (set cs n (m, true)) log
counts_kept cs log n m here is all = record {
  all = λ k. by_equality k n
      (λ e. ap (λ j. (get_or (set cs n (m, true)) j (0, false)).0) e ∙ (ap (λ (c : Cell). c.0) (get_or-set_same cs n (m, true) (0, false) here) ∙ (is ∙ ap (λ j. count_under j log) (sym e))))
      (λ apart. ap (λ (c : Cell). c.0) (get_or-set_other cs n k (m, true) (0, false) apart) ∙ all.all k);
  home = λ k less. by_equality k n
      (λ e. ap (λ j. (get_or (set cs n (m, true)) j (0, false)).1) e ∙ ap (λ (c : Cell). c.1) (get_or-set_same cs n (m, true) (0, false) here))
      (λ apart. ap (λ (c : Cell). c.1) (get_or-set_other cs n k (m, true) (0, false) apart) ∙ all.home k (omega (arith, length-set cs n (m, true))));
}

-- a cell more, whose number has no entry
snoc_num : (cs : List Cell) (k : ℕ) → (cell (set (cs ++ (0, false) ∷ []) (length cs) (0, true)) k).0 ≡ (cell cs k).0
snoc_num [] zero = refl
snoc_num [] (suc k) = refl
snoc_num (c ∷ cs) zero = refl
snoc_num (c ∷ cs) (suc k) = snoc_num cs k

snoc_home : (cs : List Cell) (k : ℕ) → k < length (set (cs ++ (0, false) ∷ []) (length cs) (0, true)) → ((k : ℕ) → k < length cs → (cell cs k).1 ≡ true)
    → (cell (set (cs ++ (0, false) ∷ []) (length cs) (0, true)) k).1 ≡ true
snoc_home [] zero less all = refl
snoc_home [] (suc k) less all = absurd (omega arith)
snoc_home (c ∷ cs) zero less all = all 0 (omega arith)
snoc_home (c ∷ cs) (suc k) less all = snoc_home cs k (omega arith) (λ j l. all (suc j) (omega arith))

pub counts_seated : {E : Type 0} (cs : List Cell) (log : List (ℕ × E)) → HasCounts cs log → HasCounts (set (cs ++ (0, false) ∷ []) (length cs) (0, true)) log
counts_seated cs log all = record {
  all = λ k. snoc_num cs k ∙ all.all k;
  home = λ k less. snoc_home cs k less all.home;
}

out_of_cells : (cs : List Cell) (k : ℕ) → length cs ≤ k → (cell cs k).0 ≡ 0
out_of_cells [] k le = refl
out_of_cells (c ∷ cs) zero le = absurd (omega arith)
out_of_cells (c ∷ cs) (suc k) le = out_of_cells cs k (omega arith)

pub none_yet : {E : Type 0} (cs : List Cell) (log : List (ℕ × E)) → HasCounts cs log → count_under (length cs) log ≡ 0
none_yet cs log all = sym (all.all (length cs)) ∙ out_of_cells cs (length cs) (omega arith)

pub counts_none : {E : Type 0} → HasCounts {E = E} [] []
counts_none = record { all = λ k. refl; home = λ k less. absurd (omega arith) }
