-- A name by the index of its zero byte, and the two laws of a name.
use Rattle.std.proofs.Common.{◌≡◌, ◌==◌, ℕ, zero, suc, ◌+◌, ◌-◌, ◌<◌, ◌≤◌, min, Bool, true, false, not, cond, eqb, ltb}
use Rattle.std.proofs.Common.{Some, None, List, [], ◌∷◌, ◌++◌, length, take, drop, position, inl, inr, Result, Ok, Err}
use Rattle.std.proofs.Common.{refl, sym, ap, subst, ◌∙◌, arith}
use Rattle.std.specs.Prelude.{nat_lt}
use Rattle.std.specs.List.{position_or_len, list_all}
use Rattle.std.proofs.lemmas.Bool.{lt-ltb, le-ltb, ne_eqb, eqb-false, and_from, and_parts, cases_lt}
use Rattle.std.proofs.lemmas.Bool.Decides.{nat_tests}
use Rattle.std.proofs.lemmas.List.{take_all, take_rest}
use Rattle.cs_parse.specs.declared.fault.FaultKind.TheVariants.{NameTooLong, EmptyName}
use Rattle.cs_parse.specs.declared.stop.ParseRefusal.{ParseRefusal}
use Rattle.cs_parse.specs.declared.stop.ParseRefusal.TheVariants.{Short, Bad}
use Rattle.cs_parse.specs.Reading.{◌>>=◌, refuse, letters_at, name_at}
use Rattle.cs_parse.proofs.reading.Steps.{bind_ok, done, ok_is, guard_ok}

abbrev pub is_zero : ℕ → Bool
is_zero byte = byte == 0

-- ---- what `position` says

letters_found_at : (n len k : ℕ) → cond (ltb n len) (Some n) None ≡ Some k → (n ≡ k) × (n < len)
letters_found_at n len k e = elim (cases_lt n len) as (λ w. (n ≡ k) × (n < len)) [
  | inl lt ↦
      let at_n : Some n ≡ Some k = sym (ap (λ b. cond b (Some n) None) (lt-ltb n len lt)) ∙ e in
      (cc, lt)
  | inr le ↦
      let none : None ≡ Some k = sym (ap (λ b. cond b (Some n) None) (le-ltb n len le)) ∙ e in
      absurd cc
]

pub found_none : (n len : ℕ) → cond (ltb n len) (Some n) None ≡ None → len ≤ n
found_none n len e = elim (cases_lt n len) as (λ w. len ≤ n) [
  | inl lt ↦
      let at_n : Some n ≡ None = sym (ap (λ b. cond b (Some n) None) (lt-ltb n len lt)) ∙ e in
      absurd cc
  | inr le ↦ le
]

-- the window that is looked at
window_is : (bytes : List ℕ) (k most : ℕ) → k ≡ min (length bytes) most → take k bytes ≡ take most bytes
window_is bytes k most e = elim (cases_lt (length bytes) most) as (λ w. take k bytes ≡ take most bytes) [
  | inl lt ↦ take_all k bytes (omega (arith, e)) ∙ sym (take_all most bytes (omega arith))
  | inr le ↦
      let same : k ≡ most = omega (arith, e) in
      ap (λ n. take n bytes) same
]

abbrev pub letter_and : ℕ → List ℕ × List ℕ → Result (List ℕ × List ℕ) ParseRefusal
letter_and byte letters = Ok (byte ∷ letters.0, letters.1)

abbrev letters_named : List ℕ → List ℕ → Result (List ℕ × List ℕ) ParseRefusal
letters_named name rest = Ok (name, rest)

pub nonzero : (b : ℕ) → (suc b == 0) ≡ false
nonzero b = ne_eqb (suc b) 0 (λ e. absurd cc)

-- ---- what reading gives, case by case

pub letters_end : (most : ℕ) (rest : List ℕ) → letters_at most (zero ∷ rest) ≡ letters_named [] rest
unfolding letters_at
letters_end zero rest = refl
letters_end (suc most) rest = refl

pub letters_full : (b : ℕ) (rest : List ℕ) → letters_at zero (suc b ∷ rest) ≡ Err (Bad (suc (length rest)) NameTooLong)
unfolding letters_at
letters_full b rest = ap (λ t. cond t (letters_named [] rest) (Err (Bad (suc (length rest)) NameTooLong))) (nonzero b)

pub letters_more : (most b : ℕ) (rest : List ℕ) → letters_at (suc most) (suc b ∷ rest)
    ≡ (letters_at most rest >>= letter_and (suc b))
unfolding letters_at
letters_more most b rest = ap (λ t. cond t (letters_named [] rest) (letters_at most rest >>= letter_and (suc b)))
    (nonzero b)

pub letters_short : (most : ℕ) → letters_at most [] ≡ Err Short
unfolding letters_at
letters_short zero = refl
letters_short (suc most) = refl

pub place_more : (b : ℕ) (rest : List ℕ) → position_or_len is_zero (suc b ∷ rest) ≡ suc (position_or_len is_zero rest)
place_more b rest =
    let one : 1 + position_or_len is_zero rest ≡ suc (position_or_len is_zero rest) = omega arith in
    ap (λ t. cond (not t) (1 + position_or_len is_zero rest) 0) (nonzero b) ∙ one

letters_found : (most : ℕ) (bytes : List ℕ) (k : ℕ) → position_or_len is_zero (take (suc most) bytes) ≡ k → k
    < length (take (suc most) bytes) → letters_at most bytes ≡ letters_named (take k bytes) (drop (suc k) bytes)
letters_found most [] k e lt = absurd (omega (arith, lt))
letters_found most (zero ∷ rest) k e lt = letters_end most rest
    ∙ ap (λ n. letters_named (take n (0 ∷ rest)) (drop (suc n) (0 ∷ rest))) e
letters_found zero (suc b ∷ rest) k e lt = absurd (omega (arith, e, lt, place_more b []))
letters_found (suc most) (suc b ∷ rest) k e lt =
    let n = position_or_len is_zero (take (suc most) rest) in
    let here : suc n ≡ k = sym (place_more b (take (suc most) rest)) ∙ e in
    let rec = letters_found most rest n refl (omega (arith, here, lt)) in
    letters_more most b rest ∙ ap (λ r. r >>= letter_and (suc b)) rec
    ∙ ap (λ i. letters_named (take i (suc b ∷ rest)) (drop (suc i) (suc b ∷ rest))) here

abbrev letters_too_many : ℕ → List ℕ → Result (List ℕ × List ℕ) ParseRefusal
letters_too_many most bytes = cond (ltb most (length bytes)) (Err (Bad (length bytes - most) NameTooLong)) (Err Short)

letters_stays : (a b : Bool) (x y : ParseRefusal) (byte : ℕ) → a ≡ b → (cond a (Err x) (Err y) >>= letter_and byte)
    ≡ cond b (Err x) (Err y)
letters_stays a true x y byte e = ap (λ t. cond t (Err x) (Err y) >>= letter_and byte) e
letters_stays a false x y byte e = ap (λ t. cond t (Err x) (Err y) >>= letter_and byte) e

letters_none : (most : ℕ) (bytes : List ℕ) → length (take (suc most) bytes)
    ≤ position_or_len is_zero (take (suc most) bytes) → letters_at most bytes ≡ letters_too_many most bytes
letters_none most [] le = letters_short most ∙ ap (λ t. cond t (Err (Bad (0 - most) NameTooLong)) (Err Short))
    (sym (le-ltb most 0 (omega arith)))
letters_none most (zero ∷ rest) le = absurd (omega (arith, le))
letters_none zero (suc b ∷ rest) le =
    let all : suc (length rest) ≡ suc (length rest) - 0 = omega arith in
    letters_full b rest ∙ ap (λ n. Err (Bad n NameTooLong)) all
    ∙ ap (λ t. cond t (Err (Bad (suc (length rest) - 0) NameTooLong)) (Err Short))
    (sym (lt-ltb 0 (suc (length rest)) (omega arith)))
letters_none (suc most) (suc b ∷ rest) le =
    let rec = letters_none most rest (omega (arith, le, place_more b (take (suc most) rest))) in
    let left : length rest - most ≡ suc (length rest) - suc most = omega arith in
    letters_more most b rest ∙ ap (λ r. r >>= letter_and (suc b)) rec
    ∙ letters_stays (ltb most (length rest)) (ltb (suc most) (suc (length rest)))
    (Bad (length rest - most) NameTooLong) Short (suc b) (grind (arith, nat_tests))
    ∙ ap (λ n. cond (ltb (suc most) (suc (length rest))) (Err (Bad n NameTooLong)) (Err Short)) left

-- ---- the two laws

abbrev pub no_zero : List ℕ → Bool
no_zero name = list_all (λ byte. nat_lt 0 byte) name

-- a front without a zero byte, which stands behind it
abbrev pub IsNamed : ℕ → List ℕ → List ℕ × List ℕ → Type 0
IsNamed most bytes x = (bytes ≡ x.0 ++ 0 ∷ x.1) × (length x.0 ≤ most) × (no_zero x.0 ≡ true)

pub letters_take : (most : ℕ) (bytes : List ℕ) (x : List ℕ × List ℕ) → letters_at most bytes ≡ Ok x
    → IsNamed most bytes x
letters_take most [] x e =
    let none : Err Short ≡ done x = sym (letters_short most) ∙ e in
    absurd cc
letters_take most (zero ∷ rest) x e =
    subst (λ (y : List ℕ × List ℕ). IsNamed most (0 ∷ rest) y) (ok_is ([], rest) x (sym (letters_end most rest) ∙ e))
    (refl, omega arith, refl)
letters_take zero (suc b ∷ rest) x e =
    let none : Err (Bad (suc (length rest)) NameTooLong) ≡ done x = sym (letters_full b rest) ∙ e in
    absurd cc
letters_take (suc most) (suc b ∷ rest) x e =
    let a = bind_ok (letters_at most rest) (letter_and (suc b)) x (sym (letters_more most b rest) ∙ e) in
    let t = letters_take most rest a.0 a.1 in
    let first : nat_lt 0 (suc b) ≡ true = lt-ltb 0 (suc b) (omega arith) in
    subst (λ (y : List ℕ × List ℕ). IsNamed (suc most) (suc b ∷ rest) y) (ok_is (suc b ∷ a.0.0, a.0.1) x a.2)
    (ap (λ w. suc b ∷ w) t.0, omega (arith, t.1), and_from (nat_lt 0 (suc b)) (no_zero a.0.0) first t.2)

pub letters_again : (most : ℕ) (name rest : List ℕ) → length name ≤ most → no_zero name ≡ true
    → letters_at most (name ++ 0 ∷ rest) ≡ Ok (name, rest)
letters_again most [] rest short whole = letters_end most rest
letters_again most (zero ∷ name) rest short whole = absurd cc
letters_again zero (suc b ∷ name) rest short whole = absurd (omega (arith, short))
letters_again (suc most) (suc b ∷ name) rest short whole =
    let rec = letters_again most name rest (omega (arith, short))
    (and_parts (nat_lt 0 (suc b)) (no_zero name) whole).1 in
    letters_more most b (name ++ 0 ∷ rest) ∙ ap (λ r. r >>= letter_and (suc b)) rec

pub name_takes : (bytes : List ℕ) (x : List ℕ × List ℕ) → name_at bytes ≡ Ok x → IsNamed 1024 bytes x × (0 < length x.0)
unfolding name_at
name_takes bytes x e =
    let a = bind_ok (letters_at 1024 bytes) (λ name. cond (eqb (length name.0) 0) (refuse EmptyName name.1) (Ok name)) x
    e in
    let g = guard_ok (eqb (length a.0.0) 0) (Bad (suc (length a.0.1)) EmptyName) (Ok a.0) x a.2 in
    let some = eqb-false (length a.0.0) 0 g.0 in
    subst (λ (y : List ℕ × List ℕ). IsNamed 1024 bytes y × (0 < length y.0)) (ok_is a.0 x g.1)
    (letters_take 1024 bytes a.0 a.1, omega (arith, some))

pub name_again : (name rest : List ℕ) → 0 < length name → length name ≤ 1024 → no_zero name ≡ true
    → name_at (name ++ 0 ∷ rest) ≡ Ok (name, rest)
unfolding name_at
name_again name rest some short whole =
    let tests : (length name == 0) ≡ false = ne_eqb (length name) 0 (λ e. absurd (omega (arith, e, some))) in
    ap (λ r. r >>= λ n. cond (eqb (length n.0) 0) (refuse EmptyName n.1) (Ok n))
    (letters_again 1024 name rest short whole)
    ∙ ap (λ b. cond b (refuse EmptyName rest) (done (name, rest))) tests

-- ---- for the code, whose window is as long as the lesser of two

pub found_is : (bytes : List ℕ) (k end : ℕ) → k ≡ min (length bytes) 1025 → Some end ≡ position is_zero (take k bytes)
    → letters_at 1024 bytes ≡ letters_named (take end bytes) (take (length bytes - (end + 1)) (drop (end + 1) bytes))
found_is bytes k end e h =
    let w = window_is bytes k 1025 e in
    let f = letters_found_at (position_or_len is_zero (take 1025 bytes)) (length (take 1025 bytes)) end
    (sym (h ∙ ap (λ xs. position is_zero xs) w)) in
    let behind : suc end ≡ end + 1 = omega arith in
    letters_found 1024 bytes end f.0 (omega (arith, f.0, f.1))
    ∙ ap (λ i. letters_named (take end bytes) (drop i bytes)) behind
    ∙ ap (λ r. letters_named (take end bytes) r) (sym (take_rest bytes (end + 1)))

none_is : (bytes : List ℕ) (k : ℕ) → k ≡ min (length bytes) 1025 → None ≡ position is_zero (take k bytes)
    → letters_at 1024 bytes ≡ letters_too_many 1024 bytes
none_is bytes k e h =
    let w = window_is bytes k 1025 e in
    letters_none 1024 bytes (found_none (position_or_len is_zero (take 1025 bytes)) (length (take 1025 bytes))
    (sym (h ∙ ap (λ xs. position is_zero xs) w)))

pub long_is : (bytes : List ℕ) (k : ℕ) → k ≡ min (length bytes) 1025 → None ≡ position is_zero (take k bytes) → 1024
    < length bytes → letters_at 1024 bytes ≡ Err (Bad (length bytes - 1024) NameTooLong)
long_is bytes k e h long = none_is bytes k e h
    ∙ ap (λ b. cond b (Err (Bad (length bytes - 1024) NameTooLong)) (Err Short)) (lt-ltb 1024 (length bytes) long)

pub short_is : (bytes : List ℕ) (k : ℕ) → k ≡ min (length bytes) 1025 → None ≡ position is_zero (take k bytes)
    → length bytes ≤ 1024 → letters_at 1024 bytes ≡ Err Short
short_is bytes k e h short = none_is bytes k e h
    ∙ ap (λ b. cond b (Err (Bad (length bytes - 1024) NameTooLong)) (Err Short)) (le-ltb 1024 (length bytes) short)
