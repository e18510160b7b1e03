-- Varints: reading them by recursion, filling them from the back, and the two laws of their encoding.
use Rattle.std.proofs.Common.{◌≡◌, ℕ, zero, suc, ◌+◌, ◌-◌, ◌*◌, ◌/◌, ◌%◌, ◌^◌, ◌<◌, ◌≤◌, ◌⊎◌, inl, inr, Bool, true}
use Rattle.std.proofs.Common.{false, cond, leb, Option, Some, None, IfSome, MatchOption, Bor, nat_eq, List, [], ◌∷◌}
use Rattle.std.proofs.Common.{◌++◌, length, take, drop, get_or, refl, sym, ap, subst, ◌∙◌, arith}
use Rattle.std.proofs.Math.Nat.{pow-le-pow_right}
use Rattle.std.proofs.Math.Seq.{drop-append_seam, take-append_seam, take-length}
use Rattle.std.proofs.lemmas.Nat.{div_below, mul-le}
use Rattle.std.proofs.lemmas.Grind.{pow_more}
use Rattle.std.proofs.lemmas.List.{append_assoc, drop_more, length-append, length-take-le, take-append-drop}
use Rattle.std.specs.Cmp.Lexicographic.{nat_list_eq_equiv, pointwise, same_text}
use Rattle.std.proofs.lemmas.Bool.{false≢true}
use Rattle.std.proofs.lemmas.Bool.Decides.{nat_tests}
use Rattle.std.proofs.str.Laws.{order}
use Rattle.cs_model.specs.Varint.{EndsVarint, IsVarint, groups, short_groups, varint}
use Rattle.cs_model.specs.Packed.{read_from}

pow_suc : (k : ℕ) → 128 ^ suc k ≡ 128 ^ k * 128
pow_suc k = ap (λ i. 128 ^ i) (omega arith) ∙ pow_more 128 k

-- ---- reading

pub read_ends : (left high read b : ℕ) (bytes : List ℕ) → b < 128 → read_from (suc left) high read (b ∷ bytes)
    ≡ Some (128 * high + b, read + 1)
read_ends left high read b bytes small = grind (arith, nat_tests)

pub read_goes : (left high read b : ℕ) (bytes : List ℕ) → 128 ≤ b → read_from (suc left) high read (b ∷ bytes)
    ≡ read_from left (128 * high + (b - 128)) (read + 1) bytes
read_goes left high read b bytes large = grind (arith, nat_tests)

-- what is spelled is read
pub read_only : (left high read : ℕ) (bytes : List ℕ) (n k : ℕ) → k ≤ length bytes
    → EndsVarint left high (take k bytes) n → read_from left high read bytes ≡ Some (n, read + k)
read_only left high read bytes n zero within h = absurd h
read_only left high read [] n (suc k) within h = absurd h
read_only zero high read (b ∷ bytes) n (suc k) within h =
    let none : k ≡ 0 = omega (arith, length-take-le k bytes (omega arith), ap length h.0) in
    let same : read + 1 ≡ read + suc k = omega arith in
    let value : 256 * high + b ≡ n = sym h.1 in
    cc
read_only (suc left) high read (b ∷ bytes) n (suc k) within (inl h) =
    let none : k ≡ 0 = omega (arith, length-take-le k bytes (omega arith), ap length h.1) in
    let same : read + 1 ≡ read + suc k = omega arith in
    let value : 128 * high + b ≡ n = sym h.2 in
    let ends = read_ends left high read b bytes h.0 in
    cc
read_only (suc left) high read (b ∷ bytes) n (suc k) within (inr h) =
    let same : (read + 1) + k ≡ read + suc k = omega arith in
    let rest = read_only left (128 * high + (b - 128)) (read + 1) bytes n k (omega arith) h.1 in
    let goes = read_goes left high read b bytes h.0 in
    cc

-- what is read was spelled
abbrev VarintFound : ℕ → ℕ → ℕ → List ℕ → ℕ × ℕ → Type 0
VarintFound left high read bytes found = (k : ℕ) × (found.1 ≡ read + k) × (k ≤ length bytes)
    × EndsVarint left high (take k bytes) found.0

read_found : (left high read : ℕ) (bytes : List ℕ) (found : ℕ × ℕ) → read_from left high read bytes ≡ Some found
    → VarintFound left high read bytes found
read_found left high read [] found e = cc
read_found zero high read (b ∷ bytes) found e =
    let pair : (256 * high + b, read + 1) ≡ found = cc in
    (1, sym (ap (λ p. p.1) pair), omega arith, (refl, sym (ap (λ p. p.0) pair)))
read_found (suc left) high read (b ∷ bytes) found e =
    elim (order b 128) as (λ w. VarintFound (suc left) high read (b ∷ bytes) found) [
      | inl small ↦
          let ends = read_ends left high read b bytes small in
          let pair : (128 * high + b, read + 1) ≡ found = cc in
          (1, sym (ap (λ p. p.1) pair), omega arith, inl (small, refl, sym (ap (λ p. p.0) pair)))
      | inr large ↦
          let goes = read_goes left high read b bytes large in
          let rest = read_found left (128 * high + (b - 128)) (read + 1) bytes found (sym goes ∙ e) in
          (suc rest.0, omega (arith, rest.1), omega (arith, rest.2), inr (large, rest.3))
    ]

pub found_of : (bytes : List ℕ) (found : ℕ × ℕ) → Some found ≡ read_from 8 0 0 bytes → (found.1 ≤ length bytes)
    × IsVarint (take found.1 bytes) found.0
found_of bytes found e =
    let f = read_found 8 0 0 bytes found (sym e) in
    let same : f.0 ≡ found.1 = omega (arith, f.1) in
    (omega (arith, f.2, same), subst (λ k. IsVarint (take k bytes) found.0) same f.3)

pub only_of : (bytes : List ℕ) (out : Option (ℕ × ℕ)) → out ≡ read_from 8 0 0 bytes → (n len : ℕ) → len ≤ length bytes
    → IsVarint (take len bytes) n → out ≡ Some (n, len)
only_of bytes out e n len within h =
    let same : 0 + len ≡ len = omega arith in
    let reads = read_only 8 0 0 bytes n len within h in
    cc

-- the turns of the loop, which has the next byte at `read`
pub turn_last : (bytes : List ℕ) (value read : ℕ) → read ≡ 8 → read < length bytes
    → read_from (8 - read) value read (drop read bytes) ≡ Some (256 * value + get_or bytes read 0, 9)
turn_last bytes value read last within =
    let none : 8 - read ≡ zero = omega arith in
    let nine : read + 1 ≡ 9 = omega arith in
    rw (none, drop_more bytes read 0 within) (ap (λ k. Some (256 * value + get_or bytes read 0, k)) nine)

pub turn_ends : (bytes : List ℕ) (value read : ℕ) → read < 8 → read < length bytes → get_or bytes read 0 < 128
    → read_from (8 - read) value read (drop read bytes) ≡ Some (128 * value + get_or bytes read 0, read + 1)
turn_ends bytes value read more within small =
    let some : 8 - read ≡ suc (8 - (read + 1)) = omega arith in
    rw (some, drop_more bytes read 0 within)
    (read_ends (8 - (read + 1)) value read (get_or bytes read 0) (drop (read + 1) bytes) small)

-- no sum wraps: read bytes before the last have seven bits each
pub value_below : (value read : ℕ) → read ≤ 8 → value < 128 ^ read → value < 2 ^ 56
value_below value read few below =
    let top : 128 ^ read ≤ 128 ^ 8 = pow-le-pow_right (omega arith) few in
    omega arith

-- ---- filling from the back

-- what is still to be put before the bytes from `start` on: all groups or those that are needed
abbrev pub unfilled : Bool → ℕ → ℕ → List ℕ
unfilled whole start rest = cond whole (groups start rest) (short_groups start rest)

none_at : (whole : Bool) (start rest : ℕ) → start ≡ 0 → unfilled whole start rest ≡ []
none_at whole (suc start) rest front = absurd (omega (arith, front))
none_at true zero rest front = refl
none_at false zero rest front = refl

varint_none_short : (start rest : ℕ) → rest ≡ 0 → short_groups start rest ≡ []
varint_none_short zero rest none = refl
varint_none_short (suc start) zero none = refl
varint_none_short (suc start) (suc rest) none = absurd (omega (arith, none))

-- no turn is left
unfilled_none : (n start rest : ℕ) → (start ≡ 0) ⊎ ((n < 2 ^ 56) × (rest ≡ 0)) → unfilled (leb (2 ^ 56) n) start rest
    ≡ []
unfilled_none n start rest (inl front) = none_at (leb (2 ^ 56) n) start rest front
unfilled_none n start rest (inr done) = grind (arith, nat_tests, varint_none_short start rest done.1)

pub unfilled_end : (n start rest : ℕ) (text whole : List ℕ) → (start ≡ 0) ⊎ ((n < 2 ^ 56) × (rest ≡ 0))
    → unfilled (leb (2 ^ 56) n) start rest ++ text ≡ whole → text ≡ whole
unfilled_end n start rest text whole done filled =
    sym (ap (λ (t : List ℕ). t ++ text) (unfilled_none n start rest done)) ∙ filled

pub varint_whole : (n : ℕ) → 2 ^ 56 ≤ n → groups 8 (n / 256) ++ (n % 256) ∷ [] ≡ varint n
unfolding varint
varint_whole n large = grind (arith, nat_tests)

pub varint_short : (n : ℕ) → n < 2 ^ 56 → short_groups 8 (n / 128) ++ (n % 128) ∷ [] ≡ varint n
unfolding varint
varint_short n small = grind (arith, nat_tests)

-- before the first turn, which finds the last byte put
pub unfilled_all : (n rest last : ℕ) → ((2 ^ 56 ≤ n) × (rest ≡ n / 256) × (last ≡ n % 256))
    ⊎ ((n < 2 ^ 56) × (rest ≡ n / 128) × (last ≡ n % 128))
    → unfilled (leb (2 ^ 56) n) 8 rest ++ last ∷ [] ≡ varint n
unfilled_all n rest last (inl h) =
    let spelling = varint_whole n h.0 in
    let same : groups 8 rest ++ last ∷ [] ≡ groups 8 (n / 256) ++ (n % 256) ∷ [] = rw (h.1, h.2) in
    grind (arith, nat_tests, same ∙ spelling)
unfilled_all n rest last (inr h) =
    let spelling = varint_short n h.0 in
    let same : short_groups 8 rest ++ last ∷ [] ≡ short_groups 8 (n / 128) ++ (n % 128) ∷ [] = rw (h.1, h.2) in
    grind (arith, nat_tests, same ∙ spelling)

-- a number of seven bits is its own byte
pub varint_one : (n : ℕ) → n < 128 → n ∷ [] ≡ varint n
varint_one n small =
    let none : n / 128 ≡ 0 = omega arith in
    let same : n % 128 ≡ n = omega arith in
    let spelling = varint_short n (omega arith) in
    let byte : short_groups 8 (n / 128) ++ (n % 128) ∷ [] ≡ n ∷ [] = rw (none, same) in
    sym byte ∙ spelling

-- at least two bytes are the first one, the second one and the others
pub two_first : (bytes : List ℕ) → 2 ≤ length bytes
    → bytes ≡ get_or bytes 0 0 ∷ get_or bytes 1 0 ∷ take (length bytes - 2) (drop 2 bytes)
two_first [] enough = absurd (omega (arith, enough))
two_first (one ∷ []) enough = absurd (omega (arith, enough))
two_first (one ∷ other ∷ bytes) enough =
    let left : length (one ∷ other ∷ bytes) - 2 ≡ length bytes = omega arith in
    ap (λ w. one ∷ other ∷ w) (sym (ap (λ n. take n bytes) left ∙ take-length bytes))

-- a number of eight to fourteen bits takes two bytes
pub varint_two : (high low n : ℕ) → 128 < high → high < 256 → low < 128 → n ≡ 128 * (high - 128) + low
    → high ∷ low ∷ [] ≡ varint n
varint_two high low n above below small is =
    let first : n / 128 ≡ suc (high - 129) = omega (arith, is) in
    let none : suc (high - 129) / 128 ≡ 0 = omega arith in
    let top : 128 + suc (high - 129) % 128 ≡ high = omega arith in
    let last : n % 128 ≡ low = omega (arith, is) in
    let bytes : short_groups 8 (n / 128) ++ (n % 128) ∷ [] ≡ high ∷ low ∷ [] =
    (λ i. short_groups 8 (first i) ++ last i ∷ [])
    ∙ (λ i. (short_groups 7 (none i) ++ top i ∷ []) ++ low ∷ []) in
    sym bytes ∙ varint_short n (omega (arith, is))

-- ---- what is written spells its number

groups_spell : (count left total n : ℕ) (rest : List ℕ) (m : ℕ) → total ≡ count + left → n < 128 ^ count
    → EndsVarint left n rest m → EndsVarint total 0 (groups count n ++ rest) m
groups_spell zero left total n rest m e below h =
    let same : left ≡ total = omega arith in
    let none : n ≡ 0 = omega arith in
    subst (λ k. EndsVarint k 0 rest m) same (subst (λ k. EndsVarint left k rest m) none h)
groups_spell (suc count) left total n rest m e below h =
    let power : n < 128 ^ count * 128 = omega (arith, pow_suc count) in
    let high : 128 * (n / 128) + ((128 + n % 128) - 128) ≡ n = omega arith in
    rw append_assoc (groups_spell count (suc left) total (n / 128) ((128 + n % 128) ∷ rest) m (omega arith)
    (div_below n 128 (128 ^ count) (omega arith) power)
    (inr (omega arith, subst (λ k. EndsVarint left k rest m) (sym high) h)))

short_spell : (most count left total n : ℕ) (rest : List ℕ) (m : ℕ) → count ≤ most → total ≡ count + left → n
    < 128 ^ count → ((more : ℕ) → EndsVarint (more + left) n rest m)
    → EndsVarint total 0 (short_groups most n ++ rest) m
short_spell zero count left total n rest m few e below h =
    let empty : count ≡ 0 = omega arith in
    let one : 128 ^ count ≡ 1 = ap (λ k. 128 ^ k) empty in
    let none : n ≡ 0 = omega arith in
    subst (λ k. EndsVarint k 0 rest m) (sym e) (subst (λ k. EndsVarint (count + left) k rest m) none (h count))
short_spell (suc most) count left total zero rest m few e below h = subst (λ k. EndsVarint k 0 rest m) (sym e) (h count)
short_spell (suc most) zero left total (suc n) rest m few e below h = absurd (omega arith)
short_spell (suc most) (suc count) left total (suc n) rest m few e below h =
    let power : suc n < 128 ^ count * 128 = omega (arith, pow_suc count) in
    let high : 128 * (suc n / 128) + ((128 + suc n % 128) - 128) ≡ suc n = omega arith in
    rw append_assoc (short_spell most count (suc left) total (suc n / 128) ((128 + suc n % 128) ∷ rest) m (omega arith)
    (omega arith) (div_below (suc n) 128 (128 ^ count) (omega arith) power)
    (λ more.
    let again : suc (more + left) ≡ more + suc left = omega arith in
    subst (λ k. EndsVarint k (suc n / 128) ((128 + suc n % 128) ∷ rest) m) again
    (inr (omega arith, subst (λ k. EndsVarint (more + left) k rest m) (sym high) (h more)))))

last_spells : (n more : ℕ) → EndsVarint (more + 1) (n / 128) ((n % 128) ∷ []) n
last_spells n more =
    let one : suc more ≡ more + 1 = omega arith in
    subst (λ k. EndsVarint k (n / 128) ((n % 128) ∷ []) n) one (inl (omega arith, refl, omega arith))

pub spelled : (n : ℕ) → n < 2 ^ 64 → IsVarint (varint n) n
spelled n below = elim (order n (2 ^ 56)) as (λ w. IsVarint (varint n) n) [
  | inl small ↦ subst (λ t. IsVarint t n) (varint_short n small)
      (short_spell 8 7 1 8 (n / 128) ((n % 128) ∷ []) n (omega arith) refl (omega arith) (last_spells n))
  | inr large ↦ subst (λ t. IsVarint t n) (varint_whole n large)
      (groups_spell 8 0 8 (n / 256) ((n % 256) ∷ []) n refl (omega arith) (refl, omega arith))
]

-- ---- none is shorter

groups_length : (count n : ℕ) → length (groups count n) ≡ count
groups_length zero n = refl
groups_length (suc count) n =
    omega (arith, length-append (groups count (n / 128)) ((128 + n % 128) ∷ []), groups_length count (n / 128))

short_length : (most count n : ℕ) → n < 128 ^ count → length (short_groups most n) ≤ count
short_length zero count n below = omega arith
short_length (suc most) count zero below = omega arith
short_length (suc most) zero (suc n) below = absurd (omega arith)
short_length (suc most) (suc count) (suc n) below =
    let power : suc n < 128 ^ count * 128 = omega (arith, pow_suc count) in
    omega (
      arith,
      length-append (short_groups most (suc n / 128)) ((128 + suc n % 128) ∷ []),
      short_length most count (suc n / 128) (div_below (suc n) 128 (128 ^ count) (omega arith) power),
    )

-- fewer bytes than the most that may be have seven bits each
abbrev Bounded : ℕ → ℕ → List ℕ → ℕ → Type 0
Bounded left high bytes n = (length bytes ≡ suc left) ⊎ ((length bytes ≤ left) × (n < (high + 1) * 128 ^ length bytes))

bounded : (left high : ℕ) (bytes : List ℕ) (n : ℕ) → ((i : ℕ) → get_or bytes i 0 < 256) → EndsVarint left high bytes n
    → Bounded left high bytes n
bounded left high [] n small h = absurd h
bounded zero high (b ∷ bytes) n small h = inl (omega (arith, ap length h.0))
bounded (suc left) high (b ∷ bytes) n small (inl h) =
    let none : length bytes ≡ 0 = ap length h.1 in
    let one : 128 ^ suc (length bytes) ≡ 128 = ap (λ k. 128 ^ suc k) none in
    inr (omega arith, rw one (omega (arith, h.0, h.2)))
bounded (suc left) high (b ∷ bytes) n small (inr h) =
    elim (bounded left (128 * high + (b - 128)) bytes n (λ i. small (suc i)) h.1) as
    (λ w. Bounded (suc left) high (b ∷ bytes) n) [
      | inl full ↦ inl (omega (arith, full))
      | inr less ↦
          let byte : b < 256 = small 0 in
          let power : 128 ^ suc (length bytes) ≡ 128 ^ length bytes * 128 = pow_suc (length bytes) in
          inr (
            omega (arith, less.0),
            rw power (
                let group = mul-le (128 * high + (b - 128) + 1) (128 ^ length bytes) (128 * (high + 1))
                (128 ^ length bytes) (omega arith) (omega arith) in
                let same : 128 * (high + 1) * 128 ^ length bytes ≡ (high + 1) * (128 ^ length bytes * 128) =
                grind arith in
                omega (arith, less.1, group, same)),
          )
    ]

length_short : (n count : ℕ) → n < 2 ^ 56 → n < 128 ^ suc count → length (varint n) ≤ suc count
length_short n count small below =
    let power : n < 128 ^ count * 128 = omega (arith, pow_suc count) in
    omega (
      arith,
      ap length (varint_short n small),
      length-append (short_groups 8 (n / 128)) ((n % 128) ∷ []),
      short_length 8 count (n / 128) (div_below n 128 (128 ^ count) (omega arith) power),
    )

length_whole : (n : ℕ) → length (varint n) ≤ 9
length_whole n = elim (order n (2 ^ 56)) as (λ w. length (varint n) ≤ 9) [
  | inl small ↦ length_short n 8 small (omega arith)
  | inr large ↦ omega (
    arith,
    ap length (varint_whole n large),
    length-append (groups 8 (n / 256)) ((n % 256) ∷ []),
    groups_length 8 (n / 256),
  )
]

pub shortest : (bytes : List ℕ) (n : ℕ) → ((i : ℕ) → get_or bytes i 0 < 256) → IsVarint bytes n → length (varint n)
    ≤ length bytes
shortest [] n small h = absurd h
shortest (b ∷ bytes) n small h =
    elim (bounded 8 0 (b ∷ bytes) n small h) as (λ w. length (varint n) ≤ suc (length bytes)) [
      | inl full ↦ omega (arith, full, length_whole n)
      | inr less ↦
          let below : n < 128 ^ suc (length bytes) = omega (arith, less.1) in
          length_short n (length bytes) (value_below n (suc (length bytes)) less.0 below) below
    ]

-- ---- reading what is written

pub found_all : (bytes : List ℕ) (out : Option (ℕ × ℕ)) → out ≡ read_from 8 0 0 bytes
    → IfSome out (λ found. (found.1 ≤ length bytes) × IsVarint (take found.1 bytes) found.0)
found_all bytes None e = tt
found_all bytes (Some found) e = found_of bytes found e

-- a spelling is read, whatever stands behind it
pub read_back : (left high read : ℕ) (text : List ℕ) (n : ℕ) (rest : List ℕ) (k : ℕ) → k ≡ read + length text
    → EndsVarint left high text n → read_from left high read (text ++ rest) ≡ Some (n, k)
read_back left high read [] n rest k e h = absurd h
read_back zero high read (b ∷ text) n rest k e h =
    let one : k ≡ read + 1 = omega (arith, ap length h.0) in
    let value : 256 * high + b ≡ n = sym h.1 in
    cc
read_back (suc left) high read (b ∷ text) n rest k e (inl h) =
    let one : k ≡ read + 1 = omega (arith, ap length h.1) in
    let value : 128 * high + b ≡ n = sym h.2 in
    let ends = read_ends left high read b (text ++ rest) h.0 in
    cc
read_back (suc left) high read (b ∷ text) n rest k e (inr h) =
    read_goes left high read b (text ++ rest) h.0 ∙ read_back left (128 * high + (b - 128)) (read + 1) text n rest k
    (omega (arith, e)) h.1

-- ---- a text that begins with a spelling

pub stripped : (out : Option (Bor (List ℕ))) (bytes front : List ℕ)
    → MatchOption out (pointwise nat_eq (take (length front) bytes) front ≡ false)
    (λ x. (pointwise nat_eq (take (length front) bytes) front ≡ true) × (x.now ≡ drop (length front) bytes)
    × (length x.now + length front ≡ length bytes))
    → IfSome out (λ rest. bytes ≡ front ++ rest.now)
stripped None bytes front h = tt
stripped (Some rest) bytes front h =
    sym (take-append-drop (length front) bytes)
    ∙ (ap (λ (w : List ℕ). w ++ drop (length front) bytes) (same_text _ _ (sym h.0))
    ∙ ap (λ (w : List ℕ). front ++ w) (sym h.1))

-- ---- a text before others

pub only_strip : (out : Option (Bor (List ℕ))) (bytes front rest : List ℕ)
    → MatchOption out (pointwise nat_eq (take (length front) bytes) front ≡ false)
    (λ x. (pointwise nat_eq (take (length front) bytes) front ≡ true) × (x.now ≡ drop (length front) bytes)
    × (length x.now + length front ≡ length bytes))
    → bytes ≡ front ++ rest → MatchOption out ⊥ (λ x. x.now ≡ rest)
only_strip None bytes front rest h whole =
    let same : take (length front) bytes ≡ front =
    ap (λ (w : List ℕ). take (length front) w) whole ∙ take-append_seam front rest in
    absurd (false≢true (sym h ∙ (ap (λ (w : List ℕ). pointwise nat_eq w front) same ∙ nat_list_eq_equiv.refl front)))
only_strip (Some x) bytes front rest h whole =
    h.1 ∙ (ap (λ (w : List ℕ). drop (length front) w) whole ∙ drop-append_seam front rest)
