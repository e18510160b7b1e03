-- A varint within limits: the turns of its loop, and the two laws.
use Rattle.std.proofs.Common.{◌≡◌, ℕ, zero, suc, ◌+◌, ◌-◌, ◌*◌, ◌<◌, ◌≤◌, ◌⊎◌, inl, inr, cond, ltb, List, [], ◌∷◌}
use Rattle.std.proofs.Common.{length, Result, Err, refl, sym, ap, subst, ◌∙◌, arith}
use Rattle.std.proofs.lemmas.Bool.{lt-ltb, le-ltb, ne_eqb, cases_eq}
use Rattle.cs_parse.specs.declared.fault.FaultKind.{FaultKind}
use Rattle.cs_parse.specs.declared.stop.ParseRefusal.{ParseRefusal}
use Rattle.cs_parse.specs.declared.stop.ParseRefusal.TheVariants.{Short, Bad}
use Rattle.cs_parse.specs.Reading.{number_within, number_at}
use Rattle.cs_parse.specs.Place.{factor}

-- ---- what reading gives, case by case

pub number_short : (least most : ℕ) (kind : FaultKind) (left high : ℕ) → number_at least most kind left high []
    ≡ Err Short
unfolding number_at
number_short least most kind zero high = refl
number_short least most kind (suc left) high = refl

abbrev pub goes : ℕ → ℕ → FaultKind → ℕ → ℕ → ℕ → List ℕ → Result (ℕ × List ℕ) ParseRefusal
goes least most kind left high byte rest =
    cond (ltb most (factor left * (128 * high + (byte - 128)))) (Err (Bad (suc (length rest)) kind))
    (number_at least most kind left (128 * high + (byte - 128)) rest)

pub number_more : (least most : ℕ) (kind : FaultKind) (left high byte : ℕ) (rest : List ℕ)
    → number_at least most kind (suc left) high (byte ∷ rest)
    ≡ cond (ltb byte 128) (number_within least most kind (128 * high + byte) rest)
    (goes least most kind left high byte rest)
unfolding number_at
number_more least most kind left high byte rest = refl

pub number_last : (least most : ℕ) (kind : FaultKind) (high byte : ℕ) (rest : List ℕ)
    → number_at least most kind zero high (byte ∷ rest) ≡ number_within least most kind (256 * high + byte) rest
unfolding number_at
number_last least most kind high byte rest = refl

pub number_ends : (least most : ℕ) (kind : FaultKind) (left high byte : ℕ) (rest : List ℕ) → byte < 128
    → number_at least most kind (suc left) high (byte ∷ rest) ≡ number_within least most kind (128 * high + byte) rest
number_ends least most kind left high byte rest small = number_more least most kind left high byte rest
    ∙ ap (λ b. cond b (number_within least most kind (128 * high + byte) rest)
    (goes least most kind left high byte rest)) (lt-ltb byte 128 small)

pub number_goes : (least most : ℕ) (kind : FaultKind) (left high byte : ℕ) (rest : List ℕ) → 128 ≤ byte
    → number_at least most kind (suc left) high (byte ∷ rest) ≡ goes least most kind left high byte rest
number_goes least most kind left high byte rest large = number_more least most kind left high byte rest
    ∙ ap (λ b. cond b (number_within least most kind (128 * high + byte) rest)
    (goes least most kind left high byte rest)) (le-ltb byte 128 large)

-- ---- the turns of the loop, which has read so many bytes

pub turn_short : (least most : ℕ) (kind : FaultKind) (left high : ℕ) (bytes : List ℕ)
    (total : Result (ℕ × List ℕ) ParseRefusal) → length bytes ≡ 0 → number_at least most kind left high bytes ≡ total
    → total ≡ Err Short
turn_short least most kind left high [] total none so_far = sym so_far ∙ number_short least most kind left high
turn_short least most kind left high (byte ∷ rest) total none so_far = absurd (omega (arith, none))

turn : (least most : ℕ) (kind : FaultKind) (read high : ℕ) (bytes : List ℕ) (byte : ℕ) (rest : List ℕ)
    (total : Result (ℕ × List ℕ) ParseRefusal) → read < 8 → bytes ≡ byte ∷ rest
    → number_at least most kind (8 - read) high bytes ≡ total
    → number_at least most kind (suc (7 - read)) high (byte ∷ rest) ≡ total
turn least most kind read high bytes byte rest total lt e so_far =
    let k : 8 - read ≡ suc (7 - read) = omega arith in
    ap (λ w. number_at least most kind (suc (7 - read)) high w) (sym e)
    ∙ ap (λ n. number_at least most kind n high bytes) (sym k) ∙ so_far

pub numbers_turn_ends : (least most : ℕ) (kind : FaultKind) (read high : ℕ) (bytes : List ℕ) (byte n : ℕ)
    (rest : List ℕ) (total : Result (ℕ × List ℕ) ParseRefusal) → read < 8 → bytes ≡ byte ∷ rest → byte < 128 → n ≡ byte
    → number_at least most kind (8 - read) high bytes ≡ total → number_within least most kind (128 * high + n) rest
    ≡ total
numbers_turn_ends least most kind read high bytes byte n rest total lt e small same so_far =
    ap (λ k. number_within least most kind (128 * high + k) rest) same
    ∙ sym (number_ends least most kind (7 - read) high byte rest small)
    ∙ turn least most kind read high bytes byte rest total lt e so_far

-- how far the next byte moves what was read
pub shift_is : (read shift : ℕ) → read < 8 → ((read ≡ 7) × (shift ≡ 256)) ⊎ ((read ≡ 7 → ⊥) × (shift ≡ 128)) → shift
    ≡ factor (7 - read)
shift_is read shift lt (inl h) =
    let none : 7 - read ≡ 0 = omega (arith, h.0) in
    h.1 ∙ sym (ap factor none)
shift_is read shift lt (inr h) =
    let later : 7 - read ≡ 0 → ⊥ = λ e. absurd (omega (arith, e, h.0)) in
    h.1 ∙ sym (ap (λ b. cond b 256 128) (ne_eqb (7 - read) 0 later))

pub turn_bad : (least most : ℕ) (kind : FaultKind) (read high : ℕ) (bytes : List ℕ) (byte n shift : ℕ) (rest : List ℕ)
    (total : Result (ℕ × List ℕ) ParseRefusal) → read < 8 → bytes ≡ byte ∷ rest → 128 ≤ byte → n ≡ byte - 128 → shift
    ≡ factor (7 - read)
    → most < shift * (128 * high + n) → number_at least most kind (8 - read) high bytes ≡ total → total
    ≡ Err (Bad (length bytes) kind)
turn_bad least most kind read high bytes byte n shift rest total lt e large same moved over so_far =
    let above : most < factor (7 - read) * (128 * high + (byte - 128)) =
    subst (λ s. most < s * (128 * high + (byte - 128))) moved
    (subst (λ k. most < shift * (128 * high + k)) same over) in
    let refused =
    ap (λ b. cond b (Err (Bad (suc (length rest)) kind))
    (number_at least most kind (7 - read) (128 * high + (byte - 128)) rest)) (lt-ltb _ _ above) in
    sym (turn least most kind read high bytes byte rest total lt e so_far)
    ∙ number_goes least most kind (7 - read) high byte rest large ∙ refused
    ∙ ap (λ k. Err (Bad k kind)) (sym (ap length e))

pub turn_goes : (least most : ℕ) (kind : FaultKind) (read high : ℕ) (bytes : List ℕ) (byte n shift : ℕ) (rest : List ℕ)
    (total : Result (ℕ × List ℕ) ParseRefusal) → read < 8 → bytes ≡ byte ∷ rest → 128 ≤ byte → n ≡ byte - 128 → shift
    ≡ factor (7 - read)
    → shift * (128 * high + n) ≤ most → number_at least most kind (8 - read) high bytes ≡ total
    → number_at least most kind (8 - (read + 1)) (128 * high + n) rest ≡ total
turn_goes least most kind read high bytes byte n shift rest total lt e large same moved under so_far =
    let below : factor (7 - read) * (128 * high + (byte - 128)) ≤ most =
    subst (λ s. s * (128 * high + (byte - 128)) ≤ most) moved
    (subst (λ k. shift * (128 * high + k) ≤ most) same under) in
    let read_on =
    ap (λ b. cond b (Err (Bad (suc (length rest)) kind))
    (number_at least most kind (7 - read) (128 * high + (byte - 128)) rest)) (le-ltb _ _ below) in
    let k : 8 - (read + 1) ≡ 7 - read = omega arith in
    ap (λ i. number_at least most kind i (128 * high + n) rest) k
    ∙ ap (λ i. number_at least most kind (7 - read) (128 * high + i) rest) same
    ∙ sym (number_goes least most kind (7 - read) high byte rest large ∙ read_on)
    ∙ turn least most kind read high bytes byte rest total lt e so_far

pub numbers_turn_last : (least most : ℕ) (kind : FaultKind) (read high : ℕ) (bytes : List ℕ) (byte n : ℕ)
    (rest : List ℕ) (total : Result (ℕ × List ℕ) ParseRefusal) → 8 ≤ read → bytes ≡ byte ∷ rest → n ≡ byte
    → number_at least most kind (8 - read) high bytes ≡ total → number_within least most kind (256 * high + n) rest
    ≡ total
numbers_turn_last least most kind read high bytes byte n rest total le e same so_far =
    let none : 8 - read ≡ zero = omega arith in
    ap (λ k. number_within least most kind (256 * high + k) rest) same
    ∙ sym (number_last least most kind high byte rest) ∙ ap (λ w. number_at least most kind zero high w) (sym e)
    ∙ ap (λ k. number_at least most kind k high bytes) (sym none) ∙ so_far

-- a number that the next byte moves within the limit leaves room for seven bits
pub low_on : (shift high most left : ℕ) → shift ≡ factor left → shift * high ≤ most → 128 * high ≤ most
low_on shift high most left moved under = elim (cases_eq left 0) as (λ w. 128 * high ≤ most) [
  | inl none ↦
      let s : shift ≡ 256 = moved ∙ ap factor none in
      let h : 256 * high ≤ most = subst (λ k. k * high ≤ most) s under in
      omega arith
  | inr some ↦
      let s : shift ≡ 128 = moved ∙ ap (λ b. cond b 256 128) (ne_eqb left 0 some) in
      subst (λ k. k * high ≤ most) s under
]
