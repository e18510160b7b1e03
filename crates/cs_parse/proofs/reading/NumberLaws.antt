-- Numbers and counted bytes: the bytes encode what is read, and every encoding is read.
use Rattle.std.proofs.Common.{◌≡◌, ℕ, ℤ, zero, suc, ◌+◌, ◌-◌, ◌*◌, ◌^◌, ◌<◌, ◌≤◌, inl, inr, false, cond, ltb, ◌||◌}
use Rattle.std.proofs.Common.{List, [], ◌∷◌, ◌++◌, length, take, drop, get_or, Result, Ok, Err, refl, sym, ap, subst}
use Rattle.std.proofs.Common.{◌∙◌, append_assoc, arith, FitsSigned}
use Rattle.std.specs.Int.{w64, from_be_bytes, to_be_bytes, cast_signed, cast_unsigned}
use Rattle.std.proofs.lemmas.Bool.{ltb-true, ltb-false, le-ltb, ne_eqb, or_parts, cases_eq, cases_lt}
use Rattle.std.proofs.lemmas.Int.{ints, of_z-to_z, to_z-of_z}
use Rattle.std.proofs.lemmas.List.{take_at, drop_at, take-append-drop, length-append, length-take, get_or-take}
use Rattle.std.proofs.lemmas.List.{get_or_past}
use Rattle.std.proofs.lemmas.Nat.{be_bytes_8, from_be_bytes-to_be_bytes_8}
use borrow.Author.Gap.{read_sfits}
use Rattle.cs_model.specs.Varint.{EndsVarint, IsVarint}
use Rattle.cs_model.specs.Text.{SpellsBytes}
use Rattle.cs_parse.specs.declared.fault.FaultKind.{FaultKind}
use Rattle.cs_parse.specs.declared.fault.FaultKind.TheVariants.{Columns, ValueTooLong}
use Rattle.cs_parse.specs.declared.stop.ParseRefusal.{ParseRefusal}
use Rattle.cs_parse.specs.declared.stop.ParseRefusal.TheVariants.{Short, Bad}
use Rattle.cs_parse.specs.Reading.{◌>>=◌, number_within, number_at, columns_at, length_at, integer_at, counted_at}
use Rattle.cs_parse.specs.Place.{factor}
use Rattle.cs_model.specs.Bytes.{AreBytes}
use Rattle.cs_parse.proofs.reading.Steps.{Takes, bind_ok, done, ok_is, guard_ok, steps_chosen}
use Rattle.cs_parse.proofs.reading.Numbers.{goes, number_short, number_more, number_last, number_ends, number_goes}

within_ok : (least most : ℕ) (kind : FaultKind) (n : ℕ) (rest : List ℕ) (x : ℕ × List ℕ)
    → number_within least most kind n rest ≡ Ok x → ((n, rest) ≡ x) × (least ≤ n) × (n ≤ most)
within_ok least most kind n rest x e =
    let g = guard_ok (ltb n least || ltb most n) (Bad (suc (length rest)) kind) (Ok (n, rest)) x e in
    let tests = or_parts (ltb n least) (ltb most n) g.0 in
    (ok_is (n, rest) x g.1, ltb-false n least tests.0, ltb-false most n tests.1)

pub within_again : (least most : ℕ) (kind : FaultKind) (n : ℕ) (rest : List ℕ) → least ≤ n → n ≤ most
    → number_within least most kind n rest ≡ Ok (n, rest)
within_again least most kind n rest low high = rw (le-ltb n least low, le-ltb most n high) refl

-- a number within its limits, and its spelling
abbrev Counts : ℕ → ℕ → ℕ → ℕ → List ℕ → ℕ × List ℕ → Type 0
Counts least most left high bytes x = Takes (EndsVarint left high) bytes x × (least ≤ x.0) × (x.0 ≤ most)

number_last_takes : (least most left high byte n : ℕ) (rest : List ℕ) (x : ℕ × List ℕ)
    → EndsVarint left high (byte ∷ []) n → ((n, rest) ≡ x) × (least ≤ n) × (n ≤ most)
    → Counts least most left high (byte ∷ rest) x
number_last_takes least most left high byte n rest x h g =
    subst (λ (y : ℕ × List ℕ). Counts least most left high (byte ∷ rest) y) g.0
    (record { text = byte ∷ []; parts = refl; spelled = h }, g.1, g.2)

pub number_takes : (least most : ℕ) (kind : FaultKind) (left high : ℕ) (bytes : List ℕ) (x : ℕ × List ℕ)
    → number_at least most kind left high bytes ≡ Ok x → Counts least most left high bytes x
number_takes least most kind left high [] x e =
    let none : Err Short ≡ done x = sym (number_short least most kind left high) ∙ e in
    absurd cc
number_takes least most kind zero high (byte ∷ rest) x e =
    number_last_takes least most zero high byte (256 * high + byte) rest x (refl, refl)
    (within_ok least most kind (256 * high + byte) rest x (sym (number_last least most kind high byte rest) ∙ e))
number_takes least most kind (suc left) high (byte ∷ rest) x e =
    elim (steps_chosen (ltb byte 128) (number_within least most kind (128 * high + byte) rest)
    (goes least most kind left high byte rest) (Ok x) (sym (number_more least most kind left high byte rest) ∙ e))
    as (λ w. Counts least most (suc left) high (byte ∷ rest) x) [
      | inl last ↦ number_last_takes least most (suc left) high byte (128 * high + byte) rest x
          (inl (ltb-true byte 128 last.0, refl, refl)) (within_ok least most kind (128 * high + byte) rest x last.1)
      | inr more ↦
          let g = guard_ok (ltb most (factor left * (128 * high + (byte - 128)))) (Bad (suc (length rest)) kind)
          (number_at least most kind left (128 * high + (byte - 128)) rest) x more.1 in
          let t = number_takes least most kind left (128 * high + (byte - 128)) rest x g.1 in (
            record {
              text = byte ∷ t.0.text;
              parts = ap (λ w. byte ∷ w) t.0.parts;
              spelled = inr (ltb-false byte 128 more.0, t.0.spelled);
            },
            t.1,
            t.2,
          )
    ]

-- the least number that can come isn't above the one that comes
least_on : (left next high n byte : ℕ) → factor left * next ≤ n → next ≡ 128 * high + byte → 128 * high ≤ n
least_on left next high n byte h e = elim (cases_eq left 0) as (λ w. 128 * high ≤ n) [
  | inl none ↦
      let k : 256 * next ≤ n = subst (λ f. f * next ≤ n) (ap factor none) h in
      omega (arith, e)
  | inr some ↦
      let k : 128 * next ≤ n = subst (λ f. f * next ≤ n) (ap (λ b. cond b 256 128) (ne_eqb left 0 some)) h in
      omega (arith, e)
]

least_left : (left high : ℕ) (text : List ℕ) (n : ℕ) → EndsVarint left high text n → factor left * high ≤ n
least_left left high [] n h = absurd h
least_left zero high (byte ∷ rest) n h =
    let k : 256 * high ≤ n = omega (arith, h.1) in
    k
least_left (suc left) high (byte ∷ rest) n (inl h) =
    let f : factor (suc left) ≡ 128 = ap (λ b. cond b 256 128) (ne_eqb (suc left) 0 (λ e. absurd cc)) in
    let below : 128 * high ≤ n = omega (arith, h.2) in
    subst (λ k. k * high ≤ n) (sym f) below
least_left (suc left) high (byte ∷ rest) n (inr h) =
    let f : factor (suc left) ≡ 128 = ap (λ b. cond b 256 128) (ne_eqb (suc left) 0 (λ e. absurd cc)) in
    let below = least_on left (128 * high + (byte - 128)) high n (byte - 128)
    (least_left left (128 * high + (byte - 128)) rest n h.1) refl in
    subst (λ k. k * high ≤ n) (sym f) below

pub number_again : (least most : ℕ) (kind : FaultKind) (left high : ℕ) (text : List ℕ) (n : ℕ) (rest : List ℕ)
    → EndsVarint left high text n → least ≤ n → n ≤ most → number_at least most kind left high (text ++ rest)
    ≡ Ok (n, rest)
number_again least most kind left high [] n rest h low top = absurd h
number_again least most kind zero high (byte ∷ text) n rest h low top =
    let only = ap (λ w. number_at least most kind zero high (byte ∷ (w ++ rest))) h.0 in
    let value = ap (λ k. number_within least most kind k rest) (sym h.1) in
    only ∙ number_last least most kind high byte rest ∙ value ∙ within_again least most kind n rest low top
number_again least most kind (suc left) high (byte ∷ text) n rest (inl h) low top =
    let only = ap (λ w. number_at least most kind (suc left) high (byte ∷ (w ++ rest))) h.1 in
    let value = ap (λ k. number_within least most kind k rest) (sym h.2) in
    only ∙ number_ends least most kind left high byte rest h.0 ∙ value ∙ within_again least most kind n rest low top
number_again least most kind (suc left) high (byte ∷ text) n rest (inr h) low top =
    let next = 128 * high + (byte - 128) in
    let below : factor left * next ≤ most = omega (arith, least_left left next text n h.1) in
    let read_on =
    ap (λ b. cond b (Err (Bad (suc (length (text ++ rest))) kind))
    (number_at least most kind left next (text ++ rest))) (le-ltb most (factor left * next) below) in
    number_goes least most kind left high byte (text ++ rest) h.0 ∙ read_on
    ∙ number_again least most kind left next text n rest h.1 low top

pub columns_takes : (bytes : List ℕ) (x : ℕ × List ℕ) → columns_at bytes ≡ Ok x → Takes IsVarint bytes x × (1 ≤ x.0)
    × (x.0 ≤ 2000)
unfolding columns_at
columns_takes bytes x e = number_takes 1 2000 Columns 8 0 bytes x e

pub columns_again : (text : List ℕ) (n : ℕ) (rest : List ℕ) → IsVarint text n → 1 ≤ n → n ≤ 2000
    → columns_at (text ++ rest) ≡ Ok (n, rest)
unfolding columns_at
columns_again text n rest h low top = number_again 1 2000 Columns 8 0 text n rest h low top

pub length_takes : (bytes : List ℕ) (x : ℕ × List ℕ) → length_at bytes ≡ Ok x → Takes IsVarint bytes x
    × (x.0 ≤ 16777216)
unfolding length_at
length_takes bytes x e =
    let t = number_takes 0 16777216 ValueTooLong 8 0 bytes x e in
    (t.0, t.2)

pub length_again : (text : List ℕ) (n : ℕ) (rest : List ℕ) → IsVarint text n → n ≤ 16777216 → length_at (text ++ rest)
    ≡ Ok (n, rest)
unfolding length_at
length_again text n rest h top = number_again 0 16777216 ValueTooLong 8 0 text n rest h (omega arith) top

-- ---- a length, and that many bytes

abbrev number_bytes_of : ℕ × List ℕ → Result (List ℕ × List ℕ) ParseRefusal
number_bytes_of n = cond (ltb (length n.1) n.0) (Err Short) (Ok (take n.0 n.1, drop n.0 n.1))

pub counted_takes : (bytes : List ℕ) (x : List ℕ × List ℕ) → counted_at bytes ≡ Ok x → Takes SpellsBytes bytes x
    × (length x.0 ≤ 16777216)
unfolding counted_at
counted_takes bytes x e =
    let b = bind_ok (length_at bytes) number_bytes_of x e in
    let n = b.0 in
    let t = length_takes bytes n b.1 in
    let g = guard_ok (ltb (length n.1) n.0) Short (Ok (take n.0 n.1, drop n.0 n.1)) x b.2 in
    let long : n.0 ≤ length n.1 = ltb-false _ _ g.0 in
    let len : length (take n.0 n.1) ≡ n.0 = omega (arith, length-take n.0 n.1) in
    let whole : bytes ≡ (t.0.text ++ take n.0 n.1) ++ drop n.0 n.1 =
    t.0.parts ∙ ap (λ w. t.0.text ++ w) (sym (take-append-drop n.0 n.1))
    ∙ sym (append_assoc t.0.text (take n.0 n.1) (drop n.0 n.1)) in
    let spelled : SpellsBytes (t.0.text ++ take n.0 n.1) (take n.0 n.1) =
    record { count = t.0.text; parts = refl; is_count = subst (λ k. IsVarint t.0.text k) (sym len) t.0.spelled } in
    subst (λ (y : List ℕ × List ℕ). Takes SpellsBytes bytes y × (length y.0 ≤ 16777216))
    (ok_is (take n.0 n.1, drop n.0 n.1) x g.1)
    (record { text = t.0.text ++ take n.0 n.1; parts = whole; spelled = spelled }, omega (arith, len, t.1))

pub counted_again : (text bytes rest : List ℕ) → SpellsBytes text bytes → length bytes ≤ 16777216
    → counted_at (text ++ rest) ≡ Ok (bytes, rest)
unfolding counted_at
counted_again text bytes rest h top =
    let regrouped : text ++ rest ≡ h.count ++ (bytes ++ rest) = ap (λ w. w ++ rest) h.parts
    ∙ append_assoc h.count bytes rest in
    let long : ltb (length (bytes ++ rest)) (length bytes) ≡ false =
    le-ltb _ _ (omega (arith, length-append bytes rest)) in
    let counted = ap (λ r. r >>= number_bytes_of)
    (ap length_at regrouped ∙ length_again h.count (length bytes) (bytes ++ rest) h.is_count top) in
    counted ∙ rw (long, take_at bytes rest (length bytes) refl, drop_at bytes rest (length bytes) refl) refl

-- ---- an INTEGER

abbrev pub SpellsInteger : List ℕ → ℤ → Type 0
SpellsInteger text number = text ≡ to_be_bytes w64 (cast_unsigned w64 number)

pub number_front_fits : (n : ℕ) (bytes : List ℕ) → n ≤ length bytes → AreBytes bytes → AreBytes (take n bytes)
number_front_fits n bytes within fits i =
    elim (cases_lt i n) as (λ w. get_or (take n bytes) i 0 < 256) [
      | inl lt ↦ rw (get_or-take n bytes i 0 lt) (fits i)
      | inr le ↦ rw (get_or_past (take n bytes) i 0 (omega (arith, length-take n bytes))) (omega arith)
    ]

number_below_limit : (bytes : List ℕ) → AreBytes bytes → from_be_bytes w64 bytes < 2 ^ 64
number_below_limit bytes fits = omega (arith, fits 0, fits 1, fits 2, fits 3, fits 4, fits 5, fits 6, fits 7)

pub integer_takes : (bytes : List ℕ) (x : ℤ × List ℕ) → AreBytes bytes → integer_at bytes ≡ Ok x
    → Takes SpellsInteger bytes x × FitsSigned w64 x.0
unfolding integer_at
integer_takes bytes x fits e =
    let front = take 8 bytes in
    let n = from_be_bytes w64 front in
    let g = guard_ok (ltb (length bytes) 8) Short (Ok (cast_signed w64 n, drop 8 bytes)) x e in
    let long : 8 ≤ length bytes = ltb-false _ _ g.0 in
    let eight : AreBytes front = number_front_fits 8 bytes long fits in
    let back : to_be_bytes w64 n ≡ front = be_bytes_8 front n (omega (arith, length-take 8 bytes)) eight refl in
    let same : cast_unsigned w64 (cast_signed w64 n) ≡ n = of_z-to_z w64 n (number_below_limit front eight) in
    let spelled : SpellsInteger front (cast_signed w64 n) = sym (ap (λ k. to_be_bytes w64 k) same ∙ back) in
    subst (λ (y : ℤ × List ℕ). Takes SpellsInteger bytes y × FitsSigned w64 y.0)
    (ok_is (cast_signed w64 n, drop 8 bytes) x g.1)
    (record { text = front; parts = sym (take-append-drop 8 bytes); spelled = spelled }, read_sfits w64 n)

number_unsigned_below : (n : ℤ) → FitsSigned w64 n → cast_unsigned w64 n < 2 ^ 64
number_unsigned_below n fits = omega (arith, ints)

number_integer_by : (text rest : List ℕ) (n : ℤ) → length text ≡ 8 → cast_signed w64 (from_be_bytes w64 text) ≡ n
    → integer_at (text ++ rest) ≡ Ok (n, rest)
unfolding integer_at
number_integer_by text rest n len value =
    let long : ltb (length (text ++ rest)) 8 ≡ false = le-ltb _ _ (omega (arith, length-append text rest)) in
    rw (long, take_at text rest 8 len, drop_at text rest 8 len, value) refl

pub integer_again : (n : ℤ) (rest : List ℕ) → FitsSigned w64 n
    → integer_at (to_be_bytes w64 (cast_unsigned w64 n) ++ rest) ≡ Ok (n, rest)
integer_again n rest fits =
    number_integer_by (to_be_bytes w64 (cast_unsigned w64 n)) rest n refl
    (ap (λ k. cast_signed w64 k) (from_be_bytes-to_be_bytes_8 (cast_unsigned w64 n) (number_unsigned_below n fits))
    ∙ to_z-of_z w64 n fits)
