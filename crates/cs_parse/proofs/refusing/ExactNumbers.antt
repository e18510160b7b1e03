-- The faults of numbers, lengths and the values after them are exact.
use Rattle.std.proofs.Common.{◌≡◌, ℕ, zero, suc, ◌+◌, ◌-◌, ◌*◌, ◌<◌, ◌≤◌, inl, inr, true, false, cond, ltb, List, []}
use Rattle.std.proofs.Common.{◌∷◌, ◌++◌, length, Some, None, Ok, Err, refl, sym, ap, subst, ◌∙◌, arith}
use Rattle.std.proofs.lemmas.Bool.{lt-ltb, le-ltb, ltb-true, ltb-false, ne_eqb, and_from}
use Rattle.cs_model.specs.Varint.{EndsVarint}
use Rattle.cs_parse.specs.declared.fault.FaultKind.{FaultKind}
use Rattle.cs_parse.specs.declared.fault.FaultKind.TheVariants.{Columns, ValueTooLong}
use Rattle.cs_parse.specs.Place.{BytePlace, InColumns, InLength, factor, outside, leaves_none, wrong}
use Rattle.cs_parse.specs.Stands.{Unfinished}
use Rattle.cs_parse.proofs.reading.Steps.{steps_are_bytes}
use Rattle.cs_parse.specs.declared.stop.ParseRefusal.TheVariants.{Short, Bad}
use Rattle.cs_parse.specs.Reading.{number_within, number_at, columns_at, length_at}
use Rattle.cs_parse.proofs.reading.Steps.{steps_chosen}
use Rattle.cs_parse.proofs.reading.Numbers.{goes, number_short, number_more, number_last, number_ends, number_goes}
use Rattle.cs_parse.proofs.reading.NumberLaws.{number_takes, number_again}
use Rattle.cs_parse.proofs.refusing.Exact.{Completes, ExactStopped, stopped_here, stopped_behind, ExactReader}

-- ---- tests

refused_is : (b : _) (kind k : FaultKind) → cond b (Some kind) None ≡ Some k → (b ≡ true) × (kind ≡ k)
refused_is true kind k e =
    let same : kind ≡ k = cc in
    (refl, same)
refused_is false kind k e = absurd cc

pub one_byte : (byte : ℕ) → byte < 256 → steps_are_bytes (byte ∷ [])
one_byte byte small = and_from (ltb byte 256) true (lt-ltb byte 256 small) refl

factor_more : (left : ℕ) → factor (suc left) ≡ 128
factor_more left = ap (λ b. cond b 256 128) (ne_eqb (suc left) 0 (λ e. absurd cc))

within_err : (least most : ℕ) (kind k : FaultKind) (n l : ℕ) (rest : List ℕ) → number_within least most kind n rest
    ≡ Err (Bad l k) → (outside least most n ≡ true) × (l ≡ suc (length rest)) × (kind ≡ k)
within_err least most kind k n l rest e =
    elim (steps_chosen (outside least most n) (Err (Bad (suc (length rest)) kind)) (Ok (n, rest)) (Err (Bad l k)) e) as
    (λ w. (outside least most n ≡ true) × (l ≡ suc (length rest)) × (kind ≡ k)) [
      | inl h ↦
          let len : l ≡ suc (length rest) = cc h.1 in
          let same : kind ≡ k = cc h.1 in
          (h.0, len, same)
      | inr h ↦ absurd (cc h.1)
    ]

within_refused : (least most : ℕ) (kind : FaultKind) (n : ℕ) (rest : List ℕ) → outside least most n ≡ true
    → number_within least most kind n rest ≡ Err (Bad (suc (length rest)) kind)
within_refused least most kind n rest out = ap (λ b. cond b (Err (Bad (suc (length rest)) kind)) (Ok (n, rest))) out

within_whole : (least most : ℕ) (kind : FaultKind) (n : ℕ) (rest : List ℕ) → number_within least most kind n rest
    ≡ Err Short → ⊥
within_whole least most kind n rest e =
    elim (steps_chosen (outside least most n) (Err (Bad (suc (length rest)) kind)) (Ok (n, rest)) (Err Short) e) as
    (λ w. ⊥) [
      | inl h ↦ absurd (cc h.1)
      | inr h ↦ absurd (cc h.1)
    ]

-- ---- a number within limits

abbrev pub NumberText : ℕ → ℕ → ℕ → ℕ → List ℕ → ℕ → Type 0
NumberText least most left high text n = EndsVarint left high text n × (least ≤ n) × (n ≤ most)

abbrev pub Digits : ℕ → (ℕ → ℕ → BytePlace) → ℕ → ℕ → List ℕ → BytePlace → Type 0
Digits most P left high front place = (l : ℕ) × (h : ℕ) × Unfinished most left high front l h × (place ≡ P l h)

number_begins : (least most left high : ℕ) → least ≤ 1 → 1 ≤ most → factor left * high ≤ most
    → Completes (NumberText least most left high) []
number_begins least most zero zero low top room =
    record {
      more = least ∷ [];
      bytes = one_byte least (omega arith);
      value = 256 * 0
          + least;
      whole = ((refl, refl), omega arith, omega arith);
    }
number_begins least most zero (suc high) low top room =
    let k : 256 * suc high ≤ most = room in
    record { more = 0 ∷ []; bytes = refl; value = 256 * suc high + 0; whole = ((refl, refl), omega arith, omega arith) }
number_begins least most (suc left) zero low top room =
    record {
      more = least ∷ [];
      bytes = one_byte least (omega arith);
      value = 128 * 0
          + least;
      whole = (inl (omega arith, refl, refl), omega arith, omega arith);
    }
number_begins least most (suc left) (suc high) low top room =
    let k : 128 * suc high ≤ most = subst (λ f. f * suc high ≤ most) (factor_more left) room in
    record {
      more = 0 ∷ [];
      bytes = refl;
      value = 128 * suc high
          + 0;
      whole = (inl (omega arith, refl, refl), omega arith, omega arith);
    }

module _ (least most : ℕ) (kind : FaultKind) (P : ℕ → ℕ → BytePlace) (low : least ≤ 1) (top : 1 ≤ most)
    (table : (left high byte : ℕ) → wrong (P left high) byte
    ≡ cond (leaves_none least most left high byte) (Some kind) None) where
  wrong_is : (left high byte : ℕ) (k : FaultKind) → leaves_none least most left high byte ≡ true → kind ≡ k
      → wrong (P left high) byte ≡ Some k
  wrong_is left high byte k none same = table left high byte ∙ ap (λ b. cond b (Some kind) None) none
      ∙ ap (λ f. Some f) same

  -- the number stops at its first byte
  here : (left high byte l : ℕ) (rest : List ℕ) (k : FaultKind) → factor left * high ≤ most
      → leaves_none least most left high byte ≡ true → l ≡ suc (length rest) → kind ≡ k
      → ExactStopped (NumberText least most left high) (Digits most P left high) (byte ∷ rest) l k
  here left high byte l rest k room none len same =
      stopped_here [] byte rest l k (P left high) len (number_begins least most left high low top room)
      (left, high, (refl, refl), refl) (wrong_is left high byte k none same)

  number_stops : (left high : ℕ) (bytes : List ℕ) (l : ℕ) (k : FaultKind) → factor left * high ≤ most
      → number_at least most kind left high bytes ≡ Err (Bad l k)
      → ExactStopped (NumberText least most left high) (Digits most P left high) bytes l k
  number_stops left high [] l k room e =
      let none : Err Short ≡ Err (Bad l k) = sym (number_short least most kind left high) ∙ e in
      absurd cc
  number_stops zero high (byte ∷ rest) l k room e =
      let w = within_err least most kind k (256 * high + byte) l rest
      (sym (number_last least most kind high byte rest) ∙ e) in
      here zero high byte l rest k room w.0 w.1 w.2
  number_stops (suc left) high (byte ∷ rest) l k room e =
      let next = 128 * high + (byte - 128) in
      elim (steps_chosen (ltb byte 128) (number_within least most kind (128 * high + byte) rest)
      (goes least most kind left high byte rest) (Err (Bad l k))
      (sym (number_more least most kind left high byte rest) ∙ e)) as
      (λ w. ExactStopped (NumberText least most (suc left) high) (Digits most P (suc left) high) (byte ∷ rest) l k) [
        | inl last ↦
            let w = within_err least most kind k (128 * high + byte) l rest last.1 in
            let none = ap (λ b. cond b (outside least most (128 * high + byte)) (ltb most (factor left * next))) last.0
            ∙ w.0 in
            here (suc left) high byte l rest k room none w.1 w.2
        | inr more ↦ elim (steps_chosen (ltb most (factor left * next)) (Err (Bad (suc (length rest)) kind))
            (number_at least most kind left next rest) (Err (Bad l k)) more.1) as
            (λ w. ExactStopped (NumberText least most (suc left) high) (Digits most P (suc left) high) (byte ∷ rest) l
            k) [
              | inl over ↦
                  let len : l ≡ suc (length rest) = cc over.1 in
                  let same : kind ≡ k = cc over.1 in
                  let none = ap (λ b. cond b (outside least most (128 * high + byte)) (ltb most (factor left * next)))
                  more.0 ∙ over.0 in
                  here (suc left) high byte l rest k room none len same
              | inr on ↦
                  let under = ltb-false most (factor left * next) on.0 in
                  let large = ltb-false byte 128 more.0 in
                  stopped_behind (byte ∷ rest) (byte ∷ []) rest l k refl
                  (λ front c. record {
                    more = c.more;
                    bytes = c.bytes;
                    value = c.value;
                    whole = (inr (large, c.whole.0), c.whole.1, c.whole.2);
                  })
                  (λ front place s. (s.0, s.1, (large, under, s.2), s.3)) (number_stops left next rest l k under on.1)
            ]
      ]

  bad_here : (left high byte : ℕ) (k : FaultKind) (more : List ℕ) → leaves_none least most left high byte ≡ true → kind
      ≡ k → number_at least most kind left high (byte ∷ more) ≡ Err (Bad (suc (length more)) k)
  bad_here zero high byte k more none same = number_last least most kind high byte more
      ∙ within_refused least most kind (256 * high + byte) more none ∙ ap (λ f. Err (Bad (suc (length more)) f)) same
  bad_here (suc left) high byte k more none same =
      let next = 128 * high + (byte - 128) in
      elim (steps_chosen (ltb byte 128) (outside least most (128 * high + byte)) (ltb most (factor left * next)) true
      none) as (λ w. number_at least most kind (suc left) high (byte ∷ more) ≡ Err (Bad (suc (length more)) k)) [
        | inl last ↦ number_ends least most kind left high byte more (ltb-true byte 128 last.0)
            ∙ within_refused least most kind (128 * high + byte) more last.1
            ∙ ap (λ f. Err (Bad (suc (length more)) f)) same
        | inr on ↦ number_goes least most kind left high byte more (ltb-false byte 128 on.0)
            ∙ ap (λ b. cond b (Err (Bad (suc (length more)) kind)) (number_at least most kind left next more)) on.1
            ∙ ap (λ f. Err (Bad (suc (length more)) f)) same
      ]

  number_places : (left high : ℕ) (front : List ℕ) (place : BytePlace) (byte : ℕ) (k : FaultKind) (more : List ℕ)
      → Digits most P left high front place → wrong place byte ≡ Some k
      → number_at least most kind left high (front ++ byte ∷ more) ≡ Err (Bad (suc (length more)) k)
  number_places left high [] place byte k more h w =
      let at : place ≡ P left high = h.3 ∙ ap (λ i. P i h.1) h.2.0 ∙ ap (λ i. P left i) h.2.1 in
      let r = refused_is (leaves_none least most left high byte) kind k
      (sym (table left high byte) ∙ sym (ap (λ p. wrong p byte) at) ∙ w) in
      bad_here left high byte k more r.0 r.1
  number_places zero high (first ∷ front) place byte k more h w = absurd h.2
  number_places (suc left) high (first ∷ front) place byte k more h w =
      let next = 128 * high + (first - 128) in
      number_goes least most kind left high first (front ++ byte ∷ more) h.2.0
      ∙ ap (λ b. cond b (Err (Bad (suc (length (front ++ byte ∷ more))) kind))
      (number_at least most kind left next (front ++ byte ∷ more))) (le-ltb most (factor left * next) h.2.1)
      ∙ number_places left next front place byte k more (h.0, h.1, h.2.2, h.3) w

  number_completes : (left high : ℕ) (bytes : List ℕ) → factor left * high ≤ most
      → number_at least most kind left high bytes ≡ Err Short → Completes (NumberText least most left high) bytes
  number_completes left high [] room e = number_begins least most left high low top room
  number_completes zero high (byte ∷ rest) room e =
      absurd (within_whole least most kind (256 * high + byte) rest
      (sym (number_last least most kind high byte rest) ∙ e))
  number_completes (suc left) high (byte ∷ rest) room e =
      let next = 128 * high + (byte - 128) in
      elim (steps_chosen (ltb byte 128) (number_within least most kind (128 * high + byte) rest)
      (goes least most kind left high byte rest) (Err Short)
      (sym (number_more least most kind left high byte rest) ∙ e)) as
      (λ w. Completes (NumberText least most (suc left) high) (byte ∷ rest)) [
        | inl last ↦ absurd (within_whole least most kind (128 * high + byte) rest last.1)
        | inr more ↦ elim (steps_chosen (ltb most (factor left * next)) (Err (Bad (suc (length rest)) kind))
            (number_at least most kind left next rest) (Err Short) more.1) as
            (λ w. Completes (NumberText least most (suc left) high) (byte ∷ rest)) [
              | inl over ↦ absurd (cc over.1)
              | inr on ↦
                  let c = number_completes left next rest (ltb-false most (factor left * next) on.0) on.1 in
                  record {
                    more = c.more;
                    bytes = c.bytes;
                    value = c.value;
                    whole = (inr (ltb-false byte 128 more.0, c.whole.0), c.whole.1, c.whole.2);
                  }
            ]
      ]

  number_exact : ExactReader (number_at least most kind 8 0) (NumberText least most 8 0) (Digits most P 8 0)
  number_exact =
      let room : factor 8 * 0 ≤ most = omega arith in
      record {
        begins = number_begins least most 8 0 low top room;
        takes = λ bytes x fits e.
            let t = number_takes least most kind 8 0 bytes x e in
            record { text = t.0.text; parts = t.0.parts; spelled = (t.0.spelled, t.1, t.2) };
        again = λ text n rest h. number_again least most kind 8 0 text n rest h.0 h.1 h.2;
        stops = λ bytes l k fits e. number_stops 8 0 bytes l k room e;
        places = number_places 8 0;
        completes = λ bytes fits e. number_completes 8 0 bytes room e;
      }

-- the number of columns, and the length of a value
pub columns_exact : ExactReader columns_at (NumberText 1 2000 8 0) (Digits 2000 InColumns 8 0)
unfolding columns_at
columns_exact = number_exact 1 2000 Columns InColumns (omega arith) (omega arith) (λ left high byte. refl)

pub length_exact : ExactReader length_at (NumberText 0 16777216 8 0) (Digits 16777216 InLength 8 0)
unfolding length_at
length_exact = number_exact 0 16777216 ValueTooLong InLength (omega arith) (omega arith) (λ left high byte. refl)
