-- Items one after another: their faults are exact if those of an item are.
use Rattle.std.proofs.Common.{◌≡◌, ℕ, zero, suc, ◌≤◌, inl, inr, Bool, false, List, [], ◌∷◌, ◌++◌, length, Some, Result}
use Rattle.std.proofs.Common.{Ok, Err, refl, sym, ap, subst, ◌∙◌, append_assoc, arith}
use Rattle.std.specs.List.{AllByRecursion}
use Rattle.std.proofs.lemmas.Bool.{cases_Bool}
use Rattle.std.proofs.lemmas.List.{append-nil, length-append}
use Rattle.cs_model.specs.Text.{SpellsEach}
use Rattle.cs_parse.specs.declared.fault.FaultKind.{FaultKind}
use Rattle.cs_parse.specs.Place.{BytePlace, wrong}
use Rattle.cs_parse.specs.declared.stop.ParseRefusal.{ParseRefusal}
use Rattle.cs_parse.specs.declared.stop.ParseRefusal.TheVariants.{Short, Bad}
use Rattle.cs_parse.specs.Reading.{◌>>=◌, many_at}
use Rattle.cs_model.specs.Bytes.{AreBytes}
use Rattle.cs_parse.proofs.reading.Steps.{back_fits, done}
use Rattle.cs_parse.proofs.reading.Loops.{then_others, loops_rest_of, many_more, many_done}
use Rattle.cs_parse.proofs.reading.ManyLaws.{IsReader}
use Rattle.cs_parse.proofs.refusing.Exact.{Completes, ExactStopped, stopped_behind, bind_err}

-- a valid item and its spelling
abbrev pub ItemText : {A : Type 0} → (List ℕ → A → Type 0) → (A → Type 0) → List ℕ → A → Type 0
ItemText Spelling IsItem text a = Spelling text a × IsItem a

abbrev pub ManyText : {A : Type 0} → (List ℕ → A → Type 0) → (A → Type 0) → List ℕ → List A → Type 0
ManyText Spelling IsItem text xs = SpellsEach Spelling text xs × AllByRecursion IsItem xs

-- in an item, behind those before it
abbrev pub ManyPlace : {A : Type 0} → (List ℕ → A → Type 0) → (A → Type 0) → (List ℕ → BytePlace → Type 0) → List ℕ
    → BytePlace → Type 0
ManyPlace {A} Spelling IsItem S front place = (whole : List ℕ) × (xs : List A) × (part : List ℕ)
    × (front ≡ whole ++ part) × ManyText Spelling IsItem whole xs × S part place

-- What is asked of an item's reader, where the items aren't over and what is left may follow.
pub record IsExact {A : Type 0} (over : List ℕ → Bool) (read : List ℕ → Result (A × List ℕ) ParseRefusal)
    (Spelling : List ℕ → A → Type 0) (IsItem : A → Type 0) (Follows : List ℕ → Type 0)
    (S : List ℕ → BytePlace → Type 0) : Type 0 where
  pub reader : IsReader over read Spelling IsItem Follows
  pub leaves : (bytes : List ℕ) (x : A × List ℕ) → Follows bytes → AreBytes bytes → read bytes ≡ Ok x → Follows x.1
  pub stops : (bytes : List ℕ) (left : ℕ) (kind : FaultKind) → over bytes ≡ false → Follows bytes → AreBytes bytes
      → read bytes ≡ Err (Bad left kind) → ExactStopped (ItemText Spelling IsItem) S bytes left kind
  pub places : (front : List ℕ) (place : BytePlace) (byte : ℕ) (kind : FaultKind) (more : List ℕ) → S front place
      → wrong place byte ≡ Some kind
      → (over (front ++ byte ∷ more) ≡ false) × Follows (front ++ byte ∷ more)
      × (read (front ++ byte ∷ more) ≡ Err (Bad (suc (length more)) kind))
  pub completes : (bytes : List ℕ) → over bytes ≡ false → Follows bytes → AreBytes bytes → read bytes ≡ Err Short
      → Completes (ItemText Spelling IsItem) bytes

module _ {A : Type 0} (over : List ℕ → Bool) (read : List ℕ → Result (A × List ℕ) ParseRefusal)
    (Spelling : List ℕ → A → Type 0) (IsItem : A → Type 0) (Follows : List ℕ → Type 0) (S : List ℕ → BytePlace → Type 0)
    (exact : IsExact over read Spelling IsItem Follows S) where
  -- one item, which is begun
  one_begun : (front : List ℕ) → Completes (ItemText Spelling IsItem) front → Completes (ManyText Spelling IsItem) front
  one_begun front c = record {
    more = c.more;
    bytes = c.bytes;
    value = c.value
        ∷ [];
    whole = ((front ++ c.more, [], sym (append-nil (front ++ c.more)), c.whole.0, refl), (c.whole.1, tt));
  }

  -- items behind one
  one_more : (text : List ℕ) (a : A) (front : List ℕ) → Spelling text a → IsItem a
      → Completes (ManyText Spelling IsItem) front → Completes (ManyText Spelling IsItem) (text ++ front)
  one_more text a front h valid c =
      record {
        more = c.more;
        bytes = c.bytes;
        value = a
            ∷ c.value;
        whole = ((text, front ++ c.more, append_assoc text front c.more, h, c.whole.0), (valid, c.whole.1));
      }

  -- what is left behind an item takes less fuel
  less_fuel : (fuel : ℕ) (bytes text rest : List ℕ) (a : A) → length bytes ≤ suc fuel → bytes ≡ text ++ rest
      → Spelling text a → length rest ≤ fuel
  less_fuel fuel bytes text rest a enough parts h =
      omega (arith, ap length parts, length-append text rest, exact.reader.long text a h)

  pub many_stops : (fuel : ℕ) (bytes : List ℕ) (left : ℕ) (kind : FaultKind) → length bytes ≤ fuel → Follows bytes
      → AreBytes bytes → many_at over read fuel bytes ≡ Err (Bad left kind)
      → ExactStopped (ManyText Spelling IsItem) (ManyPlace Spelling IsItem S) bytes left kind
  many_stops zero bytes left kind enough follows fits e =
      absurd (cc (sym (many_done over read zero bytes (inr refl)) ∙ e))
  many_stops (suc fuel) bytes left kind enough follows fits e =
      elim (cases_Bool (over bytes)) as
      (λ w. ExactStopped (ManyText Spelling IsItem) (ManyPlace Spelling IsItem S) bytes left kind) [
        | inl ended ↦ absurd (cc (sym (many_done over read (suc fuel) bytes (inl ended)) ∙ e))
        | inr more ↦ elim (bind_err (read bytes) (loops_rest_of over read fuel) (Bad left kind)
            (sym (many_more over read fuel bytes more) ∙ e)) as
            (λ w. ExactStopped (ManyText Spelling IsItem) (ManyPlace Spelling IsItem S) bytes left kind) [
              | inl h ↦ stopped_behind bytes [] bytes left kind refl one_begun
                  (λ front place s. ([], [], front, refl, (refl, tt), s))
                  (exact.stops bytes left kind more follows fits h)
              | inr h ↦ elim (bind_err (many_at over read fuel h.0.1) (λ others. done (h.0.0 ∷ others.0, others.1))
                  (Bad left kind) h.2) as (λ w. ExactStopped (ManyText Spelling IsItem)
                  (ManyPlace Spelling IsItem S) bytes
                  left kind) [
                    | inl k ↦
                        let t = exact.reader.takes bytes h.0 fits h.1 in
                        let text = t.0.text in
                        stopped_behind bytes text h.0.1 left kind t.0.parts
                        (λ front c. one_more text h.0.0 front t.0.spelled t.1 c)
                        (λ front place p. (
                          text ++ p.0,
                          h.0.0 ∷ p.1,
                          p.2,
                          ap (λ w. text ++ w) p.3 ∙ sym (append_assoc text p.0 p.2),
                          ((text, p.0, refl, t.0.spelled, p.4.0), (t.1, p.4.1)),
                          p.5,
                        ))
                        (many_stops fuel h.0.1 left kind
                        (less_fuel fuel bytes text h.0.1 h.0.0 enough t.0.parts t.0.spelled)
                        (exact.leaves bytes h.0 follows fits h.1) (back_fits bytes text h.0.1 t.0.parts fits) k)
                    | inr k ↦ absurd (cc k.2)
                  ]
            ]
      ]

  pub many_completes : (fuel : ℕ) (bytes : List ℕ) → length bytes ≤ fuel → Follows bytes → AreBytes bytes
      → many_at over read fuel bytes ≡ Err Short → Completes (ManyText Spelling IsItem) bytes
  many_completes zero bytes enough follows fits e = absurd (cc (sym (many_done over read zero bytes (inr refl)) ∙ e))
  many_completes (suc fuel) bytes enough follows fits e =
      elim (cases_Bool (over bytes)) as (λ w. Completes (ManyText Spelling IsItem) bytes) [
        | inl ended ↦ absurd (cc (sym (many_done over read (suc fuel) bytes (inl ended)) ∙ e))
        | inr more ↦ elim (bind_err (read bytes) (loops_rest_of over read fuel) Short
            (sym (many_more over read fuel bytes more) ∙ e)) as (λ w. Completes (ManyText Spelling IsItem) bytes) [
              | inl h ↦ one_begun bytes (exact.completes bytes more follows fits h)
              | inr h ↦ elim (bind_err (many_at over read fuel h.0.1)
                  (λ others. done (h.0.0 ∷ others.0, others.1)) Short
                  h.2) as (λ w. Completes (ManyText Spelling IsItem) bytes) [
                    | inl k ↦
                        let t = exact.reader.takes bytes h.0 fits h.1 in
                        let text = t.0.text in
                        let c = many_completes fuel h.0.1
                        (less_fuel fuel bytes text h.0.1 h.0.0 enough t.0.parts t.0.spelled)
                        (exact.leaves bytes h.0 follows fits h.1) (back_fits bytes text h.0.1 t.0.parts fits) k in
                        subst (λ w. Completes (ManyText Spelling IsItem) w) (sym t.0.parts)
                        (one_more text h.0.0 h.0.1 t.0.spelled t.1 c)
                    | inr k ↦ absurd (cc k.2)
                  ]
            ]
      ]

  -- what stands behind the items may follow them, where it may follow the last
  all_follow : (whole : List ℕ) (xs : List A) (rest : List ℕ) → SpellsEach Spelling whole xs → Follows rest
      → Follows (whole ++ rest)
  all_follow whole [] rest h last = subst (λ w. Follows (w ++ rest)) (sym h) last
  all_follow whole (x ∷ xs) rest h last =
      let regrouped : whole ++ rest ≡ h.0 ++ (h.1 ++ rest) = ap (λ w. w ++ rest) h.2 ∙ append_assoc h.0 h.1 rest in
      subst (λ w. Follows w) (sym regrouped) (exact.reader.follows h.0 x (h.1 ++ rest) h.3)

  pub many_places : (fuel : ℕ) (whole : List ℕ) (xs : List A) (part : List ℕ) (place : BytePlace) (byte : ℕ)
      (kind : FaultKind) (more : List ℕ) → ManyText Spelling IsItem whole xs → S part place → wrong place byte
      ≡ Some kind → length (whole ++ (part ++ byte ∷ more)) ≤ fuel
      → many_at over read fuel (whole ++ (part ++ byte ∷ more)) ≡ Err (Bad (suc (length more)) kind)
  many_places zero whole xs part place byte kind more h stands w enough =
      absurd (omega (arith, length-append whole (part ++ byte ∷ more), length-append part (byte ∷ more)))
  many_places (suc fuel) whole [] part place byte kind more h stands w enough =
      let p = exact.places part place byte kind more stands w in
      ap (λ v. many_at over read (suc fuel) (v ++ (part ++ byte ∷ more))) h.0
      ∙ many_more over read fuel (part ++ byte ∷ more) p.0 ∙ ap (λ r. r >>= loops_rest_of over read fuel) p.2
  many_places (suc fuel) whole (x ∷ xs) part place byte kind more h stands w enough =
      let rest = part ++ byte ∷ more in
      let front = h.0.0 in
      let back = h.0.1 in
      let regrouped : whole ++ rest ≡ front ++ (back ++ rest) = ap (λ v. v ++ rest) h.0.2
      ∙ append_assoc front back rest in
      let first = exact.reader.again front x (back ++ rest) h.0.3 h.1.0
      (all_follow back xs rest h.0.4 (exact.places part place byte kind more stands w).1) in
      let less : length (back ++ rest) ≤ fuel =
      omega (arith, ap length regrouped, length-append front (back ++ rest), exact.reader.long front x h.0.3) in
      let others = many_places fuel back xs part place byte kind more (h.0.4, h.1.1) stands w less in
      ap (many_at over read (suc fuel)) regrouped
      ∙ many_more over read fuel (front ++ (back ++ rest)) (exact.reader.goes_on front x (back ++ rest) h.0.3)
      ∙ ap (λ r. r >>= loops_rest_of over read fuel) first
      ∙ ap (then_others x) others
