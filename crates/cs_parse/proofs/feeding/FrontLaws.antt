-- The complete items at the front: the bytes encode what is read, and all are read if nothing stops the reader.
use Rattle.std.proofs.Common.{◌≡◌, ℕ, zero, suc, ◌≤◌, ◌⊎◌, inl, inr, Bool, true, false, cond, List, [], ◌∷◌, ◌++◌}
use Rattle.std.proofs.Common.{length, Option, Some, None, Result, Ok, Err, refl, sym, ap, subst, ◌∙◌, append_assoc}
use Rattle.std.proofs.Common.{arith}
use Rattle.std.specs.List.{AllByRecursion}
use Rattle.std.proofs.lemmas.Bool.{cases_Bool}
use Rattle.std.proofs.lemmas.List.{nil_from_length, length-append}
use Rattle.cs_model.specs.Bytes.{AreBytes}
use Rattle.cs_model.specs.declared.change.Change.{Change}
use Rattle.cs_model.specs.Text.{SpellsEach, SpellsChange}
use Rattle.cs_parse.specs.declared.stop.ParseRefusal.{ParseRefusal}
use Rattle.cs_parse.specs.Front.{Front, after_item, front_at, changes_front}
use Rattle.cs_parse.specs.Reading.{change_at, ends_section}
use Rattle.cs_parse.proofs.reading.Steps.{back_fits}
use Rattle.cs_parse.proofs.reading.ManyLaws.{IsReader, rest_is_shorter}
use Rattle.cs_parse.proofs.reading.ChangeLaws.{IsChangeBy, IsAny, change_reader}

-- ---- one step

abbrev pub front_none_left : {A : Type 0} → List ℕ → Front A
front_none_left bytes = record { items = []; rest = bytes; why = None }

pub front_over : {A : Type 0} (over : List ℕ → Bool) (read : List ℕ → Result (A × List ℕ) ParseRefusal) (fuel : ℕ)
    (bytes : List ℕ) → (over bytes ≡ true) ⊎ (fuel ≡ 0) → front_at over read fuel bytes
    ≡ record { items = []; rest = bytes; why = None }
unfolding front_at
front_over over read zero bytes h = refl
front_over over read (suc fuel) bytes (inl h) =
    ap (λ b. cond b (front_none_left bytes) (after_item (front_at over read fuel) bytes (read bytes))) h
front_over over read (suc fuel) bytes (inr h) = absurd (omega (arith, h))

pub front_more : {A : Type 0} (over : List ℕ → Bool) (read : List ℕ → Result (A × List ℕ) ParseRefusal) (fuel : ℕ)
    (bytes : List ℕ) → over bytes ≡ false → front_at over read (suc fuel) bytes
    ≡ after_item (front_at over read fuel) bytes (read bytes)
unfolding front_at
front_more over read fuel bytes h =
    ap (λ b. cond b (front_none_left bytes) (after_item (front_at over read fuel) bytes (read bytes))) h

pub front_stops : {A : Type 0} (over : List ℕ → Bool) (read : List ℕ → Result (A × List ℕ) ParseRefusal) (fuel : ℕ)
    (bytes : List ℕ) (why : ParseRefusal) → over bytes ≡ false → read bytes ≡ Err why
    → front_at over read (suc fuel) bytes ≡ record { items = []; rest = bytes; why = Some why }
front_stops over read fuel bytes why more e = front_more over read fuel bytes more
    ∙ ap (after_item (front_at over read fuel) bytes) e

pub front_goes : {A : Type 0} (over : List ℕ → Bool) (read : List ℕ → Result (A × List ℕ) ParseRefusal) (fuel : ℕ)
    (bytes : List ℕ) (x : A) (after : List ℕ) → over bytes ≡ false → read bytes ≡ Ok (x, after)
    → front_at over read (suc fuel) bytes
    ≡ record {
      items = x ∷ (front_at over read fuel after).items;
      rest = (front_at over read fuel after).rest;
      why = (front_at over read fuel after).why;
    }
front_goes over read fuel bytes x after more e = front_more over read fuel bytes more
    ∙ ap (after_item (front_at over read fuel) bytes) e

-- ---- what was read

-- The bytes are a spelling of the items, and then those that are left.
pub record FrontSpelled {A : Type 0} (Spelling : List ℕ → A → Type 0) (IsItem : A → Type 0) (bytes : List ℕ)
    (front : Front A) : Type 0 where
  pub text : List ℕ
  pub parts : bytes ≡ text ++ front.rest
  pub spelled : SpellsEach Spelling text front.items
  pub valid : AllByRecursion IsItem front.items

-- which way a reader went
pub tells : {A : Type 0} (r : Result A ParseRefusal) → ((x : A) × (r ≡ Ok x)) ⊎ ((why : ParseRefusal) × (r ≡ Err why))
tells (Ok x) = inl (x, refl)
tells (Err why) = inr (why, refl)

module _ {A : Type 0} (over : List ℕ → Bool) (read : List ℕ → Result (A × List ℕ) ParseRefusal)
    (Spelling : List ℕ → A → Type 0) (IsItem : A → Type 0) (Follows : List ℕ → Type 0)
    (reader : IsReader over read Spelling IsItem Follows) where
  none_spelled : (bytes : List ℕ) (why : Option ParseRefusal)
      → FrontSpelled Spelling IsItem bytes (record { items = []; rest = bytes; why = why })
  none_spelled bytes why = record { text = []; parts = refl; spelled = refl; valid = tt }

  pub front_spelled : (fuel : ℕ) (bytes : List ℕ) → AreBytes bytes
      → FrontSpelled Spelling IsItem bytes (front_at over read fuel bytes)
  front_spelled zero bytes fits =
      subst (λ f. FrontSpelled Spelling IsItem bytes f) (sym (front_over over read zero bytes (inr refl)))
      (none_spelled bytes None)
  front_spelled (suc fuel) bytes fits =
      elim (cases_Bool (over bytes)) as
      (λ w. FrontSpelled Spelling IsItem bytes (front_at over read (suc fuel) bytes)) [
        | inl ended ↦ subst (λ f. FrontSpelled Spelling IsItem bytes f)
            (sym (front_over over read (suc fuel) bytes (inl ended))) (none_spelled bytes None)
        | inr more ↦ elim (tells (read bytes)) as
            (λ w. FrontSpelled Spelling IsItem bytes (front_at over read (suc fuel) bytes)) [
              | inl x ↦
                  let first = reader.takes bytes x.0 fits x.1 in
                  let others = front_spelled fuel x.0.1 (back_fits bytes first.0.text x.0.1 first.0.parts fits) in
                  let left = (front_at over read fuel x.0.1).rest in
                  let whole : bytes ≡ (first.0.text ++ others.text) ++ left =
                  first.0.parts ∙ ap (λ w. first.0.text ++ w) others.parts
                  ∙ sym (append_assoc first.0.text others.text left) in
                  subst (λ f. FrontSpelled Spelling IsItem bytes f)
                  (sym (front_goes over read fuel bytes x.0.0 x.0.1 more x.1))
                  (record {
                    text = first.0.text ++ others.text;
                    parts = whole;
                    spelled = (first.0.text, others.text, refl, first.0.spelled, others.spelled);
                    valid =
                        (first.1, others.valid);
                  })
              | inr e ↦ subst (λ f. FrontSpelled Spelling IsItem bytes f)
                  (sym (front_stops over read fuel bytes e.0 more e.1)) (none_spelled bytes (Some e.0))
            ]
      ]

  -- where there is fuel for all bytes, the items end only where they are over
  pub front_ends : (fuel : ℕ) (bytes : List ℕ) → AreBytes bytes → length bytes ≤ fuel
      → (front_at over read fuel bytes).why ≡ None → over (front_at over read fuel bytes).rest ≡ true
  front_ends zero bytes fits enough none =
      ap (λ (f : Front A). over f.rest) (front_over over read zero bytes (inr refl))
      ∙ ap over (nil_from_length bytes (omega arith)) ∙ reader.at_end
  front_ends (suc fuel) bytes fits enough none =
      elim (cases_Bool (over bytes)) as (λ w. over (front_at over read (suc fuel) bytes).rest ≡ true) [
        | inl ended ↦ ap (λ (f : Front A). over f.rest) (front_over over read (suc fuel) bytes (inl ended)) ∙ ended
        | inr more ↦ elim (tells (read bytes)) as (λ w. over (front_at over read (suc fuel) bytes).rest ≡ true) [
          | inl x ↦
              let first = reader.takes bytes x.0 fits x.1 in
              let goes = front_goes over read fuel bytes x.0.0 x.0.1 more x.1 in
              let less = rest_is_shorter over read Spelling IsItem Follows reader fuel bytes x.0 first.0 enough in
              ap (λ (f : Front A). over f.rest) goes
              ∙ front_ends fuel x.0.1 (back_fits bytes first.0.text x.0.1 first.0.parts fits) less
              (sym (ap (λ (f : Front A). f.why) goes) ∙ none)
          | inr e ↦
              let some : None ≡ Some e.0 =
              sym none ∙ ap (λ (f : Front A). f.why) (front_stops over read fuel bytes e.0 more e.1) in
              absurd (cc some)
        ]
      ]

-- ---- changes

abbrev pub ChangesSpelled : List ℕ → List ℕ → Front Change → Type 0
ChangesSpelled flags bytes front = FrontSpelled SpellsChange (IsChangeBy flags) bytes front

pub changes_spelled_by : (fuel : ℕ) (flags bytes : List ℕ) → AreBytes bytes
    → ChangesSpelled flags bytes (front_at ends_section (change_at flags) fuel bytes)
changes_spelled_by fuel flags bytes fits =
    front_spelled ends_section (change_at flags) SpellsChange (IsChangeBy flags) IsAny (change_reader flags) fuel bytes
    fits

pub changes_spelled : (flags bytes : List ℕ) → AreBytes bytes → ChangesSpelled flags bytes (changes_front flags bytes)
changes_spelled flags bytes fits = changes_spelled_by (length bytes) flags bytes fits

pub changes_over_by : (fuel : ℕ) (flags bytes : List ℕ) → AreBytes bytes → length bytes ≤ fuel
    → (front_at ends_section (change_at flags) fuel bytes).why ≡ None
    → ends_section (front_at ends_section (change_at flags) fuel bytes).rest ≡ true
changes_over_by fuel flags bytes fits enough none =
    front_ends ends_section (change_at flags) SpellsChange (IsChangeBy flags) IsAny (change_reader flags) fuel bytes
    fits enough none

pub changes_over : (flags bytes : List ℕ) → AreBytes bytes → (changes_front flags bytes).why ≡ None
    → ends_section (changes_front flags bytes).rest ≡ true
changes_over flags bytes fits none = changes_over_by (length bytes) flags bytes fits (omega arith) none

pub front_fits : (flags bytes : List ℕ) → AreBytes bytes → AreBytes (changes_front flags bytes).rest
front_fits flags bytes fits =
    let s = changes_spelled flags bytes fits in
    back_fits bytes s.text (changes_front flags bytes).rest s.parts fits

pub front_shorter : (flags bytes : List ℕ) → AreBytes bytes → length (changes_front flags bytes).rest ≤ length bytes
front_shorter flags bytes fits =
    let s = changes_spelled flags bytes fits in
    omega (arith, ap length s.parts, length-append s.text (changes_front flags bytes).rest)
