-- Items one after another: the bytes encode what is read, and every encoding is read.
use Rattle.std.proofs.Common.{◌≡◌, ℕ, zero, suc, ◌<◌, ◌≤◌, inl, inr, Bool, true, false, List, [], ◌∷◌, ◌++◌, length}
use Rattle.std.proofs.Common.{Result, Ok, refl, sym, ap, subst, ◌∙◌, append_assoc, arith}
use Rattle.std.specs.List.{AllByRecursion}
use Rattle.std.proofs.lemmas.Bool.{cases_Bool}
use Rattle.std.proofs.lemmas.List.{nil_from_length, length-append}
use Rattle.cs_model.specs.Text.{SpellsEach}
use Rattle.cs_parse.specs.declared.stop.ParseRefusal.{ParseRefusal}
use Rattle.cs_parse.specs.Reading.{◌>>=◌, many_at}
use Rattle.cs_model.specs.Bytes.{AreBytes}
use Rattle.cs_parse.proofs.reading.Steps.{Takes, back_fits, bind_ok, done, ok_is}
use Rattle.cs_parse.proofs.reading.Loops.{then_others, loops_rest_of, many_more, many_done}

-- An item's reader: where the items are over, what is read was spelled so, and what is spelled so is read where what
-- follows may follow it.
pub record IsReader {A : Type 0} (over : List ℕ → Bool) (read : List ℕ → Result (A × List ℕ) ParseRefusal)
    (Spelling : List ℕ → A → Type 0) (IsItem : A → Type 0) (Follows : List ℕ → Type 0) : Type 0 where
  pub at_end : over [] ≡ true
  pub long : (text : List ℕ) (a : A) → Spelling text a → 0 < length text
  pub takes : (bytes : List ℕ) (x : A × List ℕ) → AreBytes bytes → read bytes ≡ Ok x → Takes Spelling bytes x
      × IsItem x.0
  pub again : (text : List ℕ) (a : A) (rest : List ℕ) → Spelling text a → IsItem a → Follows rest → read (text ++ rest)
      ≡ Ok (a, rest)
  pub goes_on : (text : List ℕ) (a : A) (rest : List ℕ) → Spelling text a → over (text ++ rest) ≡ false
  pub follows : (text : List ℕ) (a : A) (rest : List ℕ) → Spelling text a → Follows (text ++ rest)

-- what a first item leaves is shorter
pub rest_is_shorter : {A : Type 0} (over : List ℕ → Bool) (read : List ℕ → Result (A × List ℕ) ParseRefusal)
    (Spelling : List ℕ → A → Type 0) (IsItem : A → Type 0) (Follows : List ℕ → Type 0)
    → IsReader over read Spelling IsItem Follows
    → (fuel : ℕ) (bytes : List ℕ) (x : A × List ℕ) → Takes Spelling bytes x → length bytes ≤ suc fuel
    → length x.1 ≤ fuel
rest_is_shorter over read Spelling IsItem Follows reader fuel bytes x first enough =
    omega (arith, ap length first.parts, length-append first.text x.1, reader.long first.text x.0 first.spelled)

abbrev pub TakesEach : {A : Type 0} → (List ℕ → Bool) → (List ℕ → A → Type 0) → (A → Type 0) → List ℕ → List A × List ℕ
    → Type 0
TakesEach over Spelling IsItem bytes x = Takes (SpellsEach Spelling) bytes x × AllByRecursion IsItem x.0
    × (over x.1 ≡ true)

many_none_taken : {A : Type 0} (over : List ℕ → Bool) (Spelling : List ℕ → A → Type 0) (IsItem : A → Type 0)
    (bytes : List ℕ) (x : List A × List ℕ) → over bytes ≡ true → done ([], bytes) ≡ Ok x
    → TakesEach over Spelling IsItem bytes x
many_none_taken over Spelling IsItem bytes x ended e =
    subst (λ y. TakesEach over Spelling IsItem bytes y) (ok_is ([], bytes) x e)
    (record { text = []; parts = refl; spelled = refl }, tt, ended)

pub many_takes : {A : Type 0} (over : List ℕ → Bool) (read : List ℕ → Result (A × List ℕ) ParseRefusal)
    (Spelling : List ℕ → A → Type 0) (IsItem : A → Type 0) (Follows : List ℕ → Type 0)
    → IsReader over read Spelling IsItem Follows
    → (fuel : ℕ) (bytes : List ℕ) (x : List A × List ℕ) → AreBytes bytes → length bytes ≤ fuel
    → many_at over read fuel bytes ≡ Ok x → TakesEach over Spelling IsItem bytes x
many_takes over read Spelling IsItem Follows reader zero bytes x fits enough e =
    let ended : over bytes ≡ true = ap over (nil_from_length bytes (omega arith)) ∙ reader.at_end in
    many_none_taken over Spelling IsItem bytes x ended (sym (many_done over read zero bytes (inl ended)) ∙ e)
many_takes over read Spelling IsItem Follows reader (suc fuel) bytes x fits enough e =
    elim (cases_Bool (over bytes)) as (λ w. TakesEach over Spelling IsItem bytes x) [
      | inl ended ↦ many_none_taken over Spelling IsItem bytes x ended
          (sym (many_done over read (suc fuel) bytes (inl ended)) ∙ e)
      | inr more ↦
          let a = bind_ok (read bytes) (loops_rest_of over read fuel) x
          (sym (many_more over read fuel bytes more) ∙ e) in
          let b = bind_ok (many_at over read fuel a.0.1) (λ others. Ok (a.0.0 ∷ others.0, others.1)) x a.2 in
          let first = reader.takes bytes a.0 fits a.1 in
          let less = rest_is_shorter over read Spelling IsItem Follows reader fuel bytes a.0 first.0 enough in
          let others = many_takes over read Spelling IsItem Follows reader fuel a.0.1 b.0
          (back_fits bytes first.0.text a.0.1 first.0.parts fits) less b.1 in
          let whole : bytes ≡ (first.0.text ++ others.0.text) ++ b.0.1 =
          first.0.parts ∙ ap (λ w. first.0.text ++ w) others.0.parts
          ∙ sym (append_assoc first.0.text others.0.text b.0.1) in
          subst (λ y. TakesEach over Spelling IsItem bytes y) (ok_is (a.0.0 ∷ b.0.0, b.0.1) x b.2) (
            record {
              text = first.0.text ++ others.0.text;
              parts = whole;
              spelled = (first.0.text, others.0.text, refl, first.0.spelled, others.0.spelled);
            },
            (first.1, others.1),
            others.2,
          )
    ]

each_follows : {A : Type 0} (over : List ℕ → Bool) (read : List ℕ → Result (A × List ℕ) ParseRefusal)
    (Spelling : List ℕ → A → Type 0) (IsItem : A → Type 0) (Follows : List ℕ → Type 0)
    → IsReader over read Spelling IsItem Follows
    → (text : List ℕ) (xs : List A) (rest : List ℕ) → SpellsEach Spelling text xs → Follows rest
    → Follows (text ++ rest)
each_follows over read Spelling IsItem Follows reader text [] rest h last =
    subst (λ w. Follows (w ++ rest)) (sym h) last
each_follows over read Spelling IsItem Follows reader text (x ∷ xs) rest h last =
    let regrouped : text ++ rest ≡ h.0 ++ (h.1 ++ rest) = ap (λ w. w ++ rest) h.2 ∙ append_assoc h.0 h.1 rest in
    subst (λ w. Follows w) (sym regrouped) (reader.follows h.0 x (h.1 ++ rest) h.3)

pub many_again : {A : Type 0} (over : List ℕ → Bool) (read : List ℕ → Result (A × List ℕ) ParseRefusal)
    (Spelling : List ℕ → A → Type 0) (IsItem : A → Type 0) (Follows : List ℕ → Type 0)
    → IsReader over read Spelling IsItem Follows
    → (fuel : ℕ) (text : List ℕ) (xs : List A) (rest : List ℕ) → SpellsEach Spelling text xs → AllByRecursion IsItem xs
    → over rest ≡ true → Follows rest → length (text ++ rest) ≤ fuel → many_at over read fuel (text ++ rest)
    ≡ Ok (xs, rest)
many_again over read Spelling IsItem Follows reader fuel text [] rest h valid ended last enough =
    ap (λ w. many_at over read fuel (w ++ rest)) h ∙ many_done over read fuel rest (inl ended)
many_again over read Spelling IsItem Follows reader zero text (x ∷ xs) rest h valid ended last enough =
    absurd (omega (arith, length-append text rest, ap length h.2, length-append h.0 h.1, reader.long h.0 x h.3))
many_again over read Spelling IsItem Follows reader (suc fuel) text (x ∷ xs) rest h valid ended last enough =
    let front = h.0 in
    let back = h.1 in
    let regrouped : text ++ rest ≡ front ++ (back ++ rest) = ap (λ w. w ++ rest) h.2 ∙ append_assoc front back rest in
    let first = reader.again front x (back ++ rest) h.3 valid.0
    (each_follows over read Spelling IsItem Follows reader back xs rest h.4 last) in
    let less : length (back ++ rest) ≤ fuel =
    omega (arith, ap length regrouped, length-append front (back ++ rest), reader.long front x h.3) in
    let others = many_again over read Spelling IsItem Follows reader fuel back xs rest h.4 valid.1 ended last less in
    ap (many_at over read (suc fuel)) regrouped
    ∙ many_more over read fuel (front ++ (back ++ rest)) (reader.goes_on front x (back ++ rest) h.3)
    ∙ ap (λ r. r >>= loops_rest_of over read fuel) first
    ∙ ap (then_others x) others
