-- The faults of names are exact.
use Rattle.std.proofs.Common.{◌≡◌, ◌==◌, ℕ, zero, suc, ◌<◌, ◌≤◌, ◌⊎◌, inl, inr, true, cond, eqb, List, [], ◌∷◌, ◌++◌}
use Rattle.std.proofs.Common.{length, Some, None, Result, Ok, Err, refl, sym, ap, ◌∙◌, append_assoc, arith}
use Rattle.std.specs.Prelude.{nat_lt}
use Rattle.std.proofs.lemmas.Bool.{lt-ltb, eqb-true, and_from, and_parts}
use Rattle.std.proofs.lemmas.List.{nil_from_length}
use Rattle.cs_parse.specs.declared.fault.FaultKind.{FaultKind}
use Rattle.cs_parse.specs.declared.fault.FaultKind.TheVariants.{EmptyName, NameTooLong}
use Rattle.cs_parse.specs.Place.{BytePlace, FirstLetter, PastName, wrong}
use Rattle.cs_parse.specs.declared.stop.ParseRefusal.{ParseRefusal}
use Rattle.cs_parse.specs.declared.stop.ParseRefusal.TheVariants.{Short, Bad}
use Rattle.cs_parse.specs.Reading.{◌>>=◌, refuse, letters_at, name_at}
use Rattle.cs_parse.proofs.reading.Steps.{steps_chosen}
use Rattle.cs_parse.proofs.reading.Letters.{no_zero, nonzero, letter_and, letters_end, letters_full, letters_more}
use Rattle.cs_parse.proofs.reading.Letters.{letters_short, letters_take, name_takes, name_again}
use Rattle.cs_parse.proofs.refusing.Exact.{Completes, ExactStopped, ExactReader, bind_err}

abbrev pub NameText : List ℕ → List ℕ → Type 0
NameText text name = (text ≡ name ++ 0 ∷ []) × (0 < length name) × (length name ≤ 1024) × (no_zero name ≡ true)

abbrev pub NamePlace : List ℕ → BytePlace → Type 0
NamePlace front place = ((front ≡ []) × (place ≡ FirstLetter))
    ⊎ ((length front ≡ 1024) × (no_zero front ≡ true) × (place ≡ PastName))

abbrev nothing_read : List ℕ → Result (List ℕ × List ℕ) ParseRefusal
nothing_read rest = Ok ([], rest)

-- letters up to a byte that is one too many
record TooMany (most : ℕ) (bytes : List ℕ) (left : ℕ) (kind : FaultKind) : Type 0 where
  front : List ℕ
  byte : ℕ
  back : List ℕ
  parts : bytes ≡ front ++ suc byte ∷ back
  full : length front ≡ most
  whole : no_zero front ≡ true
  left_is : left ≡ suc (length back)
  same : NameTooLong ≡ kind

exact_names_one_more : (b : ℕ) (name : List ℕ) → no_zero name ≡ true → no_zero (suc b ∷ name) ≡ true
exact_names_one_more b name h = and_from (nat_lt 0 (suc b)) (no_zero name) (lt-ltb 0 (suc b) (omega arith)) h

letters_bad : (most : ℕ) (bytes : List ℕ) (left : ℕ) (kind : FaultKind) → letters_at most bytes ≡ Err (Bad left kind)
    → TooMany most bytes left kind
letters_bad most [] left kind e =
    let none : Err Short ≡ Err (Bad left kind) = sym (letters_short most) ∙ e in
    absurd cc
letters_bad most (zero ∷ rest) left kind e =
    let none : nothing_read rest ≡ Err (Bad left kind) = sym (letters_end most rest) ∙ e in
    absurd cc
letters_bad zero (suc b ∷ rest) left kind e =
    let is : Err (Bad (suc (length rest)) NameTooLong) ≡ Err (Bad left kind) = sym (letters_full b rest) ∙ e in
    let len : left ≡ suc (length rest) = cc in
    let kinds : NameTooLong ≡ kind = cc in
    record { front = []; byte = b; back = rest; parts = refl; full = refl; whole = refl; left_is = len; same = kinds }
letters_bad (suc most) (suc b ∷ rest) left kind e =
    elim (bind_err (letters_at most rest) (letter_and (suc b)) (Bad left kind) (sym (letters_more most b rest) ∙ e)) as
    (λ w. TooMany (suc most) (suc b ∷ rest) left kind) [
      | inl h ↦
          let t = letters_bad most rest left kind h in
          record {
            front = suc b ∷ t.front;
            byte = t.byte;
            back = t.back;
            parts = ap (λ w. suc b ∷ w) t.parts;
            full = ap suc t.full;
            whole = exact_names_one_more b t.front t.whole;
            left_is = t.left_is;
            same = t.same;
          }
      | inr h ↦ absurd (cc h.2)
    ]

letters_over : (most : ℕ) (front : List ℕ) (b : ℕ) (more : List ℕ) → length front ≡ most → no_zero front ≡ true
    → letters_at most (front ++ suc b ∷ more) ≡ Err (Bad (suc (length more)) NameTooLong)
letters_over zero [] b more full whole = letters_full b more
letters_over (suc most) [] b more full whole = absurd (cc full)
letters_over most (zero ∷ front) b more full whole = absurd (cc whole)
letters_over zero (suc a ∷ front) b more full whole = absurd (cc full)
letters_over (suc most) (suc a ∷ front) b more full whole =
    let less : length front ≡ most = cc in
    letters_more most a (front ++ suc b ∷ more)
    ∙ ap (λ r. r >>= letter_and (suc a))
    (letters_over most front b more less (and_parts (nat_lt 0 (suc a)) (no_zero front) whole).1)

letters_open : (most : ℕ) (bytes : List ℕ) → letters_at most bytes ≡ Err Short → (length bytes ≤ most)
    × (no_zero bytes ≡ true)
letters_open most [] e = (omega arith, refl)
letters_open most (zero ∷ rest) e =
    let none : nothing_read rest ≡ Err Short = sym (letters_end most rest) ∙ e in
    absurd cc
letters_open zero (suc b ∷ rest) e =
    let is : Err (Bad (suc (length rest)) NameTooLong) ≡ Err Short = sym (letters_full b rest) ∙ e in
    absurd cc
letters_open (suc most) (suc b ∷ rest) e =
    elim (bind_err (letters_at most rest) (letter_and (suc b)) Short (sym (letters_more most b rest) ∙ e)) as
    (λ w. (length (suc b ∷ rest) ≤ suc most) × (no_zero (suc b ∷ rest) ≡ true)) [
      | inl h ↦
          let t = letters_open most rest h in
          (omega (arith, t.0), exact_names_one_more b rest t.1)
      | inr h ↦ absurd (cc h.2)
    ]

abbrev exact_names_checked : List ℕ × List ℕ → Result (List ℕ × List ℕ) ParseRefusal
exact_names_checked name = cond (eqb (length name.0) 0) (refuse EmptyName name.1) (Ok name)

name_is : (bytes : List ℕ) → name_at bytes ≡ (letters_at 1024 bytes >>= exact_names_checked)
unfolding name_at
name_is bytes = refl

no_name : Completes NameText []
no_name = record { more = 1 ∷ 0 ∷ []; bytes = refl; value = 1 ∷ []; whole = (refl, omega arith, omega arith, refl) }

exact_name_goes_on : (bytes : List ℕ) → length bytes ≤ 1024 → no_zero bytes ≡ true → Completes NameText bytes
exact_name_goes_on [] short whole = no_name
exact_name_goes_on (b ∷ bytes) short whole =
    record { more = 0 ∷ []; bytes = refl; value = b ∷ bytes; whole = (refl, omega arith, short, whole) }

name_stops : (bytes : List ℕ) (left : ℕ) (kind : FaultKind) → name_at bytes ≡ Err (Bad left kind)
    → ExactStopped NameText NamePlace bytes left kind
name_stops bytes left kind e =
    elim (bind_err (letters_at 1024 bytes) exact_names_checked (Bad left kind) (sym (name_is bytes) ∙ e)) as
    (λ w. ExactStopped NameText NamePlace bytes left kind) [
      | inl h ↦
          let t = letters_bad 1024 bytes left kind h in
          record {
            front = t.front;
            byte = suc t.byte;
            back = t.back;
            place = PastName;
            parts = t.parts;
            left_is = t.left_is;
            alive = exact_name_goes_on t.front (omega (arith, t.full)) t.whole;
            stands = inr (t.full, t.whole, refl);
            is_wrong = ap (λ b. cond b None (Some NameTooLong)) (nonzero t.byte) ∙ ap (λ k. Some k) t.same;
          }
      | inr h ↦ elim (steps_chosen (eqb (length h.0.0) 0) (refuse EmptyName h.0.1) (Ok h.0)
          (Err (Bad left kind)) h.2) as
          (λ w. ExactStopped NameText NamePlace bytes left kind) [
            | inl empty ↦
                let nothing : h.0.0 ≡ [] = nil_from_length h.0.0 (eqb-true (length h.0.0) 0 empty.0) in
                let whole : bytes ≡ 0 ∷ h.0.1 = (letters_take 1024 bytes h.0 h.1).0
                ∙ ap (λ w. w ++ 0 ∷ h.0.1) nothing in
                let len : left ≡ suc (length h.0.1) = cc empty.1 in
                let same : EmptyName ≡ kind = cc empty.1 in
                record {
                  front = [];
                  byte = 0;
                  back = h.0.1;
                  place = FirstLetter;
                  parts = whole;
                  left_is = len;
                  alive = no_name;
                  stands = inl (refl, refl);
                  is_wrong = ap (λ k. Some k) same;
                }
            | inr other ↦ absurd (cc other.1)
          ]
    ]

name_places : (front : List ℕ) (place : BytePlace) (byte : ℕ) (kind : FaultKind) (more : List ℕ) → NamePlace front place
    → wrong place byte ≡ Some kind → name_at (front ++ byte ∷ more) ≡ Err (Bad (suc (length more)) kind)
name_places front place byte kind more (inl h) w =
    elim (steps_chosen (byte == 0) (Some EmptyName) None (Some kind) (sym (ap (λ p. wrong p byte) h.1) ∙ w)) as
    (λ w. name_at (front ++ byte ∷ more) ≡ Err (Bad (suc (length more)) kind)) [
      | inl is ↦
          let same : EmptyName ≡ kind = cc is.1 in
          let whole : front ++ byte ∷ more ≡ 0 ∷ more = ap (λ w. w ++ byte ∷ more) h.0
          ∙ ap (λ b. b ∷ more) (eqb-true byte 0 is.0) in
          name_is (front ++ byte ∷ more) ∙ ap (λ w. letters_at 1024 w >>= exact_names_checked) whole
          ∙ ap (λ r. r >>= exact_names_checked) (letters_end 1024 more) ∙ ap (λ k. Err (Bad (suc (length more)) k)) same
      | inr other ↦ absurd (cc other.1)
    ]
name_places front place zero kind more (inr h) w =
    let none : None ≡ Some kind = sym (ap (λ p. wrong p 0) h.2) ∙ w in
    absurd cc
name_places front place (suc b) kind more (inr h) w =
    let is : Some NameTooLong ≡ Some kind = sym (ap (λ t. cond t None (Some NameTooLong)) (nonzero b))
    ∙ sym (ap (λ p. wrong p (suc b)) h.2) ∙ w in
    let same : NameTooLong ≡ kind = cc in
    name_is (front ++ suc b ∷ more) ∙ ap (λ r. r >>= exact_names_checked) (letters_over 1024 front b more h.0 h.1)
    ∙ ap (λ k. Err (Bad (suc (length more)) k)) same

name_complete : (bytes : List ℕ) → name_at bytes ≡ Err Short → Completes NameText bytes
name_complete bytes e = elim (bind_err (letters_at 1024 bytes) exact_names_checked Short (sym (name_is bytes) ∙ e)) as
    (λ w. Completes NameText bytes) [
      | inl h ↦
          let t = letters_open 1024 bytes h in
          exact_name_goes_on bytes t.0 t.1
      | inr h ↦ elim (steps_chosen (eqb (length h.0.0) 0) (refuse EmptyName h.0.1) (Ok h.0) (Err Short) h.2) as
          (λ w. Completes NameText bytes) [
            | inl empty ↦ absurd (cc empty.1)
            | inr other ↦ absurd (cc other.1)
          ]
    ]

pub name_exact : ExactReader name_at NameText NamePlace
name_exact = record {
  begins = no_name;
  takes = λ bytes x fits e.
      let t = name_takes bytes x e in
      record {
        text = x.0 ++ 0 ∷ [];
        parts = t.0.0 ∙ sym (append_assoc x.0 (0 ∷ []) x.1);
        spelled = (refl, t.1, t.0.1, t.0.2);
      };
  again = λ text name rest h. ap (λ w. name_at (w ++ rest)) h.0 ∙ ap name_at (append_assoc name (0 ∷ []) rest)
      ∙ name_again name rest h.1 h.2 h.3;
  stops = λ bytes left kind fits e. name_stops bytes left kind e;
  places = name_places;
  completes = λ bytes fits e. name_complete bytes e;
}
