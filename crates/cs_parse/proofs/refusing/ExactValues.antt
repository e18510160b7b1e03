-- The faults of values are exact.
use Rattle.std.proofs.Common.{◌≡◌, ℕ, ℤ, zero, suc, ◌-◌, ◌<◌, ◌≤◌, ◌⊎◌, inl, inr, true, false, cond, ltb, eqb, List, []}
use Rattle.std.proofs.Common.{◌∷◌, ◌++◌, length, take, drop, replicate, Some, None, Result, Ok, Err, refl, sym, ap}
use Rattle.std.proofs.Common.{subst, ◌∙◌, arith, FitsSigned}
use Rattle.std.specs.Int.{w64, from_be_bytes, cast_signed}
use Rattle.std.proofs.lemmas.Bool.{ltb-true, ltb-false, le-ltb, lt-ltb, cases_lt}
use Rattle.std.proofs.lemmas.List.{take_at, drop_at, drop_all, take-append-drop, append-nil, length-append, length-take}
use Rattle.std.proofs.lemmas.List.{length-replicate}
use Rattle.cs_model.specs.declared.value.Value.TheVariants.{Integer, Text, Blob, Null}
use Rattle.cs_model.specs.declared.value.Field.{Field}
use Rattle.cs_model.specs.declared.value.Field.TheVariants.{Undefined, Is}
use Rattle.cs_model.specs.Rule.{Rule}
use Rattle.cs_model.specs.Changeset.{IsField}
use Rattle.cs_model.specs.Text.{SpellsBytes, SpellsField}
use Rattle.cs_model.specs.Varint.{IsVarint}
use Rattle.cs_parse.specs.declared.fault.FaultKind.TheVariants.{BadType, Real}
use Rattle.cs_parse.specs.Place.{BytePlace, InLength, rule_refusal, type_refusal}
use Rattle.cs_parse.proofs.reading.Steps.{steps_are_bytes, bytes_from, bytes_to}
use Rattle.cs_parse.specs.declared.stop.ParseRefusal.{ParseRefusal}
use Rattle.cs_parse.specs.declared.stop.ParseRefusal.TheVariants.{Short, Bad}
use Rattle.cs_parse.specs.Reading.{◌>>=◌, length_at, integer_at, counted_at, typed_at}
use Rattle.cs_model.specs.Bytes.{AreBytes}
use Rattle.cs_parse.proofs.reading.Steps.{Takes, done, ok_is, guard_ok, steps_chosen}
use Rattle.cs_parse.proofs.reading.NumberLaws.{SpellsInteger, integer_takes, integer_again}
use Rattle.cs_parse.proofs.reading.FieldLaws.{type_byte}
use Rattle.cs_parse.proofs.refusing.Exact.{Completes, ExactStopped, ExactReader, Nowhere, ExactNothing, SeqText}
use Rattle.cs_parse.proofs.refusing.Exact.{SeqPlace, seq, are_bytes-append, seq_exact, pure_exact, mapped_exact}
use Rattle.cs_parse.proofs.refusing.Exact.{renamed}
use Rattle.cs_parse.proofs.refusing.ExactNumbers.{NumberText, Digits, length_exact}

-- ---- bytes

all_zero : (n : ℕ) → steps_are_bytes (replicate n 0)
all_zero zero = refl
all_zero (suc n) = all_zero n

-- zeros up to so many bytes
exact_values_filled : (n : ℕ) (bytes : List ℕ) → length bytes < n → length (bytes ++ replicate (n - length bytes) 0) ≡ n
exact_values_filled n bytes less =
    let zeros : length (replicate (n - length bytes) 0) ≡ n - length bytes =
    length-replicate {A = ℕ} (n - length bytes) 0 in
    omega (arith, length-append bytes (replicate (n - length bytes) 0), zeros)

-- ---- so many bytes

abbrev taken : ℕ → List ℕ → Result (List ℕ × List ℕ) ParseRefusal
taken n bytes = cond (ltb (length bytes) n) (Err Short) (Ok (take n bytes, drop n bytes))

abbrev TakenText : ℕ → List ℕ → List ℕ → Type 0
TakenText n text bytes = (text ≡ bytes) × (length bytes ≡ n)

taken_goes_on : (n : ℕ) (bytes : List ℕ) → length bytes ≤ n → Completes (TakenText n) bytes
taken_goes_on n bytes short = elim (cases_lt (length bytes) n) as (λ w. Completes (TakenText n) bytes) [
  | inl less ↦ record {
    more = replicate (n - length bytes) 0;
    bytes = all_zero (n - length bytes);
    value = bytes
        ++ replicate (n - length bytes) 0;
    whole = (refl, exact_values_filled n bytes less);
  }
  | inr full ↦ record { more = []; bytes = refl; value = bytes; whole = (append-nil bytes, omega arith) }
]

taken_exact : (n : ℕ) → ExactReader (taken n) (TakenText n) Nowhere
taken_exact n = record {
  begins = taken_goes_on n [] (omega arith);
  takes = λ bytes x fits e.
      let g = guard_ok (ltb (length bytes) n) Short (Ok (take n bytes, drop n bytes)) x e in
      let long : n ≤ length bytes = ltb-false _ _ g.0 in
      let len : length (take n bytes) ≡ n = omega (arith, length-take n bytes) in
      subst (λ (y : List ℕ × List ℕ). Takes (TakenText n) bytes y) (ok_is (take n bytes, drop n bytes) x g.1)
      (record { text = take n bytes; parts = sym (take-append-drop n bytes); spelled = (refl, len) });
  again = λ text bytes rest h.
      let long : ltb (length (bytes ++ rest)) n ≡ false = le-ltb _ _ (omega (arith, length-append bytes rest, h.1)) in
      ap (λ w. taken n (w ++ rest)) h.0 ∙ rw (long, take_at bytes rest n h.1, drop_at bytes rest n h.1) refl;
  stops = λ bytes left kind fits e. elim
      (steps_chosen (ltb (length bytes) n) (Err Short) (Ok (take n bytes, drop n bytes)) (Err (Bad left kind)) e) as
      (λ w. ExactStopped (TakenText n) Nowhere bytes left kind) [
        | inl h ↦ absurd (cc h.1)
        | inr h ↦ absurd (cc h.1)
      ];
  places = λ front place byte kind more h w. absurd h;
  completes = λ bytes fits e. elim
      (steps_chosen (ltb (length bytes) n) (Err Short) (Ok (take n bytes, drop n bytes)) (Err Short) e) as
      (λ w. Completes (TakenText n) bytes) [
        | inl h ↦
            let less = ltb-true (length bytes) n h.0 in
            taken_goes_on n bytes (omega arith)
        | inr h ↦ absurd (cc h.1)
      ];
}

abbrev LengthText : List ℕ → ℕ → Type 0
LengthText = NumberText 0 16777216 8 0

abbrev pub InLengthDigits : List ℕ → BytePlace → Type 0
InLengthDigits = Digits 16777216 InLength 8 0

abbrev CountedText : List ℕ → List ℕ → Type 0
CountedText text bytes = SpellsBytes text bytes × (length bytes ≤ 16777216)

counted_exact : ExactReader counted_at CountedText InLengthDigits
unfolding counted_at
counted_exact =
    renamed (seq length_at taken) (SeqText LengthText TakenText) CountedText
    (SeqPlace LengthText InLengthDigits (λ n. Nowhere)) InLengthDigits (record {
      text_to = λ text bytes h.
          let whole : text ≡ h.1 ++ bytes = h.3 ∙ ap (λ w. h.1 ++ w) h.5.0 in (
            record { count = h.1; parts = whole; is_count = subst (λ n. IsVarint h.1 n) (sym h.5.1) h.4.0 },
            omega (arith, h.5.1, h.4.2),
          );
      text_from = λ text bytes h.
          (length bytes, h.0.count, bytes, h.0.parts, (h.0.is_count, omega arith, h.1), (refl, refl));
      place_to = λ front place h. elim h as (λ w. InLengthDigits front place) [ inl s ↦ s | inr k ↦ absurd k.5 ];
      place_from = λ front place h. inl h;
    }) (seq_exact length_at taken LengthText TakenText InLengthDigits (λ n. Nowhere) length_exact
    (λ text n h. taken_exact n))

-- ---- an INTEGER

abbrev IntegerText : List ℕ → ℤ → Type 0
IntegerText text n = SpellsInteger text n × FitsSigned w64 n

integer_goes_on : (bytes : List ℕ) → AreBytes bytes → length bytes < 8 → Completes IntegerText bytes
unfolding integer_at
integer_goes_on bytes fits less =
    let zeros = replicate (8 - length bytes) 0 in
    let whole = bytes ++ zeros in
    let len = exact_values_filled 8 bytes less in
    let all = bytes_from whole (are_bytes-append bytes zeros (bytes_to bytes fits) (all_zero (8 - length bytes))) in
    let n = cast_signed w64 (from_be_bytes w64 (take 8 whole)) in
    let read : integer_at whole ≡ Ok (n, drop 8 whole) =
    ap (λ b. cond b (Err Short) (Ok (n, drop 8 whole))) (le-ltb (length whole) 8 (omega (arith, len))) in
    let t = integer_takes whole (n, drop 8 whole) all read in
    let nothing : drop 8 whole ≡ [] = drop_all 8 whole (omega (arith, len)) in
    let same : t.0.text ≡ whole = sym (t.0.parts ∙ ap (λ w. t.0.text ++ w) nothing ∙ append-nil t.0.text) in
    record {
      more = zeros;
      bytes = all_zero (8 - length bytes);
      value = n;
      whole = (subst (λ w. SpellsInteger w n) same t.0.spelled, t.1);
    }

integer_fails : (bytes : List ℕ) (e : ParseRefusal) → integer_at bytes ≡ Err e → (length bytes < 8) × (e ≡ Short)
unfolding integer_at
integer_fails bytes e h =
    elim (steps_chosen (ltb (length bytes) 8) (Err Short)
    (Ok (cast_signed w64 (from_be_bytes w64 (take 8 bytes)), drop 8 bytes)) (Err e) h) as
    (λ w. (length bytes < 8) × (e ≡ Short)) [
      | inl k ↦
          let same : e ≡ Short = cc k.1 in
          (ltb-true (length bytes) 8 k.0, same)
      | inr k ↦ absurd (cc k.1)
    ]

integer_exact : ExactReader integer_at IntegerText Nowhere
integer_exact = record {
  begins = integer_goes_on [] (bytes_from [] refl) (omega arith);
  takes = λ bytes x fits e.
      let t = integer_takes bytes x fits e in
      record { text = t.0.text; parts = t.0.parts; spelled = (t.0.spelled, t.1) };
  again = λ text n rest h. ap (λ w. integer_at (w ++ rest)) h.0 ∙ integer_again n rest h.1;
  stops = λ bytes left kind fits e.
      let other = (integer_fails bytes (Bad left kind) e).1 in
      absurd cc;
  places = λ front place byte kind more h w. absurd h;
  completes = λ bytes fits e. integer_goes_on bytes fits (integer_fails bytes Short e).0;
}

-- ---- a field behind its type byte

abbrev pub TypedText : ℕ → List ℕ → Field → Type 0
TypedText byte text field = SpellsField (byte ∷ text) field × IsField field

abbrev pub TypedPlace : ℕ → List ℕ → BytePlace → Type 0
TypedPlace byte front place = ((byte ≡ 3) ⊎ (byte ≡ 4)) × InLengthDigits front place

pub byte_is : (byte : ℕ) (text : List ℕ) (field : Field) → SpellsField (byte ∷ text) field → byte ≡ type_byte field
byte_is byte text Undefined h = cc
byte_is byte text (Is (Integer n)) h = cc
byte_is byte text (Is (Text bytes)) h = cc h.1
byte_is byte text (Is (Blob bytes)) h = cc h.1
byte_is byte text (Is Null) h = cc

no_length : (byte : ℕ) (front : List ℕ) (place : BytePlace) → (byte ≡ 3 → ⊥) → (byte ≡ 4 → ⊥)
    → TypedPlace byte front place → ⊥
no_length byte front place not_text not_blob (inl e, h) = not_text e
no_length byte front place not_text not_blob (inr e, h) = not_blob e

undefined_is : (text : List ℕ) (field : Field) → TypedText 0 text field → ExactNothing Undefined text field
undefined_is text Undefined h =
    let spelled = h.0 in
    (cc, refl)
undefined_is text (Is (Integer n)) h = absurd (cc (byte_is 0 text (Is (Integer n)) h.0))
undefined_is text (Is (Text bytes)) h = absurd (cc (byte_is 0 text (Is (Text bytes)) h.0))
undefined_is text (Is (Blob bytes)) h = absurd (cc (byte_is 0 text (Is (Blob bytes)) h.0))
undefined_is text (Is Null) h = absurd (cc (byte_is 0 text (Is Null) h.0))

null_is : (text : List ℕ) (field : Field) → TypedText 5 text field → ExactNothing (Is Null) text field
null_is text Undefined h = absurd (cc (byte_is 5 text Undefined h.0))
null_is text (Is (Integer n)) h = absurd (cc (byte_is 5 text (Is (Integer n)) h.0))
null_is text (Is (Text bytes)) h = absurd (cc (byte_is 5 text (Is (Text bytes)) h.0))
null_is text (Is (Blob bytes)) h = absurd (cc (byte_is 5 text (Is (Blob bytes)) h.0))
null_is text (Is Null) h =
    let spelled = h.0 in
    (cc, refl)

integer_is : (text : List ℕ) (field : Field) → TypedText 1 text field → (n : ℤ) × IntegerText text n
    × (field ≡ Is (Integer n))
integer_is text Undefined h = absurd (cc (byte_is 1 text Undefined h.0))
integer_is text (Is (Integer n)) h =
    let spelled = h.0 in
    (n, (cc, h.1), refl)
integer_is text (Is (Text bytes)) h = absurd (cc (byte_is 1 text (Is (Text bytes)) h.0))
integer_is text (Is (Blob bytes)) h = absurd (cc (byte_is 1 text (Is (Blob bytes)) h.0))
integer_is text (Is Null) h = absurd (cc (byte_is 1 text (Is Null) h.0))

behind_kind : (kind : ℕ) (text rest bytes : List ℕ) → ◌≡◌ {A = List ℕ} (kind ∷ text) (kind ∷ rest)
    → SpellsBytes rest bytes → SpellsBytes text bytes
behind_kind kind text rest bytes e h =
    let same : rest ≡ text = cc in
    subst (λ w. SpellsBytes w bytes) same h

text_is : (text : List ℕ) (field : Field) → TypedText 3 text field → (bytes : List ℕ) × CountedText text bytes
    × (field ≡ Is (Text bytes))
text_is text Undefined h = absurd (cc (byte_is 3 text Undefined h.0))
text_is text (Is (Integer n)) h = absurd (cc (byte_is 3 text (Is (Integer n)) h.0))
text_is text (Is (Text bytes)) h = (bytes, (behind_kind 3 text h.0.0 bytes h.0.1 h.0.2, h.1), refl)
text_is text (Is (Blob bytes)) h = absurd (cc (byte_is 3 text (Is (Blob bytes)) h.0))
text_is text (Is Null) h = absurd (cc (byte_is 3 text (Is Null) h.0))

blob_is : (text : List ℕ) (field : Field) → TypedText 4 text field → (bytes : List ℕ) × CountedText text bytes
    × (field ≡ Is (Blob bytes))
blob_is text Undefined h = absurd (cc (byte_is 4 text Undefined h.0))
blob_is text (Is (Integer n)) h = absurd (cc (byte_is 4 text (Is (Integer n)) h.0))
blob_is text (Is (Text bytes)) h = absurd (cc (byte_is 4 text (Is (Text bytes)) h.0))
blob_is text (Is (Blob bytes)) h = (bytes, (behind_kind 4 text h.0.0 bytes h.0.1 h.0.2, h.1), refl)
blob_is text (Is Null) h = absurd (cc (byte_is 4 text (Is Null) h.0))

undefined_exact : ExactReader (typed_at 0) (TypedText 0) (TypedPlace 0)
unfolding typed_at
undefined_exact = renamed (λ bytes. done (Undefined, bytes)) (ExactNothing Undefined) (TypedText 0) Nowhere
    (TypedPlace 0) (record {
      text_to = λ text field h. subst (λ f. TypedText 0 text f) (sym h.1) (ap (λ w. 0 ∷ w) h.0, tt);
      text_from = undefined_is;
      place_to = λ front place h. absurd h;
      place_from = λ front place h. absurd (no_length 0 front place (λ e. absurd cc) (λ e. absurd cc) h);
    }) (pure_exact Undefined)

null_exact : ExactReader (typed_at 5) (TypedText 5) (TypedPlace 5)
unfolding typed_at
null_exact = renamed (λ bytes. done (Is Null, bytes)) (ExactNothing (Is Null)) (TypedText 5) Nowhere (TypedPlace 5)
    (record {
      text_to = λ text field h. subst (λ f. TypedText 5 text f) (sym h.1) (ap (λ w. 5 ∷ w) h.0, tt);
      text_from = null_is;
      place_to = λ front place h. absurd h;
      place_from = λ front place h. absurd (no_length 5 front place (λ e. absurd cc) (λ e. absurd cc) h);
    }) (pure_exact (Is Null))

number_exact : ExactReader (typed_at 1) (TypedText 1) (TypedPlace 1)
unfolding typed_at
number_exact = renamed (λ bytes. integer_at bytes >>= λ x. done (Is (Integer x.0), x.1))
    (λ text field. (n : ℤ) × IntegerText text n × (field ≡ Is (Integer n))) (TypedText 1) Nowhere (TypedPlace 1)
    (record {
      text_to = λ text field h. subst (λ f. TypedText 1 text f) (sym h.2) (ap (λ w. 1 ∷ w) h.1.0, h.1.1);
      text_from = integer_is;
      place_to = λ front place h. absurd h;
      place_from = λ front place h. absurd (no_length 1 front place (λ e. absurd cc) (λ e. absurd cc) h);
    }) (mapped_exact (λ n. Is (Integer n)) integer_at IntegerText Nowhere integer_exact)

-- a length and so many bytes behind a type byte
counted_kind : (kind : ℕ) (made : List ℕ → Field) → (kind ≡ 3) ⊎ (kind ≡ 4)
    → ((text bytes : List ℕ) → CountedText text bytes → TypedText kind text (made bytes))
    → ((text : List ℕ) (field : Field) → TypedText kind text field → (bytes : List ℕ) × CountedText text bytes
    × (field ≡ made bytes))
    → ExactReader (λ bytes. counted_at bytes >>= λ x. done (made x.0, x.1)) (TypedText kind) (TypedPlace kind)
counted_kind kind made is to from = renamed (λ bytes. counted_at bytes >>= λ x. done (made x.0, x.1))
    (λ text field. (bytes : List ℕ) × CountedText text bytes × (field ≡ made bytes)) (TypedText kind) InLengthDigits
    (TypedPlace kind) (record {
      text_to = λ text field h. subst (λ f. TypedText kind text f) (sym h.2) (to text h.0 h.1);
      text_from = from;
      place_to = λ front place h. (is, h);
      place_from = λ front place h. h.1;
    }) (mapped_exact made counted_at CountedText InLengthDigits counted_exact)

text_exact : ExactReader (typed_at 3) (TypedText 3) (TypedPlace 3)
unfolding typed_at
text_exact = counted_kind 3 (λ bytes. Is (Text bytes)) (inl refl) (λ text bytes h. ((text, refl, h.0), h.1)) text_is

blob_exact : ExactReader (typed_at 4) (TypedText 4) (TypedPlace 4)
unfolding typed_at
blob_exact = counted_kind 4 (λ bytes. Is (Blob bytes)) (inr refl) (λ text bytes h. ((text, refl, h.0), h.1)) blob_is

large : (byte : ℕ) → ltb 5 (suc (suc (suc (suc (suc (suc byte)))))) ≡ true
large byte = lt-ltb 5 (suc (suc (suc (suc (suc (suc byte)))))) (omega arith)

pub typed_exact : (rule : Rule) (byte : ℕ) → type_refusal rule byte ≡ None
    → ExactReader (typed_at byte) (TypedText byte) (TypedPlace byte)
typed_exact rule zero none = undefined_exact
typed_exact rule (suc zero) none = number_exact
typed_exact rule (suc (suc zero)) none = absurd (cc none)
typed_exact rule (suc (suc (suc zero))) none = text_exact
typed_exact rule (suc (suc (suc (suc zero)))) none = blob_exact
typed_exact rule (suc (suc (suc (suc (suc zero))))) none = null_exact
typed_exact rule (suc (suc (suc (suc (suc (suc byte)))))) none =
    let b = suc (suc (suc (suc (suc (suc byte))))) in
    let refused : Some BadType ≡ None =
    sym (ap (λ t. cond t (Some BadType) (cond (eqb b 2) (Some Real) (rule_refusal rule b))) (large byte)) ∙ none in
    absurd cc
