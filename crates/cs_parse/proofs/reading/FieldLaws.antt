-- Fields and records: the bytes encode what is read, and every encoding is read.
use Rattle.std.proofs.Common.{◌≡◌, ℕ, ℤ, zero, suc, ◌≤◌, true, cond, eqb, ltb, Option, List, length, [], ◌∷◌, ◌++◌}
use Rattle.std.proofs.Common.{Some, None, is_none, Ok, refl, sym, ap, subst, ◌∙◌, append_assoc, arith}
use Rattle.std.proofs.lemmas.Bool.{lt-ltb}
use Rattle.cs_model.specs.declared.value.Value.TheVariants.{Integer, Text, Blob, Null}
use Rattle.cs_model.specs.declared.value.Field.{Field}
use Rattle.cs_model.specs.declared.value.Field.TheVariants.{Undefined, Is}
use Rattle.cs_model.specs.Rule.{Rule, Key, Given, Open, Blank, PairedWith, meets}
use Rattle.cs_model.specs.Changeset.{IsField, Obeys}
use Rattle.cs_model.specs.Text.{SpellsBytes, SpellsField, SpellsEach}
use Rattle.cs_parse.specs.declared.fault.FaultKind.TheVariants.{BadType, Real}
use Rattle.cs_parse.specs.Reading.{◌>>=◌, typed_at, unless_refused, field_at, record_at, integer_at, counted_at}
use Rattle.cs_parse.specs.Place.{rule_refusal, type_refusal}
use Rattle.cs_model.specs.Bytes.{AreBytes}
use Rattle.cs_parse.proofs.reading.Steps.{Takes, back_fits, bind_ok, done, ok_is, unless_ok}
use Rattle.cs_parse.proofs.reading.NumberLaws.{integer_takes, integer_again, counted_takes, counted_again}

-- the type byte of a field
abbrev pub type_byte : Field → ℕ
type_byte Undefined = 0
type_byte (Is (Integer number)) = 1
type_byte (Is (Text bytes)) = 3
type_byte (Is (Blob bytes)) = 4
type_byte (Is Null) = 5

by_type : (P : Field → Type 0) → P Undefined → ((number : ℤ) → P (Is (Integer number)))
    → ((bytes : List ℕ) → P (Is (Text bytes))) → ((bytes : List ℕ) → P (Is (Blob bytes))) → P (Is Null)
    → (field : Field) → P field
by_type P undefined integer text blob null Undefined = undefined
by_type P undefined integer text blob null (Is (Integer number)) = integer number
by_type P undefined integer text blob null (Is (Text bytes)) = text bytes
by_type P undefined integer text blob null (Is (Blob bytes)) = blob bytes
by_type P undefined integer text blob null (Is Null) = null

-- a type byte is refused exactly where the field wouldn't follow the rule
abbrev RefusedAsDue : Rule → Field → Type 0
RefusedAsDue rule field = meets rule field ≡ is_none (type_refusal rule (type_byte field))

refused_as_due : (rule : Rule) (field : Field) → RefusedAsDue rule field
refused_as_due Key = by_type (RefusedAsDue Key) refl (λ n. refl) (λ bytes. refl) (λ bytes. refl) refl
refused_as_due Given = by_type (RefusedAsDue Given) refl (λ n. refl) (λ bytes. refl) (λ bytes. refl) refl
refused_as_due Open = by_type (RefusedAsDue Open) refl (λ n. refl) (λ bytes. refl) (λ bytes. refl) refl
refused_as_due Blank = by_type (RefusedAsDue Blank) refl (λ n. refl) (λ bytes. refl) (λ bytes. refl) refl
refused_as_due (PairedWith Undefined) =
    by_type (RefusedAsDue (PairedWith Undefined)) refl (λ n. refl) (λ bytes. refl) (λ bytes. refl) refl
refused_as_due (PairedWith (Is old)) =
    by_type (RefusedAsDue (PairedWith (Is old))) refl (λ n. refl) (λ bytes. refl) (λ bytes. refl) refl

is_none_gives : {A : Type 0} (o : Option A) → is_none o ≡ true → o ≡ None
is_none_gives None h = refl
is_none_gives (Some x) h = absurd cc

pub not_refused : (rule : Rule) (field : Field) → meets rule field ≡ true → type_refusal rule (type_byte field) ≡ None
not_refused rule field h =
    is_none_gives (type_refusal rule (type_byte field)) (sym (refused_as_due rule field) ∙ h)

pub follows : (rule : Rule) (field : Field) → type_refusal rule (type_byte field) ≡ None → meets rule field ≡ true
follows rule field none = refused_as_due rule field ∙ ap is_none none

-- a field that follows its rule, and its spelling
abbrev FieldReads : Rule → List ℕ → Field × List ℕ → Type 0
FieldReads rule bytes x = Takes SpellsField bytes x × IsField x.0 × (meets rule x.0 ≡ true)

-- a length and so many bytes behind a type byte
counted_kind_takes : (rule : Rule) (kind : ℕ) (made : List ℕ → Field) (rest : List ℕ) (x : Field × List ℕ)
    → ((text bytes : List ℕ) → SpellsBytes text bytes → length bytes ≤ 16777216 → SpellsField (kind ∷ text) (made bytes)
    × IsField (made bytes))
    → ((bytes : List ℕ) → meets rule (made bytes) ≡ true)
    → (counted_at rest >>= λ bytes. Ok (made bytes.0, bytes.1)) ≡ Ok x → FieldReads rule (kind ∷ rest) x
counted_kind_takes rule kind made rest x spelled met e =
    let b = bind_ok (counted_at rest) (λ bytes. Ok (made bytes.0, bytes.1)) x e in
    let t = counted_takes rest b.0 b.1 in
    let is = spelled t.0.text b.0.0 t.0.spelled t.1 in
    subst (λ (y : Field × List ℕ). FieldReads rule (kind ∷ rest) y) (ok_is (made b.0.0, b.0.1) x b.2)
    (record { text = kind ∷ t.0.text; parts = ap (λ w. kind ∷ w) t.0.parts; spelled = is.0 }, is.1, met b.0.0)

pub typed_takes : (rule : Rule) (byte : ℕ) (rest : List ℕ) (x : Field × List ℕ) → AreBytes rest → type_refusal rule byte
    ≡ None → typed_at byte rest ≡ Ok x → FieldReads rule (byte ∷ rest) x
unfolding typed_at
typed_takes rule zero rest x fits none e =
    subst (λ (y : Field × List ℕ). FieldReads rule (0 ∷ rest) y) (ok_is (Undefined, rest) x e)
    (record { text = 0 ∷ []; parts = refl; spelled = refl }, tt, follows rule Undefined none)
typed_takes rule (suc zero) rest x fits none e =
    let b = bind_ok (integer_at rest) (λ number. Ok (Is (Integer number.0), number.1)) x e in
    let t = integer_takes rest b.0 fits b.1 in
    subst (λ (y : Field × List ℕ). FieldReads rule (1 ∷ rest) y) (ok_is (Is (Integer b.0.0), b.0.1) x b.2) (
      record { text = 1 ∷ t.0.text; parts = ap (λ w. 1 ∷ w) t.0.parts; spelled = ap (λ w. 1 ∷ w) t.0.spelled },
      t.1,
      follows rule (Is (Integer b.0.0)) none,
    )
typed_takes rule (suc (suc zero)) rest x fits none e = absurd cc
typed_takes rule (suc (suc (suc zero))) rest x fits none e =
    counted_kind_takes rule 3 (λ bytes. Is (Text bytes)) rest x (λ text bytes h long. ((text, refl, h), long))
    (λ bytes. follows rule (Is (Text bytes)) none) e
typed_takes rule (suc (suc (suc (suc zero)))) rest x fits none e =
    counted_kind_takes rule 4 (λ bytes. Is (Blob bytes)) rest x (λ text bytes h long. ((text, refl, h), long))
    (λ bytes. follows rule (Is (Blob bytes)) none) e
typed_takes rule (suc (suc (suc (suc (suc zero))))) rest x fits none e =
    subst (λ (y : Field × List ℕ). FieldReads rule (5 ∷ rest) y) (ok_is (Is Null, rest) x e)
    (record { text = 5 ∷ []; parts = refl; spelled = refl }, tt, follows rule (Is Null) none)
typed_takes rule (suc (suc (suc (suc (suc (suc byte)))))) rest x fits none e =
    let large : ltb 5 (suc (suc (suc (suc (suc (suc byte)))))) ≡ true =
    lt-ltb 5 (suc (suc (suc (suc (suc (suc byte)))))) (omega arith) in
    let refused : Some BadType ≡ None =
    sym (ap (λ b. cond b (Some BadType)
    (cond (eqb (suc (suc (suc (suc (suc (suc byte)))))) 2) (Some Real)
    (rule_refusal rule (suc (suc (suc (suc (suc (suc byte))))))))) large) ∙ none in
    absurd cc

pub field_takes : (rule : Rule) (bytes : List ℕ) (x : Field × List ℕ) → AreBytes bytes → field_at rule bytes ≡ Ok x
    → FieldReads rule bytes x
unfolding field_at
field_takes rule [] x fits e = absurd cc
field_takes rule (byte ∷ rest) x fits e =
    let u = unless_ok (type_refusal rule byte) rest (typed_at byte rest) x e in
    typed_takes rule byte rest x (λ i. fits (suc i)) u.0 u.1

field_by : (rule : Rule) (field : Field) (bytes rest : List ℕ) → meets rule field ≡ true
    → typed_at (type_byte field) bytes ≡ Ok (field, rest) → field_at rule (type_byte field ∷ bytes) ≡ Ok (field, rest)
unfolding field_at
field_by rule field bytes rest h read =
    ap (λ o. unless_refused o bytes (typed_at (type_byte field) bytes)) (not_refused rule field h) ∙ read

-- what stands behind the type byte
pub typed_again : (field : Field) (text rest : List ℕ) → SpellsField text field → IsField field → (back : List ℕ)
    × (text ≡ type_byte field ∷ back) × (typed_at (type_byte field) (back ++ rest) ≡ Ok (field, rest))
unfolding typed_at
typed_again Undefined text rest h valid = ([], h, refl)
typed_again (Is (Integer number)) text rest h valid =
    (_, h, ap (λ r. r >>= λ n. Ok (Is (Integer n.0), n.1)) (integer_again number rest valid))
typed_again (Is (Text bytes)) text rest h valid =
    (h.0, h.1, ap (λ r. r >>= λ b. Ok (Is (Text b.0), b.1)) (counted_again h.0 bytes rest h.2 valid))
typed_again (Is (Blob bytes)) text rest h valid =
    (h.0, h.1, ap (λ r. r >>= λ b. Ok (Is (Blob b.0), b.1)) (counted_again h.0 bytes rest h.2 valid))
typed_again (Is Null) text rest h valid = ([], h, refl)

pub field_again : (rule : Rule) (text : List ℕ) (field : Field) (rest : List ℕ) → SpellsField text field → IsField field
    → meets rule field ≡ true → field_at rule (text ++ rest) ≡ Ok (field, rest)
field_again rule text field rest h valid follows_it =
    let t = typed_again field text rest h valid in
    ap (λ w. field_at rule (w ++ rest)) t.1 ∙ field_by rule field (t.0 ++ rest) rest follows_it t.2

-- ---- records

pub record_takes : (rules : List Rule) (bytes : List ℕ) (x : List Field × List ℕ) → AreBytes bytes
    → record_at rules bytes ≡ Ok x → Takes (SpellsEach SpellsField) bytes x × Obeys rules x.0
unfolding record_at
record_takes [] bytes x fits e =
    subst (λ (y : List Field × List ℕ). Takes (SpellsEach SpellsField) bytes y × Obeys [] y.0) (ok_is ([], bytes) x e)
    (record { text = []; parts = refl; spelled = refl }, tt)
record_takes (rule ∷ rules) bytes x fits e =
    let a = bind_ok (field_at rule bytes)
    (λ field. record_at rules field.1 >>= λ fields. Ok (field.0 ∷ fields.0, fields.1)) x e in
    let b = bind_ok (record_at rules a.0.1) (λ fields. Ok (a.0.0 ∷ fields.0, fields.1)) x a.2 in
    let first = field_takes rule bytes a.0 fits a.1 in
    let others = record_takes rules a.0.1 b.0 (back_fits bytes first.0.text a.0.1 first.0.parts fits) b.1 in
    let whole : bytes ≡ (first.0.text ++ others.0.text) ++ b.0.1 =
    first.0.parts ∙ ap (λ w. first.0.text ++ w) others.0.parts
    ∙ sym (append_assoc first.0.text others.0.text b.0.1) in
    subst (λ (y : List Field × List ℕ). Takes (SpellsEach SpellsField) bytes y × Obeys (rule ∷ rules) y.0)
    (ok_is (a.0.0 ∷ b.0.0, b.0.1) x b.2) (
      record {
        text = first.0.text ++ others.0.text;
        parts = whole;
        spelled = (first.0.text, others.0.text, refl, first.0.spelled, others.0.spelled);
      },
      (first.1, first.2, others.1),
    )

pub record_again : (rules : List Rule) (text : List ℕ) (fields : List Field) (rest : List ℕ)
    → SpellsEach SpellsField text fields → Obeys rules fields → record_at rules (text ++ rest) ≡ Ok (fields, rest)
unfolding record_at
record_again [] text [] rest h valid = ap (λ w. done ([], w ++ rest)) h
record_again [] text (field ∷ fields) rest h valid = absurd valid
record_again (rule ∷ rules) text [] rest h valid = absurd valid
record_again (rule ∷ rules) text (field ∷ fields) rest h valid =
    let front = h.0 in
    let back = h.1 in
    let regrouped : text ++ rest ≡ front ++ (back ++ rest) = ap (λ w. w ++ rest) h.2 ∙ append_assoc front back rest in
    let first = field_again rule front field (back ++ rest) h.3 valid.0 valid.1 in
    let others = record_again rules back fields rest h.4 valid.2 in
    ap (record_at (rule ∷ rules)) regrouped
    ∙ ap (λ r. r >>= λ f. record_at rules f.1 >>= λ fs. done (f.0 ∷ fs.0, fs.1)) first
    ∙ ap (λ r. r >>= λ fs. done (field ∷ fs.0, fs.1)) others
