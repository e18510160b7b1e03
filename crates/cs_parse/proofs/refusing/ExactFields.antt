-- The faults of fields and records are exact.
use Rattle.std.proofs.Common.{◌≡◌, ℕ, suc, inl, inr, true, List, [], ◌∷◌, ◌++◌, length, Option, Some, None, Result, Ok}
use Rattle.std.proofs.Common.{Err, refl, sym, ap, subst, ◌∙◌}
use Rattle.cs_model.specs.declared.value.Field.{Field}
use Rattle.cs_model.specs.declared.value.Field.TheVariants.{Undefined, Is}
use Rattle.cs_model.specs.Rule.{Rule, Key, Given, Open, Blank, PairedWith, meets}
use Rattle.cs_model.specs.Changeset.{IsField, Obeys}
use Rattle.cs_model.specs.Text.{SpellsField, SpellsEach}
use Rattle.cs_parse.specs.declared.fault.FaultKind.{FaultKind}
use Rattle.cs_parse.specs.Place.{BytePlace, AtType, type_refusal, wrong}
use Rattle.cs_parse.specs.Stands.{InField, InRecord}
use Rattle.cs_parse.specs.declared.stop.ParseRefusal.{ParseRefusal}
use Rattle.cs_parse.specs.declared.stop.ParseRefusal.TheVariants.{Short, Bad}
use Rattle.cs_parse.specs.Reading.{◌>>=◌, typed_at, unless_refused, field_at, record_at}
use Rattle.cs_parse.proofs.reading.Steps.{Takes, done, ok_is, unless_ok}
use Rattle.cs_parse.proofs.reading.FieldLaws.{type_byte, not_refused, follows, typed_again}
use Rattle.cs_parse.proofs.refusing.Exact.{Completes, ExactStopped, ExactReader, Nowhere, ExactNothing, SeqText}
use Rattle.cs_parse.proofs.refusing.Exact.{SeqPlace, seq, stopped_here, seq_exact, pure_exact, mapped_exact}
use Rattle.cs_parse.proofs.refusing.Exact.{renamed, same_reader}
use Rattle.cs_parse.proofs.refusing.ExactValues.{TypedText, TypedPlace, byte_is, typed_exact}

-- ---- a type byte

abbrev byte_read : ℕ → List ℕ → Result (ℕ × List ℕ) ParseRefusal
byte_read byte rest = Ok (byte, rest)

type_at : Rule → List ℕ → Result (ℕ × List ℕ) ParseRefusal
type_at rule [] = Err Short
type_at rule (byte ∷ rest) = unless_refused (type_refusal rule byte) rest (byte_read byte rest)

abbrev TypeText : Rule → List ℕ → ℕ → Type 0
TypeText rule text byte = (text ≡ byte ∷ []) × (type_refusal rule byte ≡ None)

abbrev TypePlace : Rule → List ℕ → BytePlace → Type 0
TypePlace rule front place = (front ≡ []) × (place ≡ AtType rule)

some_type : (rule : Rule) → Completes (TypeText rule) []
some_type Key = record { more = 1 ∷ []; bytes = refl; value = 1; whole = (refl, refl) }
some_type Given = record { more = 5 ∷ []; bytes = refl; value = 5; whole = (refl, refl) }
some_type Open = record { more = 5 ∷ []; bytes = refl; value = 5; whole = (refl, refl) }
some_type Blank = record { more = 0 ∷ []; bytes = refl; value = 0; whole = (refl, refl) }
some_type (PairedWith Undefined) = record { more = 0 ∷ []; bytes = refl; value = 0; whole = (refl, refl) }
some_type (PairedWith (Is value)) = record { more = 5 ∷ []; bytes = refl; value = 5; whole = (refl, refl) }

-- a type byte is refused, or taken
refused_or : (o : Option FaultKind) (byte : ℕ) (rest : List ℕ) (e : ParseRefusal)
    → unless_refused o rest (byte_read byte rest) ≡ Err e → (kind : FaultKind) × (o ≡ Some kind)
    × (e ≡ Bad (suc (length rest)) kind)
refused_or None byte rest e h = absurd (cc h)
refused_or (Some kind) byte rest e h =
    let same : e ≡ Bad (suc (length rest)) kind = cc in
    (kind, refl, same)

type_stops : (rule : Rule) (bytes : List ℕ) (left : ℕ) (kind : FaultKind) → type_at rule bytes ≡ Err (Bad left kind)
    → ExactStopped (TypeText rule) (TypePlace rule) bytes left kind
unfolding type_at
type_stops rule [] left kind e = absurd (cc e)
type_stops rule (byte ∷ rest) left kind e =
    let r = refused_or (type_refusal rule byte) byte rest (Bad left kind) e in
    let is = r.2 in
    let len : left ≡ suc (length rest) = cc in
    let same : r.0 ≡ kind = cc in
    stopped_here [] byte rest left kind (AtType rule) len (some_type rule) (refl, refl) (r.1 ∙ ap (λ k. Some k) same)

type_completes : (rule : Rule) (bytes : List ℕ) → type_at rule bytes ≡ Err Short → Completes (TypeText rule) bytes
unfolding type_at
type_completes rule [] e = some_type rule
type_completes rule (byte ∷ rest) e =
    let is = (refused_or (type_refusal rule byte) byte rest Short e).2 in
    absurd cc

type_takes : (rule : Rule) (bytes : List ℕ) (x : ℕ × List ℕ) → type_at rule bytes ≡ Ok x → Takes (TypeText rule) bytes x
unfolding type_at
type_takes rule [] x e = absurd (cc e)
type_takes rule (byte ∷ rest) x e =
    let u = unless_ok (type_refusal rule byte) rest (byte_read byte rest) x e in
    subst (λ (y : ℕ × List ℕ). Takes (TypeText rule) (byte ∷ rest) y) (ok_is (byte, rest) x u.1)
    (record { text = byte ∷ []; parts = refl; spelled = (refl, u.0) })

type_again : (rule : Rule) (byte : ℕ) (rest : List ℕ) → type_refusal rule byte ≡ None → type_at rule (byte ∷ rest)
    ≡ Ok (byte, rest)
unfolding type_at
type_again rule byte rest none = ap (λ o. unless_refused o rest (byte_read byte rest)) none

type_places : (rule : Rule) (byte : ℕ) (kind : FaultKind) (more : List ℕ) → type_refusal rule byte ≡ Some kind
    → type_at rule (byte ∷ more) ≡ Err (Bad (suc (length more)) kind)
unfolding type_at
type_places rule byte kind more is = ap (λ o. unless_refused o more (byte_read byte more)) is

type_exact : (rule : Rule) → ExactReader (type_at rule) (TypeText rule) (TypePlace rule)
type_exact rule = record {
  begins = some_type rule;
  takes = λ bytes x fits e. type_takes rule bytes x e;
  again = λ text byte rest h. ap (λ w. type_at rule (w ++ rest)) h.0 ∙ type_again rule byte rest h.1;
  stops = λ bytes left kind fits e. type_stops rule bytes left kind e;
  places = λ front place byte kind more h w. ap (λ f. type_at rule (f ++ byte ∷ more)) h.0
      ∙ type_places rule byte kind more (sym (ap (λ p. wrong p byte) h.1) ∙ w);
  completes = λ bytes fits e. type_completes rule bytes e;
}

-- ---- fields

abbrev pub ExactFieldsFieldText : Rule → List ℕ → Field → Type 0
ExactFieldsFieldText rule text field = SpellsField text field × IsField field × (meets rule field ≡ true)

through : (o : Option FaultKind) (byte : ℕ) (rest : List ℕ) (next : ℕ → List ℕ → Result (Field × List ℕ) ParseRefusal)
    → unless_refused o rest (next byte rest) ≡ (unless_refused o rest (byte_read byte rest) >>= λ x. next x.0 x.1)
through None byte rest next = refl
through (Some kind) byte rest next = refl

field_is : (rule : Rule) (bytes : List ℕ) → field_at rule bytes ≡ seq (type_at rule) typed_at bytes
unfolding field_at type_at
field_is rule [] = refl
field_is rule (byte ∷ rest) = through (type_refusal rule byte) byte rest typed_at

field_to : (rule : Rule) (text : List ℕ) (field : Field) → SeqText (TypeText rule) TypedText text field
    → ExactFieldsFieldText rule text field
field_to rule text field (byte, first, back, parts, t, h) =
    let whole : text ≡ byte ∷ back = parts ∙ ap (λ w. w ++ back) t.0 in
    let none : type_refusal rule (type_byte field) ≡ None = sym (ap (type_refusal rule) (byte_is byte back field h.0))
    ∙ t.1 in
    (subst (λ w. SpellsField w field) (sym whole) h.0, h.1, follows rule field none)

field_from : (rule : Rule) (text : List ℕ) (field : Field) → ExactFieldsFieldText rule text field
    → SeqText (TypeText rule) TypedText text field
field_from rule text field h =
    let t = typed_again field text [] h.0 h.1 in (
      type_byte field,
      type_byte field ∷ [],
      t.0,
      t.1,
      (refl, not_refused rule field h.2),
      (subst (λ w. SpellsField w field) t.1 h.0, h.1),
    )

field_place_to : (rule : Rule) (front : List ℕ) (place : BytePlace)
    → SeqPlace (TypeText rule) (TypePlace rule) TypedPlace front place → InField rule front place
field_place_to rule front place (inl h) = inl h
field_place_to rule front place (inr (kind, first, digits, parts, t, h)) =
    inr (record {
      kind = kind;
      digits = digits;
      left = h.1.0;
      high = h.1.1;
      parts = parts ∙ ap (λ w. w ++ digits) t.0;
      counted = h.0;
      taken = t.1;
      unfinished = h.1.2;
      stands = h.1.3;
    })

field_place_from : (rule : Rule) (front : List ℕ) (place : BytePlace) → InField rule front place
    → SeqPlace (TypeText rule) (TypePlace rule) TypedPlace front place
field_place_from rule front place (inl h) = inl h
field_place_from rule front place (inr h) =
    inr (h.kind, h.kind ∷ [], h.digits, h.parts, (refl, h.taken), (h.counted, (h.left, h.high, h.unfinished, h.stands)))

pub field_exact : (rule : Rule) → ExactReader (field_at rule) (ExactFieldsFieldText rule) (InField rule)
field_exact rule =
    same_reader (seq (type_at rule) typed_at) (field_at rule) (ExactFieldsFieldText rule) (InField rule) (field_is rule)
    (renamed (seq (type_at rule) typed_at) (SeqText (TypeText rule) TypedText) (ExactFieldsFieldText rule)
    (SeqPlace (TypeText rule) (TypePlace rule) TypedPlace) (InField rule)
    (record {
      text_to = field_to rule;
      text_from = field_from rule;
      place_to = field_place_to rule;
      place_from = field_place_from rule;
    })
    (seq_exact (type_at rule) typed_at (TypeText rule) TypedText (TypePlace rule) TypedPlace (type_exact rule)
    (λ text byte h. typed_exact rule byte h.1)))

-- ---- records

abbrev pub RecordText : List Rule → List ℕ → List Field → Type 0
RecordText rules text fields = SpellsEach SpellsField text fields × Obeys rules fields

abbrev and_others : Field → List ℕ → List Rule → Result (List Field × List ℕ) ParseRefusal
and_others field bytes rules = record_at rules bytes >>= λ fields. done (field ∷ fields.0, fields.1)

abbrev OthersText : List Rule → Field → List ℕ → List Field → Type 0
OthersText rules field text fields = (others : List Field) × RecordText rules text others × (fields ≡ field ∷ others)

record_to : (rule : Rule) (rules : List Rule) (text : List ℕ) (fields : List Field)
    → SeqText (ExactFieldsFieldText rule) (OthersText rules) text fields → RecordText (rule ∷ rules) text fields
record_to rule rules text fields (field, front, back, parts, f, (others, h, is)) =
    subst (λ fs. RecordText (rule ∷ rules) text fs) (sym is) ((front, back, parts, f.0, h.0), (f.1, f.2, h.1))

record_from : (rule : Rule) (rules : List Rule) (text : List ℕ) (fields : List Field)
    → RecordText (rule ∷ rules) text fields → SeqText (ExactFieldsFieldText rule) (OthersText rules) text fields
record_from rule rules text [] h = absurd h.1
record_from rule rules text (field ∷ fields) h =
    (field, h.0.0, h.0.1, h.0.2, (h.0.3, h.1.0, h.1.1), (fields, (h.0.4, h.1.2), refl))

record_place_to : (rule : Rule) (rules : List Rule) (front : List ℕ) (place : BytePlace)
    → SeqPlace (ExactFieldsFieldText rule) (InField rule) (λ field. InRecord rules) front place
    → InRecord (rule ∷ rules) front place
record_place_to rule rules front place (inl h) = inl h
record_place_to rule rules front place (inr (field, text, back, parts, f, h)) =
    inr (text, field, back, parts, f.0, f.1, f.2, h)

record_place_from : (rule : Rule) (rules : List Rule) (front : List ℕ) (place : BytePlace)
    → InRecord (rule ∷ rules) front place
    → SeqPlace (ExactFieldsFieldText rule) (InField rule) (λ field. InRecord rules) front place
record_place_from rule rules front place (inl h) = inl h
record_place_from rule rules front place (inr (text, field, back, parts, spelled, valid, meets, h)) =
    inr (field, text, back, parts, (spelled, valid, meets), h)

exact_fields_no_fields : (text : List ℕ) (fields : List Field) → RecordText [] text fields → ExactNothing [] text fields
exact_fields_no_fields text [] h = (h.0, refl)
exact_fields_no_fields text (field ∷ fields) h = absurd h.1

pub record_exact : (rules : List Rule) → ExactReader (record_at rules) (RecordText rules) (InRecord rules)
unfolding record_at
record_exact [] = renamed (λ bytes. done ([], bytes)) (ExactNothing []) (RecordText []) Nowhere (InRecord []) (record {
  text_to = λ text fields h. subst (λ fs. RecordText [] text fs) (sym h.1) (h.0, tt);
  text_from = exact_fields_no_fields;
  place_to = λ front place h. h;
  place_from = λ front place h. h;
}) (pure_exact [])
record_exact (rule ∷ rules) =
    renamed (seq (field_at rule) (λ field bytes. and_others field bytes rules))
    (SeqText (ExactFieldsFieldText rule) (OthersText rules)) (RecordText (rule ∷ rules))
    (SeqPlace (ExactFieldsFieldText rule) (InField rule) (λ field. InRecord rules)) (InRecord (rule ∷ rules))
    (record {
      text_to = record_to rule rules;
      text_from = record_from rule rules;
      place_to = record_place_to rule rules;
      place_from = record_place_from rule rules;
    })
    (seq_exact (field_at rule) (λ field bytes. and_others field bytes rules) (ExactFieldsFieldText rule)
    (OthersText rules) (InField rule) (λ field. InRecord rules) (field_exact rule)
    (λ text field h. mapped_exact (λ fields. field ∷ fields) (record_at rules) (RecordText rules) (InRecord rules)
    (record_exact rules)))
