-- Bytes that are the canonical encoding of what is read from them, from a length up to a record.
use Rattle.std.proofs.Common.{◌≡◌, ℕ, ◌+◌, ◌*◌, ◌^◌, ◌<◌, Bool, List, [], ◌∷◌, ◌++◌, Option, Some, None, Result, Ok, Err}
use Rattle.std.proofs.Common.{refl, sym, ap, subst, ◌∙◌, append_assoc, arith}
use Rattle.std.specs.Prelude.{IfSome, IfOk, IsTrue, is_some}
use Rattle.cs_model.specs.Bytes.{AreBytes}
use Rattle.cs_model.specs.Varint.{IsVarint, varint}
use Rattle.cs_model.specs.FieldBytes.{field_bytes}
use Rattle.cs_model.specs.Packed.{packed}
use Rattle.cs_model.specs.Rule.{Rule}
use Rattle.cs_model.specs.declared.value.Value.TheVariants.{Integer, Text, Blob, Null}
use Rattle.cs_model.specs.declared.value.Field.{Field}
use Rattle.cs_model.specs.declared.value.Field.TheVariants.{Undefined, Is}
use Rattle.cs_model.proofs.spelling.VarintLemmas.{varint_one}
use Rattle.cs_parse.specs.declared.fault.FaultKind.{FaultKind}
use Rattle.cs_parse.specs.declared.fault.FaultKind.TheVariants.{ValueTooLong}
use Rattle.cs_parse.specs.declared.stop.ParseRefusal.{ParseRefusal}
use Rattle.cs_parse.specs.Canonical.{HasShortest, IsCanonical}
use Rattle.cs_parse.specs.Place.{type_refusal}
use Rattle.cs_parse.specs.Reading.{◌>>=◌, Reads, number_within, number_at, length_at, typed_at, field_at, record_at}
use Rattle.cs_parse.proofs.reading.Steps.{back_fits, bind_ok, done, ok_is}
use Rattle.cs_parse.proofs.reading.Numbers.{number_ends}
use Rattle.cs_parse.proofs.reading.NumberLaws.{within_again, number_takes, number_again}
use Rattle.cs_parse.proofs.reading.FieldLaws.{typed_takes}
use Rattle.cs_parse.proofs.counting.Skims.{record_more, fields_of}

-- ---- a length

-- a length of one byte
pub one_reads : (bytes : List ℕ) (byte n : ℕ) (rest : List ℕ) → bytes ≡ byte ∷ rest → byte < 128 → n ≡ byte
    → length_at bytes ≡ Ok (n, rest)
unfolding length_at
one_reads bytes byte n rest whole small same =
    let value : 128 * 0 + byte ≡ n = omega (arith, same) in
    ap (λ w. number_at 0 16777216 ValueTooLong 8 0 w) whole ∙ number_ends 0 16777216 ValueTooLong 7 0 byte rest small
    ∙ ap (λ k. number_within 0 16777216 ValueTooLong k rest) value
    ∙ within_again 0 16777216 ValueTooLong n rest (omega arith) (omega (arith, same))

pub one_shortest : (bytes : List ℕ) (byte n : ℕ) (rest : List ℕ) → bytes ≡ byte ∷ rest → byte < 128 → n ≡ byte → bytes
    ≡ varint n ++ rest
one_shortest bytes byte n rest whole small same =
    whole ∙ ap (λ w. w ++ rest) (varint_one byte small ∙ ap varint (sym same))

abbrev pub VarintSpelled : Type 0
VarintSpelled = (n : ℕ) → n < 2 ^ 64 → IsVarint (varint n) n

-- where bytes begin with the shortest spelling of the number that is read, it is what was read
number_shortest : VarintSpelled → (most : ℕ) (kind : FaultKind) (bytes : List ℕ) (n : ℕ) (rest behind : List ℕ) → most
    < 2 ^ 64 → number_at 0 most kind 8 0 bytes ≡ Ok (n, rest) → bytes ≡ varint n ++ behind → bytes ≡ varint n ++ rest
number_shortest law most kind bytes n rest behind small read begins =
    let t = number_takes 0 most kind 8 0 bytes (n, rest) read in
    let again = number_again 0 most kind 8 0 (varint n) n behind (law n (omega (arith, t.2))) (omega arith) t.2 in
    let same : (n, rest) ≡ (n, behind) =
    ok_is (n, rest) (n, behind) (sym read ∙ (ap (λ w. number_at 0 most kind 8 0 w) begins ∙ again)) in
    begins ∙ ap (λ w. varint n ++ w) (sym (ap (λ p. p.1) same))

-- the same, where a test tells it
pub length_tells : {X : Type 0} (o : Option X) (view : X → List ℕ) (flag : Bool) → VarintSpelled
    → (bytes : List ℕ) (n : ℕ) (rest : List ℕ) → number_at 0 16777216 ValueTooLong 8 0 bytes ≡ Ok (n, rest)
    → IfSome o (λ x. bytes ≡ varint n ++ view x) → flag ≡ is_some o → IsTrue flag → bytes ≡ varint n ++ rest
length_tells (Some x) view flag law bytes n rest read begins tells is =
    number_shortest law 16777216 ValueTooLong bytes n rest (view x) (omega arith) read begins
length_tells None view flag law bytes n rest read begins tells is = absurd (cc (sym tells ∙ is))

-- ---- a field

field_canonical : (rule : Rule) (byte : ℕ) (rest : List ℕ) (f : Field) (after : List ℕ) → AreBytes rest
    → type_refusal rule byte ≡ None → typed_at byte rest ≡ Ok (f, after) → HasShortest f rest after → byte ∷ rest
    ≡ field_bytes f ++ after
field_canonical rule byte rest Undefined after fits none read shortest =
    let t = (typed_takes rule byte rest (Undefined, after) fits none read).0 in
    t.parts ∙ ap (λ w. w ++ after) t.spelled
field_canonical rule byte rest (Is (Integer number)) after fits none read shortest =
    let t = (typed_takes rule byte rest (Is (Integer number), after) fits none read).0 in
    t.parts ∙ ap (λ w. w ++ after) t.spelled
field_canonical rule byte rest (Is (Text value)) after fits none read shortest =
    let t = (typed_takes rule byte rest (Is (Text value), after) fits none read).0 in
    let same : byte ∷ rest ≡ 3 ∷ (t.spelled.0 ++ after) = t.parts ∙ ap (λ w. w ++ after) t.spelled.1 in
    let kind : byte ≡ 3 = cc in
    ap (λ b. b ∷ rest) kind ∙ ap (λ w. 3 ∷ w) shortest
field_canonical rule byte rest (Is (Blob value)) after fits none read shortest =
    let t = (typed_takes rule byte rest (Is (Blob value), after) fits none read).0 in
    let same : byte ∷ rest ≡ 4 ∷ (t.spelled.0 ++ after) = t.parts ∙ ap (λ w. w ++ after) t.spelled.1 in
    let kind : byte ≡ 4 = cc in
    ap (λ b. b ∷ rest) kind ∙ ap (λ w. 4 ∷ w) shortest
field_canonical rule byte rest (Is Null) after fits none read shortest =
    let t = (typed_takes rule byte rest (Is Null, after) fits none read).0 in
    t.parts ∙ ap (λ w. w ++ after) t.spelled

-- the same of what a reader returned, where `canonical` is of what was read before
pub field_tells : {X : Type 0} (r : Result X ParseRefusal) (view : X → Field × List ℕ) (flag : X → Bool)
    (canonical : Bool) (rule : Rule) (bytes : List ℕ) (byte : ℕ) (rest : List ℕ) → AreBytes bytes → bytes ≡ byte ∷ rest
    → type_refusal rule byte ≡ None
    → Reads view r (typed_at byte rest)
    → IfOk r (λ x. IsTrue (flag x) → IsTrue canonical × HasShortest (view x).0 rest (view x).1)
    → IfOk r (λ x. IsTrue (flag x) → IsTrue canonical × (bytes ≡ field_bytes (view x).0 ++ (view x).1))
field_tells (Ok x) view flag canonical rule bytes byte rest fits whole none read own =
    λ is. (
      (own is).0,
      whole ∙ field_canonical rule byte rest (view x).0 (view x).1
          (back_fits bytes (byte ∷ []) rest whole fits) none read (own is).1,
    )
field_tells (Err e) view flag canonical rule bytes byte rest fits whole none read own = tt

-- ---- a record, from its last field to its first

pub none_canonical : (bytes : List ℕ) → IsCanonical packed bytes (record_at [] bytes)
unfolding record_at
none_canonical bytes x e = subst (λ (y : List Field × List ℕ). bytes ≡ packed y.0 ++ y.1) (ok_is ([], bytes) x e) refl

pub more_canonical : (rule : Rule) (rules : List Rule) (bytes : List ℕ) (f : Field) (after : List ℕ)
    → field_at rule bytes ≡ Ok (f, after) → bytes ≡ field_bytes f ++ after
    → IsCanonical packed after (record_at rules after) → IsCanonical packed bytes (record_at (rule ∷ rules) bytes)
more_canonical rule rules bytes f after read own others x e =
    let b = bind_ok (record_at rules after) (λ fields. done (f ∷ fields.0, fields.1)) x
    (sym (record_more rule rules bytes ∙ ap (λ r. r >>= fields_of rules) read) ∙ e) in
    let parts : bytes ≡ packed (f ∷ b.0.0) ++ b.0.1 = own ∙ ap (λ w. field_bytes f ++ w) (others b.0 b.1)
    ∙ sym (append_assoc (field_bytes f) (packed b.0.0) b.0.1) in
    subst (λ (y : List Field × List ℕ). bytes ≡ packed y.0 ++ y.1) (ok_is (f ∷ b.0.0, b.0.1) x b.2) parts
