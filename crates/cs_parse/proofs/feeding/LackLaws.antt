-- Lower bounds on the bytes missing from fields, records and pending items.
use Rattle.std.proofs.Common.{◌≡◌, ℕ, ◌+◌, ◌<◌, ◌≤◌, ◌⊎◌, inl, inr, List, [], ◌∷◌, ◌++◌, length, Option, Some, None, Ok}
use Rattle.std.proofs.Common.{Err, refl, sym, ap, ◌∙◌, append_assoc, arith}
use Rattle.std.specs.Prelude.{IfSome}
use Rattle.std.proofs.lemmas.Bool.{lt-ltb, cases_lt}
use Rattle.std.proofs.lemmas.List.{nil_from_length, append-nil, length-append}
use Rattle.cs_model.specs.declared.value.Value.TheVariants.{Text, Blob}
use Rattle.cs_model.specs.declared.value.Field.TheVariants.{Is}
use Rattle.cs_model.specs.Rule.{Rule}
use Rattle.cs_parse.specs.declared.fault.FaultKind.{FaultKind}
use Rattle.cs_parse.specs.declared.stop.ParseRefusal.TheVariants.{Short}
use Rattle.cs_parse.specs.Lack.{LacksValue, StaysIn, LacksIn}
use Rattle.cs_parse.specs.Place.{type_refusal}
use Rattle.cs_parse.specs.Reading.{◌>>=◌, unless_refused, length_at, integer_at, counted_at, typed_at, field_at}
use Rattle.cs_parse.specs.Reading.{record_at}
use Rattle.cs_parse.proofs.reading.Steps.{done}
use Rattle.cs_parse.proofs.reading.NumberLaws.{length_takes, length_again}
use Rattle.cs_parse.proofs.counting.Skims.{fields_of, record_more}

-- ---- values

integer_short : (bytes : List ℕ) → length bytes < 8 → typed_at 1 bytes ≡ Err Short
unfolding typed_at integer_at
integer_short bytes less = rw (lt-ltb (length bytes) 8 less) refl

pub integer_lacks : (byte : ℕ) (bytes : List ℕ) (least : ℕ) → byte ≡ 1 → least + length bytes ≡ 8
    → LacksValue byte bytes least
integer_lacks byte bytes least is len more less =
    ap (λ b. typed_at b (bytes ++ more)) is
    ∙ integer_short (bytes ++ more) (omega (arith, len, less, length-append bytes more))

pub three_or_four : (byte : ℕ) → 3 ≤ byte → byte < 5 → (byte ≡ 3) ⊎ (byte ≡ 4)
three_or_four byte le lt = elim (cases_lt byte 4) as (λ w. (byte ≡ 3) ⊎ (byte ≡ 4)) [
  | inl less ↦ inl (omega (arith, le))
  | inr more ↦ inr (omega (arith, lt))
]

counted_short : (bytes : List ℕ) (n : ℕ) (value : List ℕ) → length_at bytes ≡ Ok (n, value) → length value < n
    → counted_at bytes ≡ Err Short
unfolding counted_at
counted_short bytes n value e less = rw (e, lt-ltb (length value) n less) refl

typed_counted : (byte : ℕ) (bytes : List ℕ) → (byte ≡ 3) ⊎ (byte ≡ 4) → counted_at bytes ≡ Err Short
    → typed_at byte bytes ≡ Err Short
unfolding typed_at
typed_counted byte bytes (inl is) e = ap (λ b. typed_at b bytes) is ∙ ap (λ r. r >>= λ x. done (Is (Text x.0), x.1)) e
typed_counted byte bytes (inr is) e = ap (λ b. typed_at b bytes) is ∙ ap (λ r. r >>= λ x. done (Is (Blob x.0), x.1)) e

pub counted_lacks : (byte : ℕ) (bytes : List ℕ) (n : ℕ) (value : List ℕ) (least : ℕ) → (byte ≡ 3) ⊎ (byte ≡ 4)
    → length_at bytes ≡ Ok (n, value) → least + length value ≡ n → LacksValue byte bytes least
counted_lacks byte bytes n value least is e len more less =
    let t = length_takes bytes (n, value) e in
    let again : length_at (bytes ++ more) ≡ Ok (n, value ++ more) =
    ap (λ w. length_at (w ++ more)) t.0.parts ∙ ap length_at (append_assoc t.0.text value more)
    ∙ length_again t.0.text n (value ++ more) t.0.spelled t.1 in
    typed_counted byte (bytes ++ more) is
    (counted_short (bytes ++ more) n (value ++ more) again (omega (arith, len, less, length-append value more)))

-- what is said of a number that is there follows from what else is said of it
pub some_lacks : (o : Option ℕ) (byte : ℕ) (bytes left : List ℕ) (whole : ℕ)
    → ((least : ℕ) → least + length left ≡ whole → LacksValue byte bytes least)
    → IfSome o (λ least. (0 < least) × (least + length left ≡ whole))
    → IfSome o (λ least. (0 < least) × LacksValue byte bytes least)
some_lacks None byte bytes left whole lacks h = tt
some_lacks (Some least) byte bytes left whole lacks h = (h.0, lacks least h.1)

-- ---- records

lack_field_by : (rule : Rule) (byte : ℕ) (rest : List ℕ) → field_at rule (byte ∷ rest)
    ≡ unless_refused (type_refusal rule byte) rest (typed_at byte rest)
unfolding field_at
lack_field_by rule byte rest = refl

-- a record whose first byte isn't refused, by whether it is
field_stays : (rule : Rule) (rules : List Rule) (byte : ℕ) (rest more : List ℕ) (o : Option FaultKind)
    → type_refusal rule byte ≡ o → typed_at byte (rest ++ more) ≡ Err Short
    → record_at (rule ∷ rules) (byte ∷ rest) ≡ Err Short → record_at (rule ∷ rules) (byte ∷ (rest ++ more)) ≡ Err Short
field_stays rule rules byte rest more None is typed short =
    record_more rule rules (byte ∷ (rest ++ more))
    ∙ ap (λ r. r >>= fields_of rules)
    (lack_field_by rule byte (rest ++ more)
    ∙ ap (λ w. unless_refused w (rest ++ more) (typed_at byte (rest ++ more))) is ∙ typed)
field_stays rule rules byte rest more (Some kind) is typed short =
    let wrong = ap (λ r. r >>= fields_of rules)
    (lack_field_by rule byte rest ∙ ap (λ w. unless_refused w rest (typed_at byte rest)) is) in
    let both = sym wrong ∙ sym (record_more rule rules (byte ∷ rest)) ∙ short in
    absurd cc

value_stays : (byte : ℕ) (rest more : List ℕ) → typed_at byte (rest ++ more) ≡ Err Short → StaysIn (byte ∷ rest) more
unfolding record_at
value_stays byte rest more typed [] short = absurd cc
value_stays byte rest more typed (rule ∷ rules) short =
    field_stays rule rules byte rest more (type_refusal rule byte) refl typed short

pub value_lacks : (bytes : List ℕ) (byte : ℕ) (rest : List ℕ) (least : ℕ) → bytes ≡ byte ∷ rest
    → LacksValue byte rest least → LacksIn bytes least
value_lacks bytes byte rest least parts lacks more less rules short =
    ap (λ w. record_at rules (w ++ more)) parts
    ∙ value_stays byte rest more (lacks more less) rules (sym (ap (record_at rules) parts) ∙ short)

pub one_lacks : (bytes : List ℕ) → LacksIn bytes 1
one_lacks bytes more less rules short =
    ap (λ w. record_at rules (bytes ++ w)) (nil_from_length more (omega (arith, less)))
    ∙ ap (record_at rules) (append-nil bytes) ∙ short
