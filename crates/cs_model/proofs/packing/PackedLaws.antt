-- Records as bytes: the bytes of a record decode to the record.
use Rattle.std.proofs.Common.{◌≡◌, ℕ, ℤ, zero, suc, ◌+◌, ◌-◌, ◌*◌, ◌^◌, ◌<◌, ◌≤◌, Bool, true, false, cond, eqb, ltb, Option}
use Rattle.std.proofs.Common.{Some, None, List, [], ◌∷◌, ◌++◌, length, take, drop, refl, sym, ap, subst, ◌∙◌, arith}
use Rattle.std.proofs.Common.{FitsSigned, ◌↔◌}
use Rattle.std.specs.Int.{w64, from_be_bytes, to_be_bytes, cast_signed, cast_unsigned}
use Rattle.std.specs.List.{AllByRecursion}
use Rattle.std.specs.Cmp.Lexicographic.{same_text, nat_list_eq_equiv}
use Rattle.std.proofs.Math.Seq.{take-append_seam, drop-append_seam}
use Rattle.std.proofs.lemmas.Bool.{le-ltb}
use Rattle.std.proofs.lemmas.Int.{ints, to_z-of_z}
use Rattle.std.proofs.lemmas.Nat.{from_be_bytes-to_be_bytes_8}
use Rattle.std.proofs.lemmas.List.{append_assoc, append-nil, length-append, length-drop, take_at, drop_at}
use Rattle.cs_model.specs.declared.value.Value.TheVariants.{Integer, Text, Blob, Null}
use Rattle.cs_model.specs.declared.value.Field.{Field}
use Rattle.cs_model.specs.declared.value.Field.TheVariants.{Undefined, Is}
use Rattle.cs_model.specs.FieldBytes.{field_bytes}
use Rattle.cs_model.specs.Text.{SpellsBytes, SpellsField}
use Rattle.cs_model.specs.Varint.{varint}
use Rattle.cs_model.specs.Schema.{same_bytes}
use Rattle.cs_model.specs.Packed.{packed, IsLength, Fits, Packs, read_from, counted_by, counted_in, integer_by}
use Rattle.cs_model.specs.Packed.{typed_in, fields_in, unpacked}
use Rattle.cs_model.proofs.spelling.VarintLemmas.{read_ends, read_back, read_goes, spelled}

-- ---- what is behind a field is no longer than what the field was read from

counted_by_no_longer : (bytes : List ℕ) (o : Option (ℕ × ℕ)) → length (counted_by bytes o).1 ≤ length bytes
counted_by_no_longer bytes None = omega arith
counted_by_no_longer bytes (Some n) = omega (arith, length-drop n.0 (drop n.1 bytes), length-drop n.1 bytes)

counted_no_longer : (bytes : List ℕ) → length (counted_in bytes).1 ≤ length bytes
unfolding counted_in
counted_no_longer bytes = counted_by_no_longer bytes (read_from 8 0 0 bytes)

integer_no_longer : (short : Bool) (rest : List ℕ) → length (integer_by short rest).1 ≤ length rest
integer_no_longer true rest = omega arith
integer_no_longer false rest = omega (arith, length-drop 8 rest)

either_no_longer : (b : Bool) (x y : Field × List ℕ) (n : ℕ) → length x.1 ≤ n → length y.1 ≤ n → length (cond b x y).1
    ≤ n
either_no_longer true x y n p q = p
either_no_longer false x y n p q = q

pub typed_no_longer : (byte : ℕ) (rest : List ℕ) → length (typed_in byte rest).1 ≤ length rest
unfolding typed_in
typed_no_longer byte rest =
    let same : length rest ≤ length rest = omega arith in
    let text = counted_no_longer rest in
    either_no_longer (eqb byte 0) _ _ _ same
    (either_no_longer (eqb byte 1) _ _ _ (integer_no_longer (ltb (length rest) 8) rest)
    (either_no_longer (eqb byte 3) _ _ _ text (either_no_longer (eqb byte 4) _ _ _ text same)))

-- ---- one field, and the others

none_in : (fuel : ℕ) → fields_in fuel [] ≡ []
unfolding fields_in
none_in zero = refl
none_in (suc fuel) = refl

packed_enough : (fuel more : ℕ) (bytes : List ℕ) → length bytes ≤ fuel → length bytes ≤ more → fields_in fuel bytes
    ≡ fields_in more bytes
unfolding fields_in
packed_enough fuel more [] p q = none_in fuel ∙ sym (none_in more)
packed_enough zero more (byte ∷ rest) p q = absurd (omega (arith, p))
packed_enough (suc fuel) zero (byte ∷ rest) p q = absurd (omega (arith, q))
packed_enough (suc fuel) (suc more) (byte ∷ rest) p q =
    let less = typed_no_longer byte rest in
    ap (λ (fs : List Field). (typed_in byte rest).0 ∷ fs)
    (packed_enough fuel more (typed_in byte rest).1 (omega arith) (omega arith))

pub unpacked_none : (bytes : List ℕ) → length bytes ≡ 0 → unpacked bytes ≡ []
unfolding unpacked fields_in
unpacked_none bytes none = rw none refl

first_in : (byte : ℕ) (rest : List ℕ) → unpacked (byte ∷ rest) ≡ (typed_in byte rest).0
    ∷ unpacked (typed_in byte rest).1
unfolding unpacked fields_in
first_in byte rest =
    ap (λ (fs : List Field). (typed_in byte rest).0 ∷ fs)
    (packed_enough (length rest) (length (typed_in byte rest).1) (typed_in byte rest).1 (typed_no_longer byte rest)
    (omega arith))

pub unpacked_first : (bytes : List ℕ) (byte : ℕ) (rest : List ℕ) (field : Field) (after : List ℕ) → bytes ≡ byte ∷ rest
    → field ≡ (typed_in byte rest).0 → after ≡ (typed_in byte rest).1
    → unpacked bytes ≡ field ∷ unpacked after
unpacked_first bytes byte rest field after whole one others = rw (whole, one, others) (first_in byte rest)

-- a length of one byte
pub counted_one : (bytes : List ℕ) (len n : ℕ) (behind : List ℕ) → bytes ≡ len ∷ behind → len < 128 → n ≡ len
    → counted_in bytes ≡ (take n behind, drop n behind)
unfolding counted_in
counted_one bytes len n behind whole small same =
    let value : 128 * 0 + len ≡ n = omega arith in
    ap counted_in whole ∙ (ap (λ (o : Option (ℕ × ℕ)). counted_by (len ∷ behind) o) (read_ends 7 0 0 len behind small)
    ∙ ap (λ (k : ℕ). (take k behind, drop k behind)) value)

-- a length of two bytes
pub counted_two : (bytes : List ℕ) (high low n : ℕ) (behind : List ℕ) → bytes ≡ high ∷ low ∷ behind → 128 ≤ high
    → low < 128 → n ≡ 128 * (high - 128) + low → counted_in bytes ≡ (take n behind, drop n behind)
unfolding counted_in
counted_two bytes high low n behind whole large small same =
    let value : 128 * (128 * 0 + (high - 128)) + low ≡ n = omega (arith, same) in
    ap counted_in whole ∙ (ap (λ (o : Option (ℕ × ℕ)). counted_by (high ∷ low ∷ behind) o)
    (read_goes 7 0 0 high (low ∷ behind) large ∙ read_ends 6 (128 * 0 + (high - 128)) 1 low behind small)
    ∙ ap (λ (k : ℕ). (take k behind, drop k behind)) value)

-- ---- what is written is read

pub length_fits : (n : ℕ) → IsLength n → n < 2 ^ 64
unfolding IsLength
length_fits n h = h

pub packed_is_length : (n : ℕ) → n < 2 ^ 64 → IsLength n
unfolding IsLength
packed_is_length n h = h

packed_counted_at : (text bytes rest : List ℕ) → counted_by (text ++ (bytes ++ rest)) (Some (length bytes, length text))
    ≡ (bytes, rest)
packed_counted_at text bytes rest =
    rw (drop-append_seam text (bytes ++ rest), take-append_seam bytes rest, drop-append_seam bytes rest) refl

counted_back : (text bytes rest : List ℕ) → SpellsBytes text bytes → counted_in (text ++ rest) ≡ (bytes, rest)
unfolding counted_in
counted_back text bytes rest s =
    let number : read_from 8 0 0 (s.count ++ (bytes ++ rest)) ≡ Some (length bytes, length s.count) =
    read_back 8 0 0 s.count (length bytes) (bytes ++ rest) (length s.count) (omega arith) s.is_count in
    rw (s.parts, append_assoc s.count bytes rest, number) (packed_counted_at s.count bytes rest)

integer_found : (text rest : List ℕ) (n : ℤ) → length text ≡ 8 → cast_signed w64 (from_be_bytes w64 text) ≡ n
    → integer_by (ltb (length (text ++ rest)) 8) (text ++ rest) ≡ (Is (Integer n), rest)
integer_found text rest n len value =
    let long : ltb (length (text ++ rest)) 8 ≡ false = le-ltb _ _ (omega (arith, length-append text rest)) in
    rw (long, take_at text rest 8 len, drop_at text rest 8 len, value) refl

unsigned_below : (n : ℤ) → FitsSigned w64 n → cast_unsigned w64 n < 2 ^ 64
unsigned_below n fits = omega (arith, ints)

integer_back : (n : ℤ) (rest : List ℕ) → FitsSigned w64 n → typed_in 1 (to_be_bytes w64 (cast_unsigned w64 n) ++ rest)
    ≡ (Is (Integer n), rest)
unfolding typed_in
integer_back n rest fits =
    integer_found (to_be_bytes w64 (cast_unsigned w64 n)) rest n refl
    (ap (λ k. cast_signed w64 k) (from_be_bytes-to_be_bytes_8 (cast_unsigned w64 n) (unsigned_below n fits))
    ∙ to_z-of_z w64 n fits)

pub text_back : (text bytes rest : List ℕ) → SpellsBytes text bytes
    → typed_in 3 (text ++ rest) ≡ (Is (Text bytes), rest)
unfolding typed_in
text_back text bytes rest spells =
    ap (λ (x : List ℕ × List ℕ). (Is (Text x.0), x.1)) (counted_back text bytes rest spells)

pub blob_back : (text bytes rest : List ℕ) → SpellsBytes text bytes
    → typed_in 4 (text ++ rest) ≡ (Is (Blob bytes), rest)
unfolding typed_in
blob_back text bytes rest spells =
    ap (λ (x : List ℕ × List ℕ). (Is (Blob x.0), x.1)) (counted_back text bytes rest spells)

pub none_back : (rest : List ℕ) → typed_in 0 rest ≡ (Undefined, rest)
unfolding typed_in
none_back rest = refl

pub null_back : (rest : List ℕ) → typed_in 5 rest ≡ (Is Null, rest)
unfolding typed_in
null_back rest = refl

-- a text that spells a field, behind which others stand, is a type byte and what is read to this field
pub record Again (f : Field) (text rest : List ℕ) : Type 0 where
  pub byte : ℕ
  pub body : List ℕ
  pub whole : text ++ rest ≡ byte ∷ body
  pub reads : typed_in byte body ≡ (f, rest)

again_by : (byte : ℕ) (f : Field) (text body rest : List ℕ) → text ≡ byte ∷ body
    → typed_in byte (body ++ rest) ≡ (f, rest) → Again f text rest
again_by byte f text body rest parts reads =
    record { byte = byte; body = body ++ rest; whole = ap (λ (w : List ℕ). w ++ rest) parts; reads = reads }

pub typed_back : (f : Field) (text rest : List ℕ) → SpellsField text f → Fits f → Again f text rest
typed_back Undefined text rest spells fits = again_by 0 Undefined text [] rest spells (none_back rest)
typed_back (Is (Integer n)) text rest spells fits =
    again_by 1 (Is (Integer n)) text (to_be_bytes w64 (cast_unsigned w64 n)) rest spells (integer_back n rest fits)
typed_back (Is (Text bytes)) text rest spells fits =
    again_by 3 (Is (Text bytes)) text spells.0 rest spells.1 (text_back spells.0 bytes rest spells.2)
typed_back (Is (Blob bytes)) text rest spells fits =
    again_by 4 (Is (Blob bytes)) text spells.0 rest spells.1 (blob_back spells.0 bytes rest spells.2)
typed_back (Is Null) text rest spells fits = again_by 5 (Is Null) text [] rest spells (null_back rest)

-- a field's own bytes spell it
own_length : (bytes : List ℕ) → IsLength (length bytes) → SpellsBytes (varint (length bytes) ++ bytes) bytes
own_length bytes fits =
    record {
      count = varint (length bytes);
      parts = refl;
      is_count = spelled (length bytes) (length_fits (length bytes) fits);
    }

pub own_field : (f : Field) → Fits f → SpellsField (field_bytes f) f
own_field Undefined fits = refl
own_field (Is (Integer n)) fits = refl
own_field (Is (Text bytes)) fits = (varint (length bytes) ++ bytes, refl, own_length bytes fits)
own_field (Is (Blob bytes)) fits = (varint (length bytes) ++ bytes, refl, own_length bytes fits)
own_field (Is Null) fits = refl

field_back : (f : Field) (rest : List ℕ) → Fits f → unpacked (field_bytes f ++ rest) ≡ f ∷ unpacked rest
field_back f rest fits =
    let a = typed_back f (field_bytes f) rest (own_field f fits) fits in
    unpacked_first (field_bytes f ++ rest) a.byte a.body f rest a.whole (sym (ap (λ (x : Field × List ℕ). x.0) a.reads))
    (sym (ap (λ (x : Field × List ℕ). x.1) a.reads))

pub packed_unpacked : (fields : List Field) → AllByRecursion Fits fields → unpacked (packed fields) ≡ fields
packed_unpacked [] fit = unpacked_none [] refl
packed_unpacked (f ∷ fs) fit = field_back f (packed fs) fit.0
    ∙ ap (λ (gs : List Field). f ∷ gs) (packed_unpacked fs fit.1)

pub packed_first : (fields : List Field) (rest : List ℕ) → AllByRecursion Fits fields → unpacked (packed fields ++ rest)
    ≡ fields ++ unpacked rest
packed_first [] rest fit = refl
packed_first (f ∷ fs) rest fit = ap unpacked (append_assoc (field_bytes f) (packed fs) rest)
    ∙ field_back f (packed fs ++ rest) fit.0 ∙ ap (λ (gs : List Field). f ∷ gs) (packed_first fs rest fit.1)

-- ---- what is made packs what it was made of

pub packed_made : (bytes : List ℕ) (fields : List Field) → bytes ≡ packed fields → AllByRecursion Fits fields
    → (unpacked bytes ≡ fields) × Packs bytes (unpacked bytes)
packed_made bytes fields parts fit =
    let says : unpacked bytes ≡ fields = rw parts (packed_unpacked fields fit) in
    (says, subst (λ (fs : List Field). Packs bytes fs) (sym says) (record { parts = parts; fit = fit }))

pub fit_push : (fs : List Field) (f : Field) → AllByRecursion Fits fs → Fits f → AllByRecursion Fits (fs ++ f ∷ [])
fit_push [] f h p = (p, tt)
fit_push (g ∷ gs) f h p = (h.0, fit_push gs f h.1 p)

pub packed_push : (fs : List Field) (f : Field) → packed (fs ++ f ∷ []) ≡ packed fs ++ field_bytes f
packed_push [] f = append-nil (field_bytes f)
packed_push (g ∷ gs) f = ap (λ (w : List ℕ). field_bytes g ++ w) (packed_push gs f)
    ∙ sym (append_assoc (field_bytes g) (packed gs) (field_bytes f))

pub pushed : (old new : List ℕ) (f : Field) → Fits f → Packs old (unpacked old) → new ≡ old ++ field_bytes f
    → (unpacked new ≡ unpacked old ++ f ∷ []) × Packs new (unpacked new)
pushed old new f fits packs added =
    packed_made new (unpacked old ++ f ∷ [])
    (added ∙ (ap (λ (w : List ℕ). w ++ field_bytes f) packs.parts ∙ sym (packed_push (unpacked old) f)))
    (fit_push (unpacked old) f packs.fit fits)

pub packed_empty : (bytes : List ℕ) → bytes ≡ [] → (unpacked bytes ≡ []) × Packs bytes (unpacked bytes)
packed_empty bytes none = packed_made bytes [] none tt

-- ---- the same bytes say the same

pub same_said : {X : Type 0} (said : List ℕ → X) (packs : X → List ℕ) (a b : List ℕ) (r : Bool) → a ≡ packs (said a) → b
    ≡ packs (said b) → r ≡ same_bytes a b
    → (r ≡ true) ↔ (said a ≡ said b)
same_said said packs a b r p q e = (
  λ told. ap said (same_text a b (sym told ∙ e)),
  λ same.
      let bytes : a ≡ b = p ∙ ap packs same ∙ sym q in
      e ∙ ap (λ (w : List ℕ). same_bytes a w) (sym bytes) ∙ nat_list_eq_equiv.refl a,
)

pub same_records : (a b : List ℕ) (r : Bool) → Packs a (unpacked a) → Packs b (unpacked b) → r ≡ same_bytes a b
    → (r ≡ true) ↔ (unpacked a ≡ unpacked b)
same_records a b r p q e = same_said unpacked packed a b r p.parts q.parts e
