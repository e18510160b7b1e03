-- Reading one field in front of any bytes: what is found is spelled there, and what is spelled is found.
use Rattle.std.proofs.Common.{◌≡◌, ℕ, zero, suc, ◌+◌, ◌<◌, ◌≤◌, Bool, false, ltb, Option, Some, None, List, [], ◌∷◌}
use Rattle.std.proofs.Common.{◌++◌, length, take, drop, ℤ, FitsSigned, to_z, of_z, refl, sym, ap, subst, ◌∙◌, arith}
use Rattle.std.specs.Int.{w64, from_be_bytes, to_be_bytes, cast_signed, cast_unsigned}
use Rattle.std.proofs.Math.Seq.{take-add, take-append_seam, drop-append_seam}
use Rattle.std.proofs.lemmas.List.{append_assoc, length-append, length-drop, length-take-le, take-append-drop}
use Rattle.std.proofs.lemmas.Bool.{le-ltb}
use Rattle.std.proofs.lemmas.Int.{to_z-of_z}
use Rattle.cs_model.specs.declared.value.Value.TheVariants.{Integer, Text, Blob, Null}
use Rattle.cs_model.specs.declared.value.Field.{Field}
use Rattle.cs_model.specs.declared.value.Field.TheVariants.{Undefined, Is}
use Rattle.cs_model.specs.Bytes.{AreBytes}
use Rattle.cs_model.specs.Changeset.{most_bytes, IsField}
use Rattle.cs_model.specs.Packed.{integer_by, typed_in}
use Rattle.cs_model.specs.Text.{SpellsBytes, SpellsField}
use Rattle.cs_model.specs.Varint.{IsVarint}
use Rattle.cs_model.proofs.packing.FitLaws.{field_fits}
use Rattle.cs_model.proofs.packing.PackedLaws.{text_back, blob_back, typed_back}
use Rattle.cs_model.proofs.spelling.EightBytes.{eight_bytes, number_back}

-- ---- a length, and so many bytes

-- `len` bytes in front are a length of `k` bytes and the text
record CountedSo (bytes text : List ℕ) (len : ℕ) : Type 0 where
  pub k : ℕ
  pub within : k ≤ length bytes
  pub number : IsVarint (take k bytes) (length text)
  pub long : len ≡ k + length text
  pub behind : take (length text) (drop k bytes) ≡ text

counted_so : (bytes text : List ℕ) (len : ℕ) → len ≤ length bytes → SpellsBytes (take len bytes) text
    → CountedSo bytes text len
counted_so bytes text len within s =
    let k = length s.count in
    let after = drop len bytes in
    let whole : bytes ≡ s.count ++ (text ++ after) = sym (take-append-drop len bytes)
    ∙ (ap (λ (w : List ℕ). w ++ after) s.parts ∙ append_assoc s.count text after) in
    let long : len ≡ k + length text = sym (length-take-le len bytes within)
    ∙ (ap length s.parts ∙ length-append s.count text) in
    let front : take k bytes ≡ s.count = ap (λ (w : List ℕ). take k w) whole
    ∙ take-append_seam s.count (text ++ after) in
    record {
      k = k;
      within = omega arith;
      number = subst (λ (w : List ℕ). IsVarint w (length text)) (sym front) s.is_count;
      long = long;
      behind = ap (λ (w : List ℕ). take (length text) (drop k w)) whole
          ∙ (ap (λ (w : List ℕ). take (length text) w) (drop-append_seam s.count (text ++ after))
          ∙ take-append_seam text after);
    }

-- what the reader of a length says of its answer
abbrev OnlyCount : List ℕ → Option (ℕ × ℕ) → Type 0
OnlyCount bytes found = (n len : ℕ) → len ≤ length bytes → IsVarint (take len bytes) n → found ≡ Some (n, len)

-- no length is read, so none is spelled
pub counted_none : (bytes text : List ℕ) (len : ℕ) → OnlyCount bytes None → len ≤ length bytes
    → SpellsBytes (take len bytes) text → ⊥
counted_none bytes text len only within s =
    let so = counted_so bytes text len within s in
    let found = only (length text) so.k so.within so.number in
    cc

-- the length that is read is the one that is spelled
counted_count : (bytes text : List ℕ) (len count read : ℕ) → OnlyCount bytes (Some (count, read)) → len ≤ length bytes
    → SpellsBytes (take len bytes) text
    → (count ≡ length text) × (len ≡ read + count) × (take count (drop read bytes) ≡ text)
counted_count bytes text len count read only within s =
    let so = counted_so bytes text len within s in
    let found : ◌≡◌ {A = ℕ × ℕ} (count, read) (length text, so.k) =
    cc (only (length text) so.k so.within so.number) in
    let number : count ≡ length text = ap (λ (p : ℕ × ℕ). p.0) found in
    let place : read ≡ so.k = ap (λ (p : ℕ × ℕ). p.1) found in
    (number, omega (arith, so.long), rw (number, place) so.behind)

-- fewer bytes than the length says
pub field_counted_short : (bytes rest text : List ℕ) (len count read : ℕ) → OnlyCount bytes (Some (count, read))
    → rest ≡ drop read bytes → length rest < count → len ≤ length bytes → SpellsBytes (take len bytes) text
    → ⊥
field_counted_short bytes rest text len count read only is few within s =
    let same = counted_count bytes text len count read only within s in
    omega (arith, same.1, ap length is, length-drop read bytes)

-- a length above the limit
pub field_counted_long : (bytes text : List ℕ) (len count read most : ℕ) → OnlyCount bytes (Some (count, read))
    → most < count → length text ≤ most → len ≤ length bytes → SpellsBytes (take len bytes) text
    → ⊥
field_counted_long bytes text len count read most only many few within s =
    let same = counted_count bytes text len count read only within s in
    omega (arith, same.0)

pub counted_found : (bytes rest : List ℕ) (count read : ℕ) → read ≤ length bytes → IsVarint (take read bytes) count
    → rest ≡ drop read bytes → count ≤ length rest
    → (read + count ≤ length bytes) × SpellsBytes (take (read + count) bytes) (take count rest)
counted_found bytes rest count read within number is enough =
    let long : length (take count rest) ≡ count = length-take-le count rest enough in
    let both : read + count ≤ length bytes = omega (arith, ap length is, length-drop read bytes) in (
      both,
      record {
        count = take read bytes;
        parts = take-add read count bytes
            ∙ ap (λ (w : List ℕ). take read bytes ++ take count w) (sym is);
        is_count = subst (λ (n : ℕ). IsVarint (take read bytes) n) (sym long) number;
      },
    )

pub counted_only : (bytes rest text : List ℕ) (len count read : ℕ) → OnlyCount bytes (Some (count, read))
    → rest ≡ drop read bytes → len ≤ length bytes → SpellsBytes (take len bytes) text
    → ◌≡◌ {A = Option (List ℕ × ℕ)} (Some (take count rest, read + count)) (Some (text, len))
counted_only bytes rest text len count read only is within s =
    let same = counted_count bytes text len count read only within s in
    let place : read + count ≡ len = sym same.1 in
    let behind : take count rest ≡ text = ap (λ (w : List ℕ). take count w) is ∙ same.2 in
    cc

-- ---- a field that is read is the only one

-- what begins the bytes, and is valid, is this field of `n` bytes
abbrev OnlyField : List ℕ → Field → ℕ → Type 0
OnlyField bytes f n = (field : Field) (len : ℕ) → IsField field → len ≤ length bytes
    → SpellsField (take len bytes) field → ◌≡◌ {A = Option (Field × ℕ)} (Some (f, n)) (Some (field, len))

-- What is spelled is what `typed_in` reads, and leaves as many bytes.
pub only_typed : (bytes rest : List ℕ) (kind b n : ℕ) (f : Field) → bytes ≡ kind ∷ rest → kind ≡ b → n ≤ length rest
    → typed_in b rest ≡ (f, drop n rest) → OnlyField bytes f (1 + n)
only_typed bytes rest kind b n f whole is within reads field len valid inside spells =
    let again = typed_back field (take len bytes) (drop len bytes) spells (field_fits field valid) in
    let same : again.byte ∷ again.body ≡ b ∷ rest = sym again.whole
    ∙ (take-append-drop len bytes ∙ (whole ∙ ap (λ (k : ℕ). k ∷ rest) is)) in
    let byte : again.byte ≡ b = cc in
    let body : again.body ≡ rest = cc in
    let both : ◌≡◌ {A = Field × List ℕ} (f, drop n rest) (field, drop len bytes) = cc (reads, again.reads) in
    let one : f ≡ field = ap (λ (p : Field × List ℕ). p.0) both in
    let behind : drop n rest ≡ drop len bytes = ap (λ (p : Field × List ℕ). p.1) both in
    let long : 1 + n ≡ len =
    omega (arith, ap length behind, length-drop n rest, length-drop len bytes, ap length whole) in
    cc

text_typed : (rest text : List ℕ) (len : ℕ) → SpellsBytes (take len rest) text
    → typed_in 3 rest ≡ (Is (Text text), drop len rest)
text_typed rest text len s = ap (λ (w : List ℕ). typed_in 3 w) (sym (take-append-drop len rest))
    ∙ text_back (take len rest) text (drop len rest) s

blob_typed : (rest text : List ℕ) (len : ℕ) → SpellsBytes (take len rest) text
    → typed_in 4 rest ≡ (Is (Blob text), drop len rest)
blob_typed rest text len s = ap (λ (w : List ℕ). typed_in 4 w) (sym (take-append-drop len rest))
    ∙ blob_back (take len rest) text (drop len rest) s

-- a text that is read is the only one, and so is a BLOB
pub only_text : (bytes rest : List ℕ) (kind len : ℕ) (text : List ℕ) → bytes ≡ kind ∷ rest → kind ≡ 3
    → (len ≤ length rest) × SpellsBytes (take len rest) text → OnlyField bytes (Is (Text text)) (1 + len)
only_text bytes rest kind len text whole is found =
    only_typed bytes rest kind 3 len (Is (Text text)) whole is found.0 (text_typed rest text len found.1)

pub only_blob : (bytes rest : List ℕ) (kind len : ℕ) (text : List ℕ) → bytes ≡ kind ∷ rest → kind ≡ 4
    → (len ≤ length rest) × SpellsBytes (take len rest) text → OnlyField bytes (Is (Blob text)) (1 + len)
only_blob bytes rest kind len text whole is found =
    only_typed bytes rest kind 4 len (Is (Blob text)) whole is found.0 (blob_typed rest text len found.1)

pub integer_typed : (rest : List ℕ) (n : ℤ) → 8 ≤ length rest → n ≡ cast_signed w64 (from_be_bytes w64 (take 8 rest))
    → typed_in 1 rest ≡ (Is (Integer n), drop 8 rest)
unfolding typed_in
integer_typed rest n enough is =
    let long : ltb (length rest) 8 ≡ false = le-ltb _ _ enough in
    ap (λ (b : Bool). integer_by b rest) long ∙ ap (λ (m : ℤ). (Is (Integer m), drop 8 rest)) (sym is)

-- the code's number, which it hands on as 64 bits
pub same_field_number : (read : ℤ) (text rest : List ℕ) → FitsSigned w64 read
    → read ≡ cast_signed w64 (from_be_bytes w64 text) → text ≡ take 8 rest
    → to_z w64 (of_z w64 read) ≡ cast_signed w64 (from_be_bytes w64 (take 8 rest))
same_field_number read text rest fits value same = to_z-of_z w64 read fits
    ∙ (value ∙ ap (λ (w : List ℕ). cast_signed w64 (from_be_bytes w64 w)) same)

pub found_integer : (bytes rest : List ℕ) (kind : ℕ) (n : ℤ) → bytes ≡ kind ∷ rest → kind ≡ 1 → 8 ≤ length rest
    → AreBytes bytes → n ≡ cast_signed w64 (from_be_bytes w64 (take 8 rest))
    → (9 ≤ length bytes) × (take 9 bytes ≡ 1 ∷ to_be_bytes w64 (cast_unsigned w64 n))
found_integer bytes rest kind n whole is enough are value =
    let back = number_back (take 8 rest) (length-take-le 8 rest enough) (eight_bytes bytes rest kind whole are) in (
      omega (arith, ap length whole),
      ap (λ (w : List ℕ). take 9 w) whole ∙ (ap (λ (k : ℕ). k ∷ take 8 rest) is
          ∙ ap (λ (w : List ℕ). 1 ∷ w) (sym back ∙ ap (λ (m : ℤ). to_be_bytes w64 (cast_unsigned w64 m)) (sym value))),
    )

-- ---- no field begins the bytes

-- `len` bytes in front begin with the first byte
record FrontSo (kind : ℕ) (rest : List ℕ) (b : ℕ) (tail : List ℕ) : Type 0 where
  pub k : ℕ
  pub kind_is : kind ≡ b
  pub within : k ≤ length rest
  pub tail_is : take k rest ≡ tail

front_so : (len kind : ℕ) (rest : List ℕ) (b : ℕ) (tail : List ℕ) → len ≤ length (kind ∷ rest)
    → take len (kind ∷ rest) ≡ b ∷ tail → FrontSo kind rest b tail
front_so zero kind rest b tail within e = cc
front_so (suc k) kind rest b tail within e =
    record { k = k; kind_is = cc; within = omega (arith, within); tail_is = cc }

-- no length, with so many bytes behind it, begins the bytes
abbrev NoneCounted : List ℕ → Type 0
NoneCounted rest = (text : List ℕ) (len : ℕ) → length text ≤ most_bytes → len ≤ length rest
    → SpellsBytes (take len rest) text → ⊥

none_front : (len kind : ℕ) (rest : List ℕ) (field : Field) → (kind ≡ 0 → ⊥) → (kind ≡ 1 → length rest < 8)
    → (3 ≤ kind → kind < 5 → NoneCounted rest) → (kind ≡ 5 → ⊥) → IsField field → len ≤ length (kind ∷ rest)
    → SpellsField (take len (kind ∷ rest)) field
    → ⊥
none_front len kind rest Undefined undefined few counted null valid within spells =
    undefined (front_so len kind rest 0 [] within spells).kind_is
none_front len kind rest (Is (Integer n)) undefined few counted null valid within spells =
    let number = to_be_bytes w64 (cast_unsigned w64 n) in
    let front = front_so len kind rest 1 number within spells in
    let long : length number ≡ 8 = refl in
    omega (arith, few front.kind_is, length-take-le front.k rest front.within, ap length front.tail_is)
none_front len kind rest (Is (Text text)) undefined few counted null valid within spells =
    let front = front_so len kind rest 3 spells.0 within spells.1 in
    counted (omega arith) (omega arith) text front.k valid front.within
    (subst (λ (w : List ℕ). SpellsBytes w text) (sym front.tail_is) spells.2)
none_front len kind rest (Is (Blob text)) undefined few counted null valid within spells =
    let front = front_so len kind rest 4 spells.0 within spells.1 in
    counted (omega arith) (omega arith) text front.k valid front.within
    (subst (λ (w : List ℕ). SpellsBytes w text) (sym front.tail_is) spells.2)
none_front len kind rest (Is Null) undefined few counted null valid within spells =
    null (front_so len kind rest 5 [] within spells).kind_is

pub no_field_read : (bytes rest : List ℕ) (kind len : ℕ) (field : Field) → bytes ≡ kind ∷ rest → (kind ≡ 0 → ⊥)
    → (kind ≡ 1 → length rest < 8) → (3 ≤ kind → kind < 5 → NoneCounted rest) → (kind ≡ 5 → ⊥) → IsField field
    → len ≤ length bytes → SpellsField (take len bytes) field
    → ⊥
no_field_read bytes rest kind len field whole undefined few counted null valid within spells =
    none_front len kind rest field undefined few counted null valid (omega (arith, ap length whole))
    (subst (λ (w : List ℕ). SpellsField (take len w) field) whole spells)

-- where a text or a BLOB would stand, no bytes behind their length do
pub no_counted_field : (bytes rest : List ℕ) (kind len : ℕ) (field : Field) → bytes ≡ kind ∷ rest → 3 ≤ kind → kind < 5
    → NoneCounted rest → IsField field → len ≤ length bytes → SpellsField (take len bytes) field
    → ⊥
no_counted_field bytes rest kind len field whole low high counted valid within spells =
    no_field_read bytes rest kind len field whole (λ is. omega arith) (λ is. absurd (omega arith)) (λ l h. counted)
    (λ is. omega arith) valid within spells
