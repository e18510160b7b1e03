-- The faults of headers are exact.
use Rattle.std.proofs.Common.{◌≡◌, ℕ, suc, ◌<◌, ◌≤◌, inl, inr, true, List, [], ◌∷◌, ◌++◌, length, Result, refl, sym, ap}
use Rattle.std.proofs.Common.{subst, ◌∙◌, append_assoc, arith}
use Rattle.std.proofs.lemmas.List.{append-nil}
use Rattle.cs_model.specs.declared.shape.Shape.{Shape}
use Rattle.cs_model.specs.Changeset.{IsShape}
use Rattle.cs_model.specs.Text.{SpellsHeader}
use Rattle.cs_model.specs.Varint.{IsVarint}
use Rattle.cs_parse.specs.Place.{BytePlace, InColumns}
use Rattle.cs_parse.specs.Stands.{InHeader}
use Rattle.cs_parse.specs.declared.stop.ParseRefusal.{ParseRefusal}
use Rattle.cs_parse.specs.Reading.{◌>>=◌, columns_at, flags_at, name_at, header_at}
use Rattle.cs_parse.proofs.reading.Steps.{done}
use Rattle.cs_parse.proofs.reading.HeaderLaws.{any_key, shape_of_parts, HeaderTextOf}
use Rattle.cs_parse.proofs.refusing.Exact.{ExactReader, SeqText, SeqPlace, seq, seq_exact, mapped_exact, renamed}
use Rattle.cs_parse.proofs.refusing.ExactNumbers.{NumberText, Digits, columns_exact}
use Rattle.cs_parse.proofs.refusing.ExactFlags.{FlagsText, FlagsPlace, flags_exact}
use Rattle.cs_parse.proofs.refusing.ExactNames.{NameText, NamePlace, name_exact}

abbrev ColumnsText : List ℕ → ℕ → Type 0
ColumnsText = NumberText 1 2000 8 0

abbrev InColumnDigits : List ℕ → BytePlace → Type 0
InColumnDigits = Digits 2000 InColumns 8 0

abbrev pub HeaderSpelled : List ℕ → Shape → Type 0
HeaderSpelled text shape = HeaderTextOf text shape × IsShape shape

abbrev shape_of : List ℕ → List ℕ → Shape
shape_of flags name = record { name = name; flags = flags }

abbrev ShapeText : List ℕ → List ℕ → Shape → Type 0
ShapeText flags text shape = (name : List ℕ) × NameText text name × (shape ≡ shape_of flags name)

abbrev shape_behind : List ℕ → List ℕ → Result (Shape × List ℕ) ParseRefusal
shape_behind flags bytes = name_at bytes >>= λ name. done (shape_of flags name.0, name.1)

abbrev FlagsAndName : ℕ → List ℕ → Shape → Type 0
FlagsAndName count = SeqText (FlagsText count) ShapeText

abbrev FlagsAndNamePlace : ℕ → List ℕ → BytePlace → Type 0
FlagsAndNamePlace count = SeqPlace (FlagsText count) (FlagsPlace count) (λ flags. NamePlace)

behind_count : (count : ℕ) → 1 ≤ count → ExactReader (seq (flags_at count) shape_behind) (FlagsAndName count)
    (FlagsAndNamePlace count)
behind_count count some =
    seq_exact (flags_at count) shape_behind (FlagsText count) ShapeText (FlagsPlace count) (λ flags. NamePlace)
    (flags_exact count some)
    (λ text flags h. mapped_exact (shape_of flags) name_at NameText NamePlace name_exact)

exact_header_joined : (count flags name : List ℕ) → count ++ (flags ++ (name ++ 0 ∷ [])) ≡ count ++ flags ++ name ++ 0
    ∷ []
exact_header_joined count flags name = simp append_assoc

some_columns : (flags : List ℕ) → any_key flags ≡ true → 0 < length flags
some_columns [] h = absurd (cc h)
some_columns (flag ∷ flags) h = omega arith

header_to : (text : List ℕ) (shape : Shape) → SeqText ColumnsText FlagsAndName text shape → HeaderSpelled text shape
header_to text shape (n, count, back, e, c, (flags, keys, ending, e2, f, (name, t, is))) =
    let whole : text ≡ count ++ flags ++ name ++ 0 ∷ [] =
    e ∙ ap (λ w. count ++ w) (e2 ∙ ap (λ w. w ++ ending) f.0 ∙ ap (λ w. flags ++ w) t.0)
    ∙ exact_header_joined count flags name in
    let spelled : SpellsHeader (84 ∷ text) (shape_of flags name) =
    record { count = count; parts = ap (λ w. 84 ∷ w) whole; is_count = subst (λ k. IsVarint count k) (sym f.1) c.0 }
    in
    subst (λ s. HeaderSpelled text s) (sym is)
    (spelled, shape_of_parts n flags name f.1 c.1 c.2 f.2 t.1 t.2 t.3)

header_from : (text : List ℕ) (shape : Shape) → HeaderSpelled text shape → SeqText ColumnsText FlagsAndName text shape
header_from text shape h =
    let flags = shape.flags in
    let name = shape.name in
    let parts = h.0.parts in
    let whole : text ≡ h.0.count ++ flags ++ name ++ 0 ∷ [] = cc in (
      length flags,
      h.0.count,
      flags ++ (name ++ 0 ∷ []),
      whole ∙ sym (exact_header_joined h.0.count flags name),
      (h.0.is_count, h.1.columns, h.1.not_more_columns),
      (
        flags,
        flags,
        name ++ 0 ∷ [],
        refl,
        (refl, refl, h.1.key),
        (name, (refl, h.1.named, h.1.not_longer, h.1.no_zero), refl),
      ),
    )

place_to : (front : List ℕ) (place : BytePlace) → SeqPlace ColumnsText InColumnDigits FlagsAndNamePlace front place
    → InHeader front place
place_to front place (inl h) = inl (record { left = h.0; high = h.1; digits = h.2; stands = h.3 })
place_to front place (inr (count, digits, back, parts, is_count, inl flags)) =
    inr (inl (record {
      count = digits;
      flags = back;
      parts = parts;
      is_count = subst (λ n. IsVarint digits n) (sym flags.0) is_count.0;
      columns =
          omega (arith, flags.0, is_count.2);
      no_key = flags.1;
      stands = flags.2;
    }))
place_to front place (inr (count, digits, back, parts, is_count, inr (flags, text, name, parts2, is_flags, inl first)))
    =
    let whole : front ≡ digits ++ flags =
    parts ∙ ap (λ w. digits ++ w) (parts2 ∙ ap (λ w. text ++ w) first.0 ∙ append-nil text ∙ is_flags.0) in
    inr (inr (inl
    (record {
      count = digits;
      flags = flags;
      parts = whole;
      is_count = subst (λ n. IsVarint digits n) (sym is_flags.1) is_count.0;
      columns =
          omega (arith, is_flags.1, is_count.2);
      key = is_flags.2;
      stands = first.1;
    })))
place_to front place (inr (count, digits, back, parts, is_count, inr (flags, text, name, parts2, is_flags, inr full))) =
    let whole : front ≡ digits ++ (flags ++ name) =
    parts ∙ ap (λ w. digits ++ w) (parts2 ∙ ap (λ w. w ++ name) is_flags.0) in
    inr (inr (inr
    (record {
      count = digits;
      flags = flags;
      name = name;
      parts = whole;
      is_count = subst (λ n. IsVarint digits n) (sym is_flags.1) is_count.0;
      columns =
          omega (arith, is_flags.1, is_count.2);
      key = is_flags.2;
      full = full.0;
      no_zero = full.1;
      stands = full.2;
    })))

place_from : (front : List ℕ) (place : BytePlace) → InHeader front place
    → SeqPlace ColumnsText InColumnDigits FlagsAndNamePlace front place
place_from front place (inl h) = inl (h.left, h.high, h.digits, h.stands)
place_from front place (inr (inl h)) =
    inr (
      suc (length h.flags),
      h.count,
      h.flags,
      h.parts,
      (h.is_count, omega arith, h.columns),
      inl (refl, h.no_key, h.stands),
    )
place_from front place (inr (inr (inl h))) =
    inr (
      length h.flags,
      h.count,
      h.flags,
      h.parts,
      (h.is_count, some_columns h.flags h.key, h.columns),
      inr (h.flags, h.flags, [], sym (append-nil h.flags), (refl, refl, h.key), inl (refl, h.stands)),
    )
place_from front place (inr (inr (inr h))) =
    inr (
      length h.flags,
      h.count,
      h.flags ++ h.name,
      h.parts,
      (h.is_count, some_columns h.flags h.key, h.columns),
      inr (h.flags, h.flags, h.name, refl, (refl, refl, h.key), inr (h.full, h.no_zero, h.stands)),
    )

pub header_exact : ExactReader header_at HeaderSpelled InHeader
unfolding header_at
header_exact =
    renamed (seq columns_at (λ count. seq (flags_at count) shape_behind)) (SeqText ColumnsText FlagsAndName)
    HeaderSpelled (SeqPlace ColumnsText InColumnDigits FlagsAndNamePlace) InHeader
    (record { text_to = header_to; text_from = header_from; place_to = place_to; place_from = place_from })
    (seq_exact columns_at (λ count. seq (flags_at count) shape_behind) ColumnsText FlagsAndName InColumnDigits
    FlagsAndNamePlace columns_exact (λ text count h. behind_count count h.1))
