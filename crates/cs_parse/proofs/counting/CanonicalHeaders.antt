-- A header in canonical form: the bytes are the text of what is read.
use Rattle.std.proofs.Common.{◌≡◌, ◌==◌, ℕ, inl, inr, Bool, Option, Some, None, cond, drop, List, [], ◌∷◌, ◌++◌, length, Ok, refl, sym, ap, ◌∙◌}
use Rattle.std.proofs.Common.{append_assoc, arith}
use Rattle.std.specs.Prelude.{IfSome, IsTrue, is_some}
use Rattle.std.proofs.lemmas.Bool.{eqb-true, false≢true}
use Rattle.cs_model.specs.declared.shape.Shape.{Shape}
use Rattle.cs_model.specs.SectionText.{header_text}
use Rattle.cs_model.specs.Varint.{varint}
use Rattle.cs_model.proofs.spelling.VarintLemmas.{spelled}
use Rattle.cs_parse.specs.Reading.{columns_at, header_at, refuse, shape_at}
use Rattle.cs_parse.proofs.reading.HeaderLaws.{header_takes}
use Rattle.cs_parse.proofs.reading.NumberLaws.{columns_again}
use Rattle.cs_parse.proofs.reading.Steps.{done, ok_is, steps_chosen}
use Rattle.cs_parse.proofs.reading.TextLaws.{begins_none}

parts_apart : (a b c d : List ℕ) → (((a ++ b) ++ c) ++ 0 ∷ []) ++ d ≡ a ++ (b ++ (c ++ 0 ∷ d))
parts_apart a b c d = simp append_assoc

parts_together : (a b c d : List ℕ) → (a ++ (b ++ (c ++ 0 ∷ []))) ++ d ≡ a ++ (b ++ (c ++ 0 ∷ d))
parts_together a b c d = simp append_assoc

-- after its `T`
counted_header : (shape : Shape) (counted behind rest : List ℕ) → header_at counted ≡ Ok (shape, behind)
    → counted ≡ varint (length shape.flags) ++ rest
    → counted ≡ (varint (length shape.flags) ++ (shape.flags ++ (shape.name ++ 0 ∷ []))) ++ behind
counted_header shape counted behind rest read begins =
    let t = header_takes counted (shape, behind) read in
    let n = length shape.flags in
    let after = shape.flags ++ (shape.name ++ 0 ∷ behind) in
    let count = t.0.spelled.count in
    let own : counted ≡ count ++ after = t.0.parts ∙ ap (λ w. w ++ behind) (ap (drop 1) t.0.spelled.parts)
    ∙ parts_apart count shape.flags shape.name behind in
    let one = ap columns_at own ∙ columns_again count n after t.0.spelled.is_count t.1.columns t.1.not_more_columns in
    let other = ap columns_at begins ∙ columns_again (varint n) n rest
    (spelled n (omega (arith, t.1.not_more_columns))) t.1.columns t.1.not_more_columns in
    let same : rest ≡ after = ap (λ p. p.1) (ok_is (n, rest) (n, after) (sym other ∙ one)) in
    begins ∙ ap (λ w. varint n ++ w) same ∙ sym (parts_together (varint n) shape.flags shape.name behind)

shape_marked : (byte : ℕ) (counted : List ℕ) → shape_at (byte ∷ counted)
    ≡ cond (byte == 84) (header_at counted) (refuse (begins_none byte) counted)
unfolding shape_at
shape_marked byte counted = refl

pub canonical_header : (shape : Shape) (byte : ℕ) (counted behind rest : List ℕ)
    → shape_at (byte ∷ counted) ≡ Ok (shape, behind) → counted ≡ varint (length shape.flags) ++ rest
    → byte ∷ counted ≡ header_text shape ++ behind
canonical_header shape byte counted behind rest read begins =
    elim (steps_chosen (byte == 84) (header_at counted) (refuse (begins_none byte) counted) (Ok (shape, behind))
    (sym (shape_marked byte counted) ∙ read)) as (λ w. byte ∷ counted ≡ header_text shape ++ behind) [
      | inl is ↦ (λ i. eqb-true byte 84 is.0 i ∷ counted_header shape counted behind rest is.1 begins i)
      | inr other ↦
          let none : refuse (begins_none byte) counted ≡ done (shape, behind) = other.1 in
          absurd cc
    ]

-- the same, where a test tells it
pub header_tells : {X : Type 0} (o : Option X) (view : X → List ℕ) (flag : Bool) (shape : Shape) (columns byte : ℕ)
    (bytes counted behind : List ℕ) → bytes ≡ byte ∷ counted → shape_at bytes ≡ Ok (shape, behind)
    → columns ≡ length shape.flags → IfSome o (λ x. counted ≡ varint columns ++ view x) → flag ≡ is_some o
    → IsTrue flag → bytes ≡ header_text shape ++ behind
header_tells (Some x) view flag shape columns byte bytes counted behind parts read long begins tells is =
    parts ∙ canonical_header shape byte counted behind (view x) (ap shape_at (sym parts) ∙ read)
    (begins ∙ ap (λ n. varint n ++ view x) long)
header_tells None view flag shape columns byte bytes counted behind parts read long begins tells is =
    absurd (false≢true (sym tells ∙ is))
