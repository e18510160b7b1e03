-- The front of a text takes in the section behind it.
use Rattle.std.proofs.Common.{◌≡◌, ℕ, ◌+◌, ◌≤◌, List, [], ◌∷◌, ◌++◌, length, take, drop, length-append, sym, ap, ◌∙◌, arith}
use Rattle.std.proofs.lemmas.List.{append-nil, length-take, length-drop}
use Rattle.std.proofs.Math.Seq.{take-add}
use Rattle.cs_model.specs.declared.at.At.{At}
use Rattle.cs_model.specs.declared.shape.Shape.{Shape}
use Rattle.cs_model.specs.PackedChanges.{AreCanonical, unpacked_changes}
use Rattle.cs_model.specs.Section.{Section}
use Rattle.cs_model.specs.Sections.{IsPlaceOf, IsText, sections_by}
use Rattle.cs_model.specs.SectionText.{header_text, section_text}
use Rattle.cs_model.specs.TextFront.{StartsWith}
use Rattle.cs_model.specs.Varint.{varint}
use Rattle.cs_model.proofs.texts.GrowthLaws.{TextGrows, both_texts}
use Rattle.cs_model.proofs.texts.SectionLaws.{text_made}

-- a section with the changes of canonical bytes
abbrev pub section_of : Shape → List ℕ → Section
section_of shape changes =
    record { shape = shape; changes = unpacked_changes (length shape.flags) changes }

header_long : (shape : Shape) → length (header_text shape)
    ≡ 1 + length (varint (length shape.flags)) + length shape.flags + length shape.name + 1
header_long shape = omega (
  arith,
  length-append (varint (length shape.flags)) (shape.flags ++ (shape.name ++ 0 ∷ [])),
  length-append shape.flags (shape.name ++ 0 ∷ []),
  length-append shape.name (0 ∷ []),
)

-- what stands before the key flags
pub head_long : (shape : Shape) (section changes : List ℕ) → section ≡ header_text shape ++ changes
    → length section ≡ 1 + length (varint (length shape.flags)) + length shape.flags + length shape.name + 1 + length changes
head_long shape section changes parts =
    omega (arith, ap length parts, length-append (header_text shape) changes, header_long shape)

pub begun_within : (section text : List ℕ) (len : ℕ) → StartsWith section (drop len text) → len ≤ length text
    → len + length section ≤ length text
begun_within section text len begins within = omega (
  arith,
  ap length begins,
  length-take (length section) (drop len text),
  length-drop len text,
  within,
)

pub front_grows : (ats more : List At) (mine : List Section) (text section changes : List ℕ) (len : ℕ) (at : At)
    (shape : Shape) → IsText ats (take len text) (sections_by ats (take len text))
    → sections_by ats (take len text) ≡ mine → StartsWith section (drop len text)
    → section ≡ header_text shape ++ changes → AreCanonical (length shape.flags) changes
    → IsPlaceOf at (section_of shape changes) → more ≡ ats ++ at ∷ []
    → TextGrows more (take (len + length section) text) (mine ++ section_of shape changes ∷ [])
front_grows ats more mine text section changes len at shape stands is begins parts canonical place grew =
    let s = section_of shape changes in
    let one : IsText (at ∷ []) section (s ∷ []) = record {
      parts = parts ∙ ap (λ (w : List ℕ). header_text shape ++ w) canonical.parts ∙ sym (append-nil (section_text s));
      at = (place, tt);
      fit = (canonical.fit, tt);
    } in
    let made = text_made (at ∷ []) (s ∷ []) section one in
    both_texts ats (at ∷ []) more (take len text) section (take (len + length section) text) mine (s ∷ []) stands is
    made.1 made.0 (take-add len (length section) text ∙ ap (λ (w : List ℕ). take len text ++ w) begins) grew
