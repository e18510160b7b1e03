-- The last section stands at the end of the text.
use Rattle.std.proofs.Common.{◌≡◌, ℕ, ◌+◌, ◌-◌, ◌≤◌, List, [], ◌∷◌, ◌++◌, length, take, drop, Some}
use Rattle.std.proofs.Common.{refl, sym, ap, ◌∙◌, arith, length-append, append_assoc}
use Rattle.std.specs.List.{AllByRecursion}
use Rattle.std.proofs.lemmas.List.{append-nil, drop_at}
use Rattle.cs_model.specs.PackedChanges.{changes_bytes}
use Rattle.cs_model.specs.Section.{Section}
use Rattle.cs_model.specs.Varint.{varint}
use Rattle.cs_model.specs.SectionText.{section_text, sections_text}
use Rattle.cs_model.specs.declared.at.At.{At}
use Rattle.cs_model.specs.Sections.{ArePlacesOf, EndsWithSection, FitsSection, IsPlaceOf, last_flags}
use Rattle.cs_model.proofs.texts.SectionLaws.{cut_front, laid_out, section_stands}

pub record LastStands (at : At) (text : List ℕ) (ss : List Section) : Type 0 where
  pub section : Section
  pub ends : EndsWithSection at text section
  pub flags : last_flags ss ≡ Some section.shape.flags

pub last_stands : (front : List At) (at : At) (ss : List Section) (text : List ℕ) → text ≡ sections_text ss
    → ArePlacesOf (front ++ at ∷ []) ss → AllByRecursion FitsSection ss → LastStands at text ss
last_stands [] at [] text parts are fit = absurd are
last_stands [] at (s ∷ []) text parts are fit = record {
  section = s;
  ends = record { front = []; parts = parts ∙ append-nil (section_text s); is_at = are.0; fit = fit.0 };
  flags = refl;
}
last_stands [] at (s ∷ t ∷ ss) text parts are fit = absurd are.1
last_stands (a ∷ front) at [] text parts are fit = absurd are
last_stands (a ∷ []) at (s ∷ []) text parts are fit = absurd are.1
last_stands (a ∷ b ∷ front) at (s ∷ []) text parts are fit = absurd are.1
last_stands (a ∷ front) at (s ∷ t ∷ ss) text parts are fit =
    let rest = last_stands front at (t ∷ ss) (sections_text (t ∷ ss)) refl are.1 fit.1 in
    record {
      section = rest.section;
      ends = record {
        front = section_text s ++ rest.ends.front;
        parts = parts ∙ (ap (λ (w : List ℕ). section_text s ++ w) rest.ends.parts
            ∙ sym (append_assoc (section_text s) rest.ends.front (section_text rest.section)));
        is_at = rest.ends.is_at;
        fit = rest.ends.fit;
      };
      flags = rest.flags;
    }

abbrev pub whole_len : At → ℕ
whole_len at = at.head + at.columns + at.name + 1 + at.size

section_text_long : (at : At) (s : Section) → IsPlaceOf at s → whole_len at ≡ length (section_text s)
section_text_long at s is =
    let count = varint (length s.shape.flags) in
    let body = changes_bytes s.changes in
    let whole = laid_out count s.shape.flags s.shape.name body [] in
    omega (
      arith,
      is.head,
      is.columns,
      is.name,
      is.size,
      ap length (append-nil (section_text s)),
      ap length whole,
      length-append (84 ∷ count) (s.shape.flags ++ (s.shape.name ++ (0 ∷ (body ++ [])))),
      length-append s.shape.flags (s.shape.name ++ (0 ∷ (body ++ []))),
      length-append s.shape.name (0 ∷ (body ++ [])),
      length-append body [],
    )

pub long_enough : (at : At) (text : List ℕ) (s : Section) → EndsWithSection at text s → whole_len at ≤ length text
long_enough at text s e =
    omega (arith, section_text_long at s e.is_at, ap length e.parts, length-append e.front (section_text s))

pub last_cut : (at : At) (text : List ℕ) (s : Section) → EndsWithSection at text s
    → drop (length text - whole_len at) text ≡ section_text s
last_cut at text s e =
    let long = section_text_long at s e.is_at in
    let at_front : length e.front ≡ length text - whole_len at =
    omega (arith, long, ap length e.parts, length-append e.front (section_text s)) in
    ap (drop (length text - whole_len at)) e.parts
    ∙ drop_at e.front (section_text s) (length text - whole_len at) at_front

pub parts_in : (at : At) (text section : List ℕ) (s : Section) → EndsWithSection at text s
    → section ≡ drop (length text - whole_len at) text
    → (at.head ≤ length section) × (at.columns ≤ length (drop at.head section))
    × (take at.columns (drop at.head section) ≡ s.shape.flags)
parts_in at text section s e is =
    let own : section ≡ section_text s ++ [] = is ∙ (last_cut at text s e ∙ sym (append-nil (section_text s))) in
    let count = varint (length s.shape.flags) in
    let h = section_stands at s section [] e.is_at e.fit own in
    let whole = own ∙ laid_out count s.shape.flags s.shape.name (changes_bytes s.changes) [] in
    let a = cut_front section (84 ∷ count) (s.shape.flags ++ (s.shape.name ++ (0 ∷ (changes_bytes s.changes ++ [])))) at.head
    whole (omega (arith, e.is_at.head)) in
    let b = cut_front (drop at.head section) s.shape.flags (s.shape.name ++ (0 ∷ (changes_bytes s.changes ++ []))) at.columns a.1
    e.is_at.columns in
    (h.head_in, h.columns_in, b.0)
