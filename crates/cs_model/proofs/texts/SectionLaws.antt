-- Sections in their text: the text of a list of sections reads back as that list.
use Rattle.std.proofs.Common.{◌≡◌, ℕ, ◌≤◌, List, [], ◌∷◌, ◌++◌, length, take, drop, refl, sym, ap}
use Rattle.std.proofs.Common.{subst, ◌∙◌, arith, length-append, append_assoc}
use Rattle.std.specs.List.{AllByRecursion}
use Rattle.std.proofs.Math.Seq.{take-append_seam, drop-append_seam}
use Rattle.std.proofs.lemmas.List.{length-take-le}
use Rattle.cs_model.specs.declared.change.Change.{Change}
use Rattle.cs_model.specs.PackedChanges.{AreCanonical, changes_bytes, unpacked_changes}
use Rattle.cs_model.specs.Section.{Section}
use Rattle.cs_model.specs.Varint.{varint}
use Rattle.cs_model.proofs.packing.PackedChangeLaws.{packed_again}
use Rattle.cs_model.proofs.packing.PackedChangeLaws as changes
use Rattle.cs_model.specs.SectionText.{section_text, sections_text}
use Rattle.cs_model.specs.declared.at.At.{At}
use Rattle.cs_model.specs.Sections.{from_flags, from_name, from_changes, after_section, first_section, sections_by}
use Rattle.cs_model.specs.Sections.{FitsSection, IsPlaceOf, ArePlacesOf, IsText, StartsSection}

pub cut_front : (whole front back : List ℕ) (n : ℕ) → whole ≡ front ++ back → n ≡ length front
    → (take n whole ≡ front) × (drop n whole ≡ back)
cut_front whole front back n is long = (
  ap (λ (k : ℕ). take k whole) long ∙ (ap (take (length front)) is ∙ take-append_seam front back),
  ap (λ (k : ℕ). drop k whole) long ∙ (ap (drop (length front)) is ∙ drop-append_seam front back),
)

cut_within : (whole front back : List ℕ) (n : ℕ) → whole ≡ front ++ back → n ≡ length front → n ≤ length whole
cut_within whole front back n is long = omega (arith, long, ap length is, length-append front back)

pub laid_out : (c f n b r : List ℕ) → ((84 ∷ (c ++ (f ++ (n ++ 0 ∷ [])))) ++ b) ++ r
    ≡ (84 ∷ c) ++ (f ++ (n ++ (0 ∷ (b ++ r))))
laid_out c f n b r = simp append_assoc refl

abbrev pub the_section : List ℕ → List ℕ → List Change → Section
the_section name flags cs = record { shape = record { name = name; flags = flags }; changes = cs }

-- what is read of a section, and that each part is within the bytes
pub record SectionStands (at : At) (s : Section) (bytes rest : List ℕ) : Type 0 where
  pub section : first_section at bytes ≡ s
  pub behind : after_section at bytes ≡ rest
  pub head_in : at.head ≤ length bytes
  pub columns_in : at.columns ≤ length (from_flags at bytes)
  pub name_in : at.name ≤ length (from_name at bytes)
  pub zero_in : 1 ≤ length (drop at.name (from_name at bytes))
  pub size_in : at.size ≤ length (from_changes at bytes)
  pub canonical : AreCanonical (length (take at.columns (from_flags at bytes)))
      (take at.size (from_changes at bytes))
  pub count : at.count ≡ length (unpacked_changes (length (take at.columns (from_flags at bytes)))
      (take at.size (from_changes at bytes)))

pub section_stands : (at : At) (s : Section) (bytes rest : List ℕ) → IsPlaceOf at s → FitsSection s
    → bytes ≡ section_text s ++ rest → SectionStands at s bytes rest
unfolding first_section after_section
section_stands at s bytes rest is valid parts =
    let flags = s.shape.flags in
    let name = s.shape.name in
    let body = changes_bytes s.changes in
    let count = varint (length flags) in
    let whole : bytes ≡ (84 ∷ count) ++ (flags ++ (name ++ (0 ∷ (body ++ rest)))) =
    parts ∙ laid_out count flags name body rest in
    let long : at.head ≡ length (84 ∷ count) = omega (arith, is.head) in
    let a = cut_front bytes (84 ∷ count) (flags ++ (name ++ (0 ∷ (body ++ rest)))) at.head whole long in
    let b = cut_front (from_flags at bytes) flags (name ++ (0 ∷ (body ++ rest))) at.columns a.1 is.columns in
    let d = cut_front (from_name at bytes) name (0 ∷ (body ++ rest)) at.name b.1 is.name in
    let e : from_changes at bytes ≡ body ++ rest = ap (drop 1) d.1 in
    let g = cut_front (from_changes at bytes) body rest at.size e is.size in
    let made = changes.made (length flags) body s.changes refl valid in
    let same : length (take at.columns (from_flags at bytes)) ≡ length flags = ap length b.0 in
    let canonical : AreCanonical (length (take at.columns (from_flags at bytes)))
    (take at.size (from_changes at bytes)) = rw (same, g.0) made.1 in
    let said : unpacked_changes at.columns (take at.size (from_changes at bytes)) ≡ s.changes =
    ap (λ (k : ℕ). unpacked_changes k (take at.size (from_changes at bytes))) is.columns
    ∙ (ap (unpacked_changes (length flags)) g.0 ∙ made.0) in
    let told : unpacked_changes (length (take at.columns (from_flags at bytes)))
    (take at.size (from_changes at bytes)) ≡ s.changes = rw (same, g.0) made.0 in
    record {
      section = λ i. record { shape = record { name = d.0 i; flags = b.0 i }; changes = said i };
      behind = g.1;
      head_in = cut_within bytes (84 ∷ count) _ at.head whole long;
      columns_in = cut_within (from_flags at bytes) flags _ at.columns a.1 is.columns;
      name_in = cut_within (from_name at bytes) name _ at.name b.1 is.name;
      zero_in = omega (arith, ap length d.1);
      size_in = cut_within (from_changes at bytes) body _ at.size e is.size;
      canonical = canonical;
      count = is.count ∙ sym (ap length told);
    }

-- ---- all sections

pub sections_back : (ats : List At) (ss : List Section) (bytes : List ℕ) → bytes ≡ sections_text ss → ArePlacesOf ats ss
    → AllByRecursion FitsSection ss → sections_by ats bytes ≡ ss
sections_back [] [] bytes parts are valid = refl
sections_back [] (s ∷ ss) bytes parts are valid = absurd are
sections_back (at ∷ ats) [] bytes parts are valid = absurd are
sections_back (at ∷ ats) (s ∷ ss) bytes parts are valid =
    let here = section_stands at s bytes (sections_text ss) are.0 valid.0 parts in
    let more = sections_back ats ss (after_section at bytes) here.behind are.1 valid.1 in
    λ i. here.section i ∷ more i

pub text_made : (ats : List At) (ss : List Section) (bytes : List ℕ) → IsText ats bytes ss
    → (sections_by ats bytes ≡ ss) × IsText ats bytes (sections_by ats bytes)
text_made ats ss bytes h =
    let says = sections_back ats ss bytes h.parts h.at h.fit in
    (says, subst (λ (xs : List Section). IsText ats bytes xs) (sym says) h)

-- ---- the first section, and those behind it

pub text_starts : (at : At) (ats : List At) (bytes : List ℕ) → IsText (at ∷ ats) bytes (sections_by (at ∷ ats) bytes)
    → StartsSection at bytes (after_section at bytes)
text_starts at ats bytes h =
    let s = first_section at bytes in
    let rest = sections_text (sections_by ats (after_section at bytes)) in
    let here = section_stands at s bytes rest h.at.0 h.fit.0 h.parts in
    record {
      section = s;
      is_at = h.at.0;
      fit = h.fit.0;
      parts = h.parts ∙ ap (λ (w : List ℕ). section_text s ++ w) (sym here.behind);
    }

pub others : (at : At) (ats : List At) (bytes : List ℕ) → IsText (at ∷ ats) bytes (sections_by (at ∷ ats) bytes)
    → IsText ats (after_section at bytes) (sections_by ats (after_section at bytes))
others at ats bytes h =
    let s = first_section at bytes in
    let rest = sections_text (sections_by ats (after_section at bytes)) in
    record { parts = (section_stands at s bytes rest h.at.0 h.fit.0 h.parts).behind; at = h.at.1; fit = h.fit.1 }

-- a section as it is cut out of the bytes
pub cut_valid : (at : At) (text a flags b z d bytes : List ℕ) → StartsSection at text (after_section at text)
    → a ≡ drop at.head text → flags ≡ take at.columns a → b ≡ drop at.columns a → z ≡ drop at.name b → d ≡ drop 1 z
    → bytes ≡ take at.size d
    → AreCanonical (length flags) bytes × (at.count ≡ length (unpacked_changes (length flags) bytes))
cut_valid at text a flags b z d bytes s ea ef eb ez ed es =
    let h = section_stands at s.section text (after_section at text) s.is_at s.fit s.parts in
    let flags_is : flags ≡ take at.columns (from_flags at text) = ef ∙ ap (take at.columns) ea in
    let bytes_is : bytes ≡ take at.size (from_changes at text) =
    es ∙ ap (take at.size) (ed ∙ ap (drop 1) (ez ∙ ap (drop at.name) (eb ∙ ap (drop at.columns) ea))) in
    rw (flags_is, bytes_is) (h.canonical, h.count)

pub cut_section : (at : At) (text a flags b name z d bytes : List ℕ) → a ≡ drop at.head text → flags ≡ take at.columns a
    → b ≡ drop at.columns a → name ≡ take at.name b → z ≡ drop at.name b → d ≡ drop 1 z → bytes ≡ take at.size d
    → length flags ≡ at.columns
    → the_section name flags (unpacked_changes (length flags) bytes) ≡ first_section at text
unfolding first_section
cut_section at text a flags b name z d bytes ea ef eb en ez ed es many =
    let flags_is : flags ≡ take at.columns (from_flags at text) = ef ∙ ap (take at.columns) ea in
    let b_is : b ≡ from_name at text = eb ∙ ap (drop at.columns) ea in
    let name_is : name ≡ take at.name (from_name at text) = en ∙ ap (take at.name) b_is in
    let bytes_is : bytes ≡ take at.size (from_changes at text) =
    es ∙ ap (take at.size) (ed ∙ ap (drop 1) (ez ∙ ap (drop at.name) b_is)) in
    λ i. the_section (name_is i) (flags_is i) (unpacked_changes (many i) (bytes_is i))

pub cut_flags_long : (at : At) (text a flags : List ℕ) → StartsSection at text (after_section at text) → a ≡ drop at.head text
    → flags ≡ take at.columns a → length flags ≡ at.columns
cut_flags_long at text a flags s ea ef =
    let h = section_stands at s.section text (after_section at text) s.is_at s.fit s.parts in
    ap length (ef ∙ ap (take at.columns) ea) ∙ length-take-le at.columns (from_flags at text) h.columns_in

pub cut_rest : (at : At) (text a b z d rest : List ℕ) → a ≡ drop at.head text → b ≡ drop at.columns a
    → z ≡ drop at.name b → d ≡ drop 1 z → rest ≡ drop at.size d → rest ≡ after_section at text
unfolding after_section
cut_rest at text a b z d rest ea eb ez ed er = er
    ∙ ap (drop at.size) (ed ∙ ap (drop 1) (ez ∙ ap (drop at.name) (eb ∙ ap (drop at.columns) ea)))
