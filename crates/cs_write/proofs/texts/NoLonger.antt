-- The canonical text is no longer than the text that was parsed.
use Rattle.std.proofs.Common.{◌≡◌, ℕ, zero, suc, ◌+◌, ◌<◌, ◌≤◌, Bool, true, false, cond, inl, inr, List, [], ◌∷◌, ◌++◌}
use Rattle.std.proofs.Common.{length, get_or, refl, sym, ap, subst, ◌∙◌, append_assoc, arith}
use Rattle.std.specs.Prelude.{nat_lt}
use Rattle.std.specs.List.{flat_map}
use Rattle.std.proofs.lemmas.Bool.{cases_Bool, ltb-false}
use Rattle.std.proofs.lemmas.Grind.{flat_map-append}
use Rattle.std.proofs.lemmas.List.{length-append, append-nil}
use Rattle.cs_model.specs.declared.value.Value.TheVariants.{Integer, Text, Blob, Null}
use Rattle.cs_model.specs.declared.value.Field.{Field}
use Rattle.cs_model.specs.declared.value.Field.TheVariants.{Undefined, Is}
use Rattle.cs_model.specs.declared.shape.Shape.{Shape}
use Rattle.cs_model.specs.declared.change.Change.{Change}
use Rattle.cs_model.specs.Section.{Section}
use Rattle.cs_model.specs.Schema.{same_shape}
use Rattle.cs_model.specs.Varint.{IsVarint, varint}
use Rattle.cs_model.specs.FieldBytes.{field_bytes}
use Rattle.cs_model.specs.Text.{SpellsBytes, SpellsField, SpellsEach, SpellsChange, SpellsHeader, SpellsSection, Spells}
use Rattle.cs_model.specs.Changeset.{all_changes}
use Rattle.cs_write.specs.Canon.{Group, by_shape, joined_section, has_changes, canon}
use Rattle.cs_model.specs.PackedChanges.{change_bytes, changes_bytes}
use Rattle.cs_write.specs.Text.{header_text, section_text, sections_text, text_of}
use Rattle.cs_write.specs.Groups.{added}
use Rattle.cs_write.proofs.forms.Shapes.{shape_is}
use Rattle.cs_write.proofs.forms.GroupLaws.{by_shape-more, none_grouped}
use Rattle.cs_write.proofs.texts.TextLaws.{group_text, groups_are, groups_text}
use Rattle.cs_write.proofs.texts.SpellLaws.{AreSpelled, text_spelled}

abbrev NoLongerAreBytes : List ℕ → Type 0
NoLongerAreBytes text = (i : ℕ) → get_or text i 0 < 256

abbrev pub AreShortest : Type 0
AreShortest = (bytes : List ℕ) (n : ℕ) → ((i : ℕ) → get_or bytes i 0 < 256) → IsVarint bytes n → length (varint n)
    ≤ length bytes

no_longer_front_bytes : (xs ys : List ℕ) → NoLongerAreBytes (xs ++ ys) → NoLongerAreBytes xs
no_longer_front_bytes [] ys are i = omega arith
no_longer_front_bytes (x ∷ xs) ys are zero = are 0
no_longer_front_bytes (x ∷ xs) ys are (suc i) = no_longer_front_bytes xs ys (λ k. are (suc k)) i

back_bytes : (xs ys : List ℕ) → NoLongerAreBytes (xs ++ ys) → NoLongerAreBytes ys
back_bytes [] ys are = are
back_bytes (x ∷ xs) ys are = back_bytes xs ys (λ k. are (suc k))

-- ---- spellings, part by part

no_longer_counted : AreShortest → (text bytes : List ℕ) → NoLongerAreBytes text → SpellsBytes text bytes
    → length (varint (length bytes) ++ bytes) ≤ length text
no_longer_counted shortest text bytes are h =
    let count = shortest h.count (length bytes)
    (no_longer_front_bytes h.count bytes (subst NoLongerAreBytes h.parts are)) h.is_count in
    omega (arith, count, ap length h.parts, length-append h.count bytes, length-append (varint (length bytes)) bytes)

each : {A : Type 0} (Spelling : List ℕ → A → Type 0) (canonical : A → List ℕ)
    → ((text : List ℕ) (x : A) → NoLongerAreBytes text → Spelling text x → length (canonical x) ≤ length text)
    → (text : List ℕ) (xs : List A) → NoLongerAreBytes text → SpellsEach Spelling text xs
    → length (flat_map canonical xs) ≤ length text
each Spelling canonical one text [] are h = omega arith
each Spelling canonical one text (x ∷ xs) are h =
    let both = subst NoLongerAreBytes h.2 are in
    let first = one h.0 x (no_longer_front_bytes h.0 h.1 both) h.3 in
    let rest = each Spelling canonical one h.1 xs (back_bytes h.0 h.1 both) h.4 in
    omega (
      arith,
      first,
      rest,
      ap length h.2,
      length-append h.0 h.1,
      length-append (canonical x) (flat_map canonical xs),
    )

field_least : AreShortest → (text : List ℕ) (f : Field) → NoLongerAreBytes text → SpellsField text f
    → length (field_bytes f) ≤ length text
field_least shortest text Undefined are h = omega (arith, ap length h)
field_least shortest text (Is (Integer n)) are h = omega (arith, ap length h)
field_least shortest text (Is (Text bytes)) are h =
    omega (
      arith,
      ap length h.1,
      no_longer_counted shortest h.0 bytes (back_bytes (3 ∷ []) h.0 (subst NoLongerAreBytes h.1 are)) h.2,
    )
field_least shortest text (Is (Blob bytes)) are h =
    omega (
      arith,
      ap length h.1,
      no_longer_counted shortest h.0 bytes (back_bytes (4 ∷ []) h.0 (subst NoLongerAreBytes h.1 are)) h.2,
    )
field_least shortest text (Is Null) are h = omega (arith, ap length h)

change_least : AreShortest → (text : List ℕ) (change : Change) → NoLongerAreBytes text → SpellsChange text change
    → length (change_bytes change) ≤ length text
change_least shortest text change are h =
    let both : NoLongerAreBytes (h.old ++ h.new) = λ i. subst NoLongerAreBytes h.parts are (suc (suc i)) in
    let old = each SpellsField field_bytes (field_least shortest) h.old change.before
    (no_longer_front_bytes h.old h.new both) h.is_old in
    let new = each SpellsField field_bytes (field_least shortest) h.new change.after (back_bytes h.old h.new both)
    h.is_new in
    omega (arith, old, new, ap length h.parts, length-append {A = ℕ})

header_least : AreShortest → (text : List ℕ) (shape : Shape) → NoLongerAreBytes text → SpellsHeader text shape
    → length (header_text shape) ≤ length text
header_least shortest text shape are h =
    let end : List ℕ = shape.flags ++ (shape.name ++ 0 ∷ []) in
    let parts : text ≡ 84 ∷ (h.count ++ end) = h.parts ∙ ap (λ w. 84 ∷ w) (simp append_assoc) in
    let count = shortest h.count (length shape.flags)
    (no_longer_front_bytes h.count end (λ i. subst NoLongerAreBytes parts are (suc i))) h.is_count in
    omega (arith, count, ap length parts, length-append h.count end, length-append (varint (length shape.flags)) end)

section_least : AreShortest → (text : List ℕ) (section : Section) → NoLongerAreBytes text → SpellsSection text section
    → length (section_text section) ≤ length text
section_least shortest text section are h =
    let both = subst NoLongerAreBytes h.parts are in
    let header = header_least shortest h.header section.shape (no_longer_front_bytes h.header h.body both)
    h.is_header in
    let body = each SpellsChange change_bytes (change_least shortest) h.body section.changes
    (back_bytes h.header h.body both) h.is_body in
    omega (
      arith,
      header,
      body,
      ap length h.parts,
      length-append h.header h.body,
      length-append (header_text section.shape) (changes_bytes section.changes),
    )

-- ---- grouping

flat_length : {A : Type 0} (text : A → List ℕ) (xs ys : List A) → length (flat_map text (xs ++ ys))
    ≡ length (flat_map text xs) + length (flat_map text ys)
flat_length text xs ys = ap length (flat_map-append text xs ys) ∙ length-append (flat_map text xs) (flat_map text ys)

-- the changes of one section more
no_longer_one_more : (ss : List Section) (s : Section) → length (changes_bytes (all_changes (ss ++ s ∷ [])))
    ≡ length (changes_bytes (all_changes ss)) + length (changes_bytes s.changes)
no_longer_one_more [] s = omega (arith, ap (λ cs. length (changes_bytes cs)) (append-nil s.changes))
no_longer_one_more (t ∷ ss) s =
    omega (
      arith,
      flat_length change_bytes t.changes (all_changes (ss ++ s ∷ [])),
      flat_length change_bytes t.changes (all_changes ss),
      no_longer_one_more ss s,
    )

-- a group's text, where this says whether it has a change
abbrev text_if : Bool → Group → List ℕ
text_if b g = cond b (section_text (joined_section g)) []

at_most : (b : Bool) (g : Group) → length (text_if b g) ≤ length (header_text g.0)
    + length (changes_bytes (all_changes g.1))
at_most true g = omega (arith, length-append (header_text g.0) (changes_bytes (all_changes g.1)))
at_most false g = omega arith

none_is_empty : (changes : List Change) → nat_lt 0 (length changes) ≡ false → length (changes_bytes changes) ≡ 0
none_is_empty [] h = refl
none_is_empty (c ∷ changes) h = absurd (omega (arith, ltb-false 0 (length (c ∷ changes)) h))

-- what a group's text has is its changes at least
at_least : (b : Bool) (g : Group) → has_changes (joined_section g) ≡ b → length (changes_bytes (all_changes g.1))
    ≤ length (text_if b g)
at_least true g h = omega (arith, length-append (header_text g.0) (changes_bytes (all_changes g.1)))
at_least false g h = omega (arith, none_is_empty (all_changes g.1) h)

-- A section joins a group: the group's header is as long as that of the section, so where the group had no text
-- its header is paid for by the section's.
joins_least : (g : Group) (s : Section) → same_shape s.shape g.0 ≡ true → length (group_text (g.0, g.1 ++ s ∷ []))
    ≤ length (group_text g) + length (section_text s)
joins_least g s hit =
    let more : Group = (g.0, g.1 ++ s ∷ []) in
    let most = at_most (has_changes (joined_section more)) more in
    let least = at_least (has_changes (joined_section g)) g refl in
    let header : length (header_text s.shape) ≡ length (header_text g.0) =
    ap (λ (w : Shape). length (header_text w)) (shape_is s.shape g.0 hit) in
    omega (
      arith,
      most,
      least,
      header,
      no_longer_one_more g.1 s,
      length-append (header_text s.shape) (changes_bytes s.changes),
    )

first_least : (s : Section) → length (group_text (s.shape, s ∷ [])) ≤ length (section_text s)
first_least s =
    let first : Group = (s.shape, s ∷ []) in
    omega (
      arith,
      at_most (has_changes (joined_section first)) first,
      no_longer_one_more [] s,
      length-append (header_text s.shape) (changes_bytes s.changes),
    )

added_least : (groups : List Group) (s : Section) → length (groups_text (added groups s)) ≤ length (groups_text groups)
    + length (section_text s)
added_least [] s = omega (arith, first_least s, length-append (group_text (s.shape, s ∷ [])) [])
added_least (g ∷ groups) s =
    let whole = length-append (group_text g) (groups_text groups) in
    elim (cases_Bool (same_shape s.shape g.0)) [
      | inl hit ↦
          let is = ap (λ b. length (groups_text (cond b ((g.0, g.1 ++ s ∷ []) ∷ groups) (g ∷ added groups s)))) hit in
          omega (
            arith,
            is,
            whole,
            joins_least g s hit,
            length-append (group_text (g.0, g.1 ++ s ∷ []))
                (groups_text groups),
          )
      | inr other ↦
          let is = ap (λ b. length (groups_text (cond b ((g.0, g.1 ++ s ∷ []) ∷ groups) (g ∷ added groups s)))) other in
          omega (arith, is, whole, added_least groups s, length-append (group_text g) (groups_text (added groups s)))
    ]

-- grouping these sections behind those adds no bytes
grouped_least : (front back : List Section) → length (groups_text (by_shape [] (front ++ back)))
    ≤ length (groups_text (by_shape [] front)) + length (sections_text back)
grouped_least front [] = omega (arith, ap (λ ss. length (groups_text (by_shape [] ss))) (append-nil front))
grouped_least front (s ∷ back) =
    let rest = grouped_least (front ++ s ∷ []) back in
    let whole : length (groups_text (by_shape [] (front ++ s ∷ back)))
    ≡ length (groups_text (by_shape [] ((front ++ s ∷ []) ++ back))) =
    ap (λ ss. length (groups_text (by_shape [] ss))) (sym (append_assoc front (s ∷ []) back)) in
    let step = ap (λ gs. length (groups_text gs)) (by_shape-more [] front s refl) in
    omega (
      arith,
      rest,
      whole,
      step,
      added_least (by_shape [] front) s,
      length-append (section_text s) (sections_text back),
    )

canon_least : (sections : List Section) → length (text_of sections) ≤ length (sections_text sections)
canon_least sections =
    omega (
      arith,
      ap length (groups_are (by_shape [] sections)),
      grouped_least [] sections,
      ap (λ gs. length (groups_text gs)) none_grouped,
    )

pub no_longer : AreShortest → (text : List ℕ) (sections : List Section) → NoLongerAreBytes text → Spells text sections
    → length (text_of sections) ≤ length text
no_longer shortest text sections are h =
    omega (
      arith,
      canon_least sections,
      each SpellsSection section_text (section_least shortest) text sections are
          h.sections,
    )

pub spelled_again : AreSpelled → AreShortest → (text : List ℕ) (sections : List Section) → NoLongerAreBytes text
    → Spells text sections → Spells (text_of sections) (canon sections)
spelled_again spelled shortest text sections are h =
    text_spelled spelled sections h.is_changeset (omega (arith, no_longer shortest text sections are h, h.within_limit))
