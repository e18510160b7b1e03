-- The faults of whole texts are exact.
use Rattle.std.proofs.Common.{◌≡◌, ◌==◌, ℕ, suc, inl, inr, Bool, true, false, cond, List, [], ◌∷◌, ◌++◌, length, Some}
use Rattle.std.proofs.Common.{None, Result, Ok, Err, refl, sym, ap, subst, ◌∙◌, append_assoc, arith}
use Rattle.std.proofs.lemmas.Bool.{cases_Bool, ne_eqb, eqb-true}
use Rattle.std.proofs.lemmas.List.{append-nil, nil_from_length}
use Rattle.cs_model.specs.Section.{Section}
use Rattle.cs_model.specs.Changeset.{IsSection}
use Rattle.cs_model.specs.Text.{SpellsEach, SpellsSection}
use Rattle.cs_parse.specs.declared.fault.FaultKind.{FaultKind}
use Rattle.cs_parse.specs.declared.fault.FaultKind.TheVariants.{Patchset, BadMarker}
use Rattle.cs_parse.specs.Place.{BytePlace, Start, wrong}
use Rattle.cs_parse.specs.Stands.{AfterSections, InSection, Stands}
use Rattle.cs_parse.specs.Fault.{Viable}
use Rattle.cs_parse.proofs.reading.Steps.{steps_are_bytes, bytes_from, bytes_to}
use Rattle.cs_parse.specs.declared.stop.ParseRefusal.{ParseRefusal}
use Rattle.cs_parse.specs.declared.stop.ParseRefusal.TheVariants.{Short, Bad}
use Rattle.cs_parse.specs.Reading.{◌>>=◌, refuse, header_at, section_at, is_empty, sections_at, many_at}
use Rattle.cs_model.specs.Bytes.{AreBytes}
use Rattle.cs_parse.proofs.reading.Steps.{steps_chosen}
use Rattle.cs_parse.proofs.reading.Loops.{loops_rest_of, many_more, many_done}
use Rattle.cs_parse.proofs.reading.TextLaws.{CanFollow, changes_behind, begins_none, section_begins, sections_take}
use Rattle.cs_parse.proofs.reading.TextLaws.{sections_again}
use Rattle.cs_parse.proofs.refusing.Exact.{Completes, ExactStopped, stopped_here, stopped_behind, are_bytes-append}
use Rattle.cs_parse.proofs.refusing.ExactMany.{ManyText, ManyPlace, many_stops, many_places, many_completes}
use Rattle.cs_parse.proofs.refusing.ExactSections.{section_exact}

abbrev pub ExactTextSectionsText : List ℕ → List Section → Type 0
ExactTextSectionsText = ManyText SpellsSection IsSection

no_sections : Completes ExactTextSectionsText []
no_sections = record { more = []; bytes = refl; value = []; whole = (refl, tt) }

-- ---- a first byte that isn't `T`

refused_first : (byte : ℕ) (rest : List ℕ) → (byte == 84) ≡ false → section_at (byte ∷ rest)
    ≡ Err (Bad (suc (length rest)) (begins_none byte))
refused_first byte rest other = section_begins byte rest
    ∙ ap (λ b. cond b (header_at rest >>= changes_behind) (refuse (begins_none byte) rest)) other

refused_text : (byte : ℕ) (rest : List ℕ) → (byte == 84) ≡ false → sections_at (byte ∷ rest)
    ≡ Err (Bad (suc (length rest)) (begins_none byte))
unfolding sections_at
refused_text byte rest other =
    many_more is_empty section_at (length rest) (byte ∷ rest) (ne_eqb (suc (length rest)) 0 (λ e. absurd cc))
    ∙ ap (λ r. r >>= loops_rest_of is_empty section_at (length rest)) (refused_first byte rest other)

exact_text_either : (b : Bool) → cond b (Some Patchset) (Some BadMarker) ≡ Some (cond b Patchset BadMarker)
exact_text_either true = refl
exact_text_either false = refl

wrong_first : (byte : ℕ) → (byte == 84) ≡ false → wrong Start byte ≡ Some (begins_none byte)
wrong_first byte other = ap (λ t. cond (byte == 80) (Some Patchset) (cond t None (Some BadMarker))) other
    ∙ exact_text_either (byte == 80)

exact_text_wrong_is : (byte : ℕ) (kind : FaultKind) → wrong Start byte ≡ Some kind → ((byte == 84) ≡ false)
    × (begins_none byte ≡ kind)
exact_text_wrong_is byte kind w =
    elim (steps_chosen (byte == 80) (Some Patchset) (cond (byte == 84) None (Some BadMarker)) (Some kind) w) as
    (λ w. ((byte == 84) ≡ false) × (begins_none byte ≡ kind)) [
      | inl h ↦
          let is = eqb-true byte 80 h.0 in
          let same : Patchset ≡ kind = cc h.1 in
          (ap (λ b. b == 84) is, ap begins_none is ∙ same)
      | inr h ↦ elim (steps_chosen (byte == 84) None (Some BadMarker) (Some kind) h.1) as
          (λ w. ((byte == 84) ≡ false) × (begins_none byte ≡ kind)) [
            | inl k ↦ absurd (cc k.1)
            | inr k ↦
                let same : BadMarker ≡ kind = cc k.1 in
                (k.0, ap (λ t. cond t Patchset BadMarker) h.0 ∙ same)
          ]
    ]

-- ---- texts

abbrev exact_text_nothing_left : Result (List Section × List ℕ) ParseRefusal
exact_text_nothing_left = Ok ([], [])

empty_text : sections_at [] ≡ exact_text_nothing_left
unfolding sections_at
empty_text = many_done is_empty section_at 0 [] (inr refl)

stands_behind : (front : List ℕ) (place : BytePlace) → ManyPlace SpellsSection IsSection InSection front place
    → Stands front place
stands_behind front place (whole, sections, part, parts, spelled, stands) =
    inr (record {
      whole = whole;
      sections = sections;
      part = part;
      parts = parts;
      spelled = spelled.0;
      is_changeset = spelled.1;
      stands = stands;
    })

behind_stops : (text : List ℕ) (left : ℕ) (kind : FaultKind) → CanFollow text → AreBytes text → sections_at text
    ≡ Err (Bad left kind) → ExactStopped ExactTextSectionsText Stands text left kind
unfolding sections_at
behind_stops text left kind follows fits e =
    stopped_behind text [] text left kind refl (λ front c. c) stands_behind
    (many_stops is_empty section_at SpellsSection IsSection CanFollow InSection section_exact (length text) text
    left kind (omega arith) follows fits e)

pub text_stops : (text : List ℕ) (left : ℕ) (kind : FaultKind) → AreBytes text → sections_at text ≡ Err (Bad left kind)
    → ExactStopped ExactTextSectionsText Stands text left kind
text_stops [] left kind fits e =
    let other : exact_text_nothing_left ≡ Err (Bad left kind) = sym empty_text ∙ e in
    absurd cc
text_stops (byte ∷ rest) left kind fits e =
    elim (cases_Bool (byte == 84)) as (λ w. ExactStopped ExactTextSectionsText Stands (byte ∷ rest) left kind) [
      | inl is ↦ behind_stops (byte ∷ rest) left kind is fits e
      | inr other ↦
          let known : Err (Bad (suc (length rest)) (begins_none byte)) ≡ Err (Bad left kind) =
          sym (refused_text byte rest other) ∙ e in
          let len : left ≡ suc (length rest) = cc known in
          let same : begins_none byte ≡ kind = cc known in
          stopped_here [] byte rest left kind Start len no_sections (inl (refl, refl))
          (wrong_first byte other ∙ ap (λ k. Some k) same)
    ]

behind_completes : (text : List ℕ) → CanFollow text → AreBytes text → sections_at text ≡ Err Short
    → Completes ExactTextSectionsText text
unfolding sections_at
behind_completes text follows fits e =
    many_completes is_empty section_at SpellsSection IsSection CanFollow InSection section_exact (length text) text
    (omega arith) follows fits e

pub text_completes : (text : List ℕ) → AreBytes text → sections_at text ≡ Err Short
    → Completes ExactTextSectionsText text
text_completes [] fits e = no_sections
text_completes (byte ∷ rest) fits e =
    elim (cases_Bool (byte == 84)) as (λ w. Completes ExactTextSectionsText (byte ∷ rest)) [
      | inl is ↦ behind_completes (byte ∷ rest) is fits e
      | inr other ↦
          let known : Err (Bad (suc (length rest)) (begins_none byte)) ≡ Err Short = sym (refused_text byte rest other)
          ∙ e in
          absurd cc
    ]

behind_places : (front : List ℕ) (place : BytePlace) (byte : ℕ) (kind : FaultKind) (more : List ℕ)
    → AfterSections front place → wrong place byte ≡ Some kind → sections_at (front ++ byte ∷ more)
    ≡ Err (Bad (suc (length more)) kind)
unfolding sections_at
behind_places front place byte kind more h w =
    let rest = h.whole ++ (h.part ++ byte ∷ more) in
    let whole : front ++ byte ∷ more ≡ rest = ap (λ w. w ++ byte ∷ more) h.parts
    ∙ append_assoc h.whole h.part (byte ∷ more) in
    ap (λ w. many_at is_empty section_at (length w) w) whole
    ∙ many_places is_empty section_at SpellsSection IsSection CanFollow InSection section_exact (length rest) h.whole
    h.sections h.part place byte kind more (h.spelled, h.is_changeset) h.stands w (omega arith)

pub text_places : (front : List ℕ) (place : BytePlace) (byte : ℕ) (kind : FaultKind) (more : List ℕ)
    → Stands front place → wrong place byte ≡ Some kind → sections_at (front ++ byte ∷ more)
    ≡ Err (Bad (suc (length more)) kind)
text_places front place byte kind more (inl h) w =
    let k = exact_text_wrong_is byte kind (sym (ap (λ p. wrong p byte) h.1) ∙ w) in
    ap (λ f. sections_at (f ++ byte ∷ more)) h.0 ∙ refused_text byte more k.0
    ∙ ap (λ f. Err (Bad (suc (length more)) f)) k.1
text_places front place byte kind more (inr h) w = behind_places front place byte kind more h w

-- ---- fronts that can be gone on with

pub viable_by : (text : List ℕ) → Completes ExactTextSectionsText text → Viable text
viable_by text c = record {
  more = c.more;
  bytes = bytes_from c.more c.bytes;
  sections = c.value;
  is_changeset = c.whole.1;
  spelled = c.whole.0;
}

pub viable_whole : (text : List ℕ) (x : List Section × List ℕ) → AreBytes text → sections_at text ≡ Ok x → Viable text
viable_whole text x fits e =
    let t = sections_take text x fits e in
    let nothing : x.1 ≡ [] = nil_from_length x.1 (eqb-true (length x.1) 0 t.2) in
    let whole : text ++ [] ≡ t.0.text = append-nil text ∙ t.0.parts ∙ ap (λ w. t.0.text ++ w) nothing
    ∙ append-nil t.0.text in
    record {
      more = [];
      bytes = bytes_from [] refl;
      sections = x.0;
      is_changeset = t.1;
      spelled = subst (λ w. SpellsEach SpellsSection w x.0) (sym whole) t.0.spelled;
    }

pub viable_front : (front back : List ℕ) → steps_are_bytes back → Viable (front ++ back) → Viable front
viable_front front back fits v =
    record {
      more = back ++ v.more;
      bytes = bytes_from (back ++ v.more) (are_bytes-append back v.more fits (bytes_to v.more v.bytes));
      sections =
          v.sections;
      is_changeset = v.is_changeset;
      spelled =
          subst (λ w. SpellsEach SpellsSection w v.sections) (append_assoc front back v.more) v.spelled;
    }

abbrev all_read : List Section → Result (List Section × List ℕ) ParseRefusal
all_read sections = Ok (sections, [])

-- a text with a byte that is wrong where it stands can't be gone on with
pub not_viable : (front : List ℕ) (place : BytePlace) (byte : ℕ) (kind : FaultKind) (back : List ℕ) → Stands front place
    → wrong place byte ≡ Some kind → Viable (front ++ byte ∷ back) → ⊥
not_viable front place byte kind back stands w v =
    let read = sections_again ((front ++ byte ∷ back) ++ v.more) v.sections v.spelled v.is_changeset in
    let refused = text_places front place byte kind (back ++ v.more) stands w in
    let both : Err (Bad (suc (length (back ++ v.more))) kind) ≡ all_read v.sections =
    sym refused ∙ ap sections_at (sym (append_assoc front (byte ∷ back) v.more)) ∙ read in
    absurd cc
