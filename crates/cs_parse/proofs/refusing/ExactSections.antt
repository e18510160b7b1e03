-- The faults of sections are exact.
use Rattle.std.proofs.Common.{◌≡◌, ℕ, suc, inl, inr, false, List, [], ◌∷◌, ◌++◌, length, Some, Ok, Err, refl, sym, ap}
use Rattle.std.proofs.Common.{subst, ◌∙◌, append_assoc, arith}
use Rattle.std.proofs.lemmas.Bool.{eqb-true, ne_eqb}
use Rattle.std.proofs.lemmas.List.{append-nil}
use Rattle.cs_model.specs.declared.shape.Shape.{Shape}
use Rattle.cs_model.specs.declared.change.Change.{Change}
use Rattle.cs_model.specs.Section.{Section}
use Rattle.cs_model.specs.Changeset.{IsSection}
use Rattle.cs_model.specs.Text.{SpellsChange, SpellsSection}
use Rattle.cs_parse.specs.declared.fault.FaultKind.{FaultKind}
use Rattle.cs_parse.specs.Place.{BytePlace, wrong}
use Rattle.cs_parse.specs.Stands.{AtChange, InSection}
use Rattle.cs_parse.specs.declared.stop.ParseRefusal.TheVariants.{Short, Bad}
use Rattle.cs_parse.specs.Reading.{◌>>=◌, change_at, ends_section, changes_at, header_at, section_at, is_empty}
use Rattle.cs_model.specs.Bytes.{AreBytes}
use Rattle.cs_parse.proofs.reading.Steps.{back_fits, bind_ok, ok_is}
use Rattle.cs_parse.proofs.reading.HeaderLaws.{header_again}
use Rattle.cs_parse.proofs.reading.ChangeLaws.{IsChangeBy, IsAny, change_reader, changes_take}
use Rattle.cs_parse.proofs.reading.TextLaws.{sectioned, changes_behind, nothing_taken, CanFollow, marked_again}
use Rattle.cs_parse.proofs.reading.TextLaws.{section_reader}
use Rattle.cs_parse.proofs.refusing.Exact.{Completes, ExactStopped, stopped_behind, bind_err}
use Rattle.cs_parse.proofs.refusing.ExactHeader.{HeaderSpelled, header_exact}
use Rattle.cs_parse.proofs.refusing.ExactChanges.{exact_change_stops, change_places, change_completes}
use Rattle.cs_parse.proofs.refusing.ExactMany.{ItemText, ManyText, ManyPlace, IsExact, many_stops, many_places}
use Rattle.cs_parse.proofs.refusing.ExactMany.{many_completes}

-- ---- a section's changes

abbrev ChangesText : List ℕ → List ℕ → List Change → Type 0
ChangesText flags = ManyText SpellsChange (IsChangeBy flags)

abbrev ChangesPlace : List ℕ → List ℕ → BytePlace → Type 0
ChangesPlace flags = ManyPlace SpellsChange (IsChangeBy flags) (AtChange flags)

change_exact : (flags : List ℕ) → IsExact ends_section (change_at flags) SpellsChange (IsChangeBy flags) IsAny
    (AtChange flags)
change_exact flags = record {
  reader = change_reader flags;
  leaves = λ bytes x follows fits e. tt;
  stops = λ bytes left kind more follows fits e. exact_change_stops flags bytes left kind more fits e;
  places = λ front place byte kind more h w.
      let p = change_places flags front place byte kind more h w in
      (p.0, tt, p.1);
  completes = λ bytes more follows fits e. change_completes flags bytes fits e;
}

changes_stops : (flags bytes : List ℕ) (left : ℕ) (kind : FaultKind) → AreBytes bytes → changes_at flags bytes
    ≡ Err (Bad left kind) → ExactStopped (ChangesText flags) (ChangesPlace flags) bytes left kind
unfolding changes_at
changes_stops flags bytes left kind fits e =
    many_stops ends_section (change_at flags) SpellsChange (IsChangeBy flags) IsAny (AtChange flags)
    (change_exact flags) (length bytes) bytes left kind (omega arith) tt fits e

changes_complete : (flags bytes : List ℕ) → AreBytes bytes → changes_at flags bytes ≡ Err Short
    → Completes (ChangesText flags) bytes
unfolding changes_at
changes_complete flags bytes fits e =
    many_completes ends_section (change_at flags) SpellsChange (IsChangeBy flags) IsAny (AtChange flags)
    (change_exact flags) (length bytes) bytes (omega arith) tt fits e

changes_place : (flags whole : List ℕ) (xs : List Change) (part : List ℕ) (place : BytePlace) (byte : ℕ)
    (kind : FaultKind) (more : List ℕ) → ChangesText flags whole xs → AtChange flags part place → wrong place byte
    ≡ Some kind
    → changes_at flags (whole ++ (part ++ byte ∷ more)) ≡ Err (Bad (suc (length more)) kind)
unfolding changes_at
changes_place flags whole xs part place byte kind more h stands w =
    many_places ends_section (change_at flags) SpellsChange (IsChangeBy flags) IsAny (AtChange flags)
    (change_exact flags) (length (whole ++ (part ++ byte ∷ more))) whole xs part place byte kind more h stands w
    (omega arith)

-- ---- a section

abbrev ExactSectionsSectionText : List ℕ → Section → Type 0
ExactSectionsSectionText = ItemText SpellsSection IsSection

begun_completes : (front : List ℕ) → Completes HeaderSpelled front → Completes ExactSectionsSectionText (84 ∷ front)
begun_completes front c =
    let header = 84 ∷ (front ++ c.more) in
    let section : Section = record { shape = c.value; changes = [] } in
    let spelled : SpellsSection header section =
    record { header = header; body = []; parts = sym (append-nil header); is_header = c.whole.0; is_body = refl } in
    record { more = c.more; bytes = c.bytes; value = section; whole = (spelled, (c.whole.1, tt)) }

section_behind : (header : List ℕ) (shape : Shape) (front : List ℕ) → HeaderSpelled header shape
    → Completes (ChangesText shape.flags) front → Completes ExactSectionsSectionText (84 ∷ (header ++ front))
section_behind header shape front h c =
    let text = 84 ∷ ((header ++ front) ++ c.more) in
    let section : Section = record { shape = shape; changes = c.value } in
    let spelled : SpellsSection text section =
    record {
      header = 84 ∷ header;
      body = front
          ++ c.more;
      parts = ap (λ w. 84 ∷ w) (append_assoc header front c.more);
      is_header = h.0;
      is_body = c.whole.0;
    }
    in
    record { more = c.more; bytes = c.bytes; value = section; whole = (spelled, (h.1, c.whole.1)) }

changes_stand : (header : List ℕ) (shape : Shape) (front : List ℕ) (place : BytePlace) → HeaderSpelled header shape
    → ChangesPlace shape.flags front place → InSection (84 ∷ (header ++ front)) place
changes_stand header shape front place h (body, changes, part, parts, spelled, stands) =
    inr (record {
      header = 84 ∷ header;
      shape = shape;
      body = body;
      changes = changes;
      part = part;
      parts = ap (λ w. 84 ∷ (header ++ w)) parts;
      is_header = h.0;
      is_shape = h.1;
      is_body = spelled.0;
      are_changes =
          spelled.1;
      stands = stands;
    })

marked_stops : (rest : List ℕ) (left : ℕ) (kind : FaultKind) → AreBytes rest → section_at (84 ∷ rest)
    ≡ Err (Bad left kind) → ExactStopped ExactSectionsSectionText InSection (84 ∷ rest) left kind
marked_stops rest left kind fits e =
    elim (bind_err (header_at rest) changes_behind (Bad left kind) (sym (marked_again rest) ∙ e)) as
    (λ w. ExactStopped ExactSectionsSectionText InSection (84 ∷ rest) left kind) [
      | inl h ↦ stopped_behind (84 ∷ rest) (84 ∷ []) rest left kind refl begun_completes
          (λ front place s. inl (front, refl, s)) (header_exact.stops rest left kind fits h)
      | inr h ↦
          let shape = h.0.0 in
          let t = header_exact.takes rest h.0 fits h.1 in
          elim (bind_err (changes_at shape.flags h.0.1) (sectioned shape) (Bad left kind) h.2) as
          (λ w. ExactStopped ExactSectionsSectionText InSection (84 ∷ rest) left kind) [
            | inl k ↦ stopped_behind (84 ∷ rest) (84 ∷ t.text) h.0.1 left kind (ap (λ w. 84 ∷ w) t.parts)
                (λ front c. section_behind t.text shape front t.spelled c)
                (λ front place s. changes_stand t.text shape front place t.spelled s)
                (changes_stops shape.flags h.0.1 left kind (back_fits rest t.text h.0.1 t.parts fits) k)
            | inr k ↦ absurd (cc k.2)
          ]
    ]

marked_completes : (rest : List ℕ) → AreBytes rest → section_at (84 ∷ rest) ≡ Err Short
    → Completes ExactSectionsSectionText (84 ∷ rest)
marked_completes rest fits e = elim (bind_err (header_at rest) changes_behind Short (sym (marked_again rest) ∙ e)) as
    (λ w. Completes ExactSectionsSectionText (84 ∷ rest)) [
      | inl h ↦ begun_completes rest (header_exact.completes rest fits h)
      | inr h ↦
          let shape = h.0.0 in
          let t = header_exact.takes rest h.0 fits h.1 in
          elim (bind_err (changes_at shape.flags h.0.1) (sectioned shape) Short h.2) as
          (λ w. Completes ExactSectionsSectionText (84 ∷ rest)) [
            | inl k ↦ subst (λ w. Completes ExactSectionsSectionText (84 ∷ w)) (sym t.parts)
                (section_behind t.text shape h.0.1 t.spelled
                (changes_complete shape.flags h.0.1 (back_fits rest t.text h.0.1 t.parts fits) k))
            | inr k ↦ absurd (cc k.2)
          ]
    ]

-- bytes that may follow a section, and are some, begin with `T`
begins_so : (bytes : List ℕ) → is_empty bytes ≡ false → CanFollow bytes → (rest : List ℕ) × (bytes ≡ 84 ∷ rest)
begins_so [] more follows = absurd (cc more)
begins_so (byte ∷ rest) more follows = (rest, ap (λ b. b ∷ rest) (eqb-true byte 84 follows))

exact_sections_rest_fits : (bytes rest : List ℕ) → bytes ≡ 84 ∷ rest → AreBytes bytes → AreBytes rest
exact_sections_rest_fits bytes rest e fits = back_fits bytes (84 ∷ []) rest e fits

section_stops : (bytes : List ℕ) (left : ℕ) (kind : FaultKind) → is_empty bytes ≡ false → CanFollow bytes
    → AreBytes bytes → section_at bytes ≡ Err (Bad left kind)
    → ExactStopped ExactSectionsSectionText InSection bytes left kind
section_stops bytes left kind more follows fits e =
    let b = begins_so bytes more follows in
    subst (λ w. ExactStopped ExactSectionsSectionText InSection w left kind) (sym b.1)
    (marked_stops b.0 left kind (exact_sections_rest_fits bytes b.0 b.1 fits) (ap section_at (sym b.1) ∙ e))

section_completes : (bytes : List ℕ) → is_empty bytes ≡ false → CanFollow bytes → AreBytes bytes → section_at bytes
    ≡ Err Short → Completes ExactSectionsSectionText bytes
section_completes bytes more follows fits e =
    let b = begins_so bytes more follows in
    subst (λ w. Completes ExactSectionsSectionText w) (sym b.1)
    (marked_completes b.0 (exact_sections_rest_fits bytes b.0 b.1 fits) (ap section_at (sym b.1) ∙ e))

marked_leaves : (rest : List ℕ) (x : Section × List ℕ) → AreBytes rest → section_at (84 ∷ rest) ≡ Ok x → CanFollow x.1
marked_leaves rest x fits e =
    let a = bind_ok (header_at rest) changes_behind x (sym (marked_again rest) ∙ e) in
    let b = bind_ok (changes_at a.0.0.flags a.0.1) (sectioned a.0.0) x a.2 in
    let t = header_exact.takes rest a.0 fits a.1 in
    let left = (changes_take a.0.0.flags a.0.1 b.0 (back_fits rest t.text a.0.1 t.parts fits) b.1).2 in
    let section : Section = record { shape = a.0.0; changes = b.0.0 } in
    subst (λ (y : Section × List ℕ). CanFollow y.1) (ok_is (section, b.0.1) x b.2) left

section_leaves : (bytes : List ℕ) (x : Section × List ℕ) → CanFollow bytes → AreBytes bytes → section_at bytes ≡ Ok x
    → CanFollow x.1
section_leaves [] x follows fits e = absurd (nothing_taken x e)
section_leaves (byte ∷ rest) x follows fits e =
    let is = eqb-true byte 84 follows in
    marked_leaves rest x (λ i. fits (suc i)) (ap (λ b. section_at (b ∷ rest)) (sym is) ∙ e)

-- a section's reader refuses this byte, and comes to it
abbrev ExactSectionsRefusedAt : List ℕ → ℕ → FaultKind → Type 0
ExactSectionsRefusedAt bytes left kind = (is_empty bytes ≡ false) × CanFollow bytes
    × (section_at bytes ≡ Err (Bad left kind))

marked_refused : (rest : List ℕ) (left : ℕ) (kind : FaultKind) → (header_at rest >>= changes_behind)
    ≡ Err (Bad left kind) → ExactSectionsRefusedAt (84 ∷ rest) left kind
marked_refused rest left kind e = (ne_eqb (suc (length rest)) 0 (λ z. absurd cc), refl, marked_again rest ∙ e)

regroup : (a b c d : List ℕ) → (a ++ (b ++ c)) ++ d ≡ a ++ (b ++ (c ++ d))
regroup a b c d = simp append_assoc

section_places : (front : List ℕ) (place : BytePlace) (byte : ℕ) (kind : FaultKind) (more : List ℕ)
    → InSection front place → wrong place byte ≡ Some kind
    → ExactSectionsRefusedAt (front ++ byte ∷ more) (suc (length more)) kind
section_places front place byte kind more (inl (rest, is, h)) w =
    let refused = marked_refused (rest ++ byte ∷ more) (suc (length more)) kind
    (ap (λ r. r >>= changes_behind) (header_exact.places rest place byte kind more h w)) in
    subst (λ f. ExactSectionsRefusedAt (f ++ byte ∷ more) (suc (length more)) kind) (sym is) refused
section_places front place byte kind more (inr h) w =
    let shape = h.shape in
    let header = h.is_header.count ++ shape.flags ++ shape.name ++ 0 ∷ [] in
    let rest = h.body ++ (h.part ++ byte ∷ more) in
    let changes = changes_place shape.flags h.body h.changes h.part place byte kind more (h.is_body, h.are_changes)
    h.stands w in
    let read = ap (λ r. r >>= changes_behind) (header_again h.header shape rest h.is_header h.is_shape)
    ∙ ap (λ r. r >>= sectioned shape) changes in
    let whole : front ++ byte ∷ more ≡ 84 ∷ (header ++ rest) =
    ap (λ w. w ++ byte ∷ more) (h.parts ∙ ap (λ w. w ++ (h.body ++ h.part)) h.is_header.parts)
    ∙ ap (λ w. 84 ∷ w) (regroup header h.body h.part (byte ∷ more)) in
    subst (λ w. ExactSectionsRefusedAt w (suc (length more)) kind) (sym whole)
    (marked_refused (header ++ rest) (suc (length more)) kind read)

pub section_exact : IsExact is_empty section_at SpellsSection IsSection CanFollow InSection
section_exact = record {
  reader = section_reader;
  leaves = section_leaves;
  stops = section_stops;
  places = section_places;
  completes = section_completes;
}
