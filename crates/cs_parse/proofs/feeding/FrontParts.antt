-- Reading part by part: many changes at once, sections after sections, and what is read this way.
use Rattle.std.proofs.Common.{◌≡◌, ◌==◌, ℕ, zero, suc, ◌<◌, ◌≤◌, inl, inr, Bool, true, false, cond, List, [], ◌∷◌, ◌++◌}
use Rattle.std.proofs.Common.{length, Option, Some, None, Result, Ok, Err, refl, sym, ap, subst, ◌∙◌, append_assoc}
use Rattle.std.proofs.Common.{arith}
use Rattle.std.proofs.lemmas.Bool.{cases_Bool}
use Rattle.std.proofs.lemmas.List.{append-nil, length-append}
use Rattle.cs_model.specs.Bytes.{AreBytes}
use Rattle.cs_model.specs.declared.shape.Shape.{Shape}
use Rattle.cs_model.specs.declared.change.Change.{Change}
use Rattle.cs_model.specs.Section.{Section}
use Rattle.cs_model.specs.Changeset.{IsShape, IsSection, IsChangeset}
use Rattle.cs_model.proofs.CallerLemmas.{all_append}
use Rattle.cs_parse.specs.declared.stop.ParseRefusal.{ParseRefusal}
use Rattle.cs_parse.specs.declared.stop.ParseRefusal.TheVariants.{Bad}
use Rattle.cs_parse.specs.Front.{Front, front_at, changes_front, prefixed}
use Rattle.cs_parse.specs.Progress.{Reached, last_flags, with_changes, with_part, part_at, read_on}
use Rattle.cs_parse.specs.Reading.{◌>>=◌, refuse, header_at, shape_at, change_at, ends_section}
use Rattle.cs_parse.proofs.reading.Steps.{back_fits, bind_ok, done, ok_is, steps_chosen}
use Rattle.cs_parse.proofs.reading.HeaderLaws.{header_takes}
use Rattle.cs_parse.proofs.reading.ChangeLaws.{change_takes}
use Rattle.cs_parse.proofs.reading.TextLaws.{begins_none}
use Rattle.cs_parse.proofs.feeding.FrontLaws.{tells, front_over, front_stops, front_goes}
use Rattle.cs_parse.proofs.joining.PartLaws.{nothing_behind, part_refused, part_shorter, part_rest_fits, part_read}
use Rattle.cs_parse.proofs.joining.SectionLists.{with_none, with_both, last_same, with_changes-length, last_behind}
use Rattle.cs_parse.proofs.joining.SectionLists.{with_behind, last_some, with_valid}

-- a part takes a byte at least
a_byte : (sections : List Section) (bytes : List ℕ) (part : List Section × List ℕ) → AreBytes bytes
    → part_at sections bytes ≡ Ok part → (length part.1 < length bytes) × AreBytes part.1
a_byte sections bytes part fits e = (part_shorter sections bytes part fits e, part_rest_fits sections bytes part fits e)

-- ---- one part

abbrev pub headed : List Section → Shape × List ℕ → Result (List Section × List ℕ) ParseRefusal
headed sections shape = Ok (sections ++ record { shape = shape.0; changes = [] } ∷ [], shape.1)

abbrev pub front_parts_changed : List Section → Change × List ℕ → Result (List Section × List ℕ) ParseRefusal
front_parts_changed sections change = Ok (with_changes sections (change.0 ∷ []), change.1)

-- the next part by whether a header begins there
abbrev pub by_test : List Section → List ℕ → List ℕ → Bool → Result (List Section × List ℕ) ParseRefusal
by_test sections flags bytes ended =
    cond ended (shape_at bytes >>= headed sections) (change_at flags bytes >>= front_parts_changed sections)

pub part_by : (sections : List Section) (bytes : List ℕ) (flags : Option (List ℕ)) → last_flags sections ≡ flags
    → part_at sections bytes ≡ with_part sections flags bytes
unfolding part_at
part_by sections bytes flags last = ap (λ o. with_part sections o bytes) last

pub header_part : (sections : List Section) (bytes : List ℕ) → ends_section bytes ≡ true → part_at sections bytes
    ≡ (shape_at bytes >>= headed sections)
header_part sections bytes ended = with_any (last_flags sections) (part_by sections bytes (last_flags sections) refl)
  where
    with_any : (o : Option (List ℕ)) → part_at sections bytes ≡ with_part sections o bytes → part_at sections bytes
        ≡ (shape_at bytes >>= headed sections)
    with_any None e = e
    with_any (Some flags) e = e ∙ ap (by_test sections flags bytes) ended

pub change_part : (sections : List Section) (flags bytes : List ℕ) → last_flags sections ≡ Some flags
    → ends_section bytes ≡ false → part_at sections bytes ≡ (change_at flags bytes >>= front_parts_changed sections)
change_part sections flags bytes last more = part_by sections bytes (Some flags) last
    ∙ ap (by_test sections flags bytes) more

-- ---- many changes at once

abbrev pub behind_front : List Section → List Change → List ℕ → Option ParseRefusal → Reached
behind_front sections changes rest None = read_on (with_changes sections changes) rest
behind_front sections changes rest (Some why) =
    record { sections = with_changes sections changes; rest = rest; why = Some why }

-- what is read where these changes are
abbrev pub behind_changes : List Section → Front Change → Reached
behind_changes sections front = behind_front sections front.items front.rest front.why

abbrev halted : List ℕ → ParseRefusal → List Section → Reached
halted rest why sections = record { sections = sections; rest = rest; why = Some why }

front_parts_first_more : (sections : List Section) (change : Change) (changes : List Change) (rest : List ℕ)
    (why : Option ParseRefusal)
    → behind_front (with_changes sections (change ∷ [])) changes rest why
    ≡ behind_front sections (change ∷ changes) rest why
front_parts_first_more sections change changes rest None =
    ap (λ (s : List Section). read_on s rest) (with_both sections change changes)
front_parts_first_more sections change changes rest (Some why) =
    ap (halted rest why) (with_both sections change changes)

front_parts_stopped : (sections : List Section) (bytes : List ℕ) (why : ParseRefusal) → ends_section bytes ≡ false
    → part_at sections bytes ≡ Err why → read_on sections bytes
    ≡ record { sections = sections; rest = bytes; why = Some why }
front_parts_stopped sections [] why more e = absurd (cc more)
front_parts_stopped sections (byte ∷ bytes) why more e = part_refused sections byte bytes why e

pub changes_parts_by : (fuel : ℕ) (sections : List Section) (flags bytes : List ℕ) → last_flags sections ≡ Some flags
    → AreBytes bytes
    → read_on sections bytes ≡ behind_changes sections (front_at ends_section (change_at flags) fuel bytes)
changes_parts_by zero sections flags bytes last fits =
    ap (λ (s : List Section). read_on s bytes) (sym (with_none sections))
    ∙ ap (behind_changes sections) (sym (front_over ends_section (change_at flags) zero bytes (inr refl)))
changes_parts_by (suc fuel) sections flags bytes last fits =
    elim (cases_Bool (ends_section bytes)) as
    (λ w. read_on sections bytes
    ≡ behind_changes sections (front_at ends_section (change_at flags) (suc fuel) bytes)) [
      | inl ended ↦
          ap (λ (s : List Section). read_on s bytes) (sym (with_none sections))
          ∙ ap (behind_changes sections)
          (sym (front_over ends_section (change_at flags) (suc fuel) bytes (inl ended)))
      | inr more ↦ elim (tells (change_at flags bytes)) as
          (λ w. read_on sections bytes
          ≡ behind_changes sections (front_at ends_section (change_at flags) (suc fuel) bytes)) [
            | inl x ↦
                let t = change_takes flags bytes x.0 fits x.1 in
                let now = with_changes sections (x.0.0 ∷ []) in
                let behind = front_at ends_section (change_at flags) fuel x.0.1 in
                part_read sections bytes (now, x.0.1) fits
                (change_part sections flags bytes last more ∙ ap (λ r. r >>= front_parts_changed sections) x.1)
                ∙ changes_parts_by fuel now flags x.0.1 (last_same sections (x.0.0 ∷ []) ∙ last)
                (back_fits bytes t.0.text x.0.1 t.0.parts fits)
                ∙ front_parts_first_more sections x.0.0 behind.items behind.rest behind.why
                ∙ ap (behind_changes sections)
                (sym (front_goes ends_section (change_at flags) fuel bytes x.0.0 x.0.1 more x.1))
            | inr e ↦
                front_parts_stopped sections bytes e.0 more
                (change_part sections flags bytes last more ∙ ap (λ r. r >>= front_parts_changed sections) e.1)
                ∙ ap (halted bytes e.0) (sym (with_none sections))
                ∙ ap (behind_changes sections)
                (sym (front_stops ends_section (change_at flags) fuel bytes e.0 more e.1))
          ]
    ]

pub front_parts_changes_parts : (sections : List Section) (flags bytes : List ℕ) → last_flags sections ≡ Some flags
    → AreBytes bytes → read_on sections bytes ≡ behind_changes sections (changes_front flags bytes)
front_parts_changes_parts sections flags bytes last fits =
    changes_parts_by (length bytes) sections flags bytes last fits

-- the same by whether a change stopped it
pub changes_all : (sections : List Section) (flags bytes : List ℕ) → last_flags sections ≡ Some flags → AreBytes bytes
    → (changes_front flags bytes).why ≡ None
    → read_on sections bytes ≡ read_on (with_changes sections (changes_front flags bytes).items)
    (changes_front flags bytes).rest
changes_all sections flags bytes last fits none =
    let f = changes_front flags bytes in
    front_parts_changes_parts sections flags bytes last fits ∙ ap (behind_front sections f.items f.rest) none

pub changes_stop : (sections : List Section) (flags bytes : List ℕ) (why : ParseRefusal) → last_flags sections
    ≡ Some flags → AreBytes bytes → (changes_front flags bytes).why ≡ Some why
    → read_on sections bytes ≡ record {
      sections = with_changes sections (changes_front flags bytes).items;
      rest = (changes_front flags bytes).rest;
      why = Some why;
    }
changes_stop sections flags bytes why last fits some =
    let f = changes_front flags bytes in
    front_parts_changes_parts sections flags bytes last fits ∙ ap (behind_front sections f.items f.rest) some

-- ---- sections in front

-- what is read, with sections in front
abbrev prefixed_part : List Section → Result (List Section × List ℕ) ParseRefusal
    → Result (List Section × List ℕ) ParseRefusal
prefixed_part sections read = read >>= λ part. Ok (sections ++ part.0, part.1)

header_behind : (sections more : List Section) (r : Result (Shape × List ℕ) ParseRefusal)
    → (r >>= headed (sections ++ more)) ≡ prefixed_part sections (r >>= headed more)
header_behind sections more (Ok shape) =
    ap (λ (s : List Section). done (s, shape.1))
    (append_assoc sections more (record { shape = shape.0; changes = [] } ∷ []))
header_behind sections more (Err why) = refl

change_behind : (sections more : List Section) (r : Result (Change × List ℕ) ParseRefusal) → 0 < length more
    → (r >>= front_parts_changed (sections ++ more)) ≡ prefixed_part sections (r >>= front_parts_changed more)
change_behind sections more (Ok change) some =
    ap (λ (s : List Section). done (s, change.1)) (with_behind sections more (change.0 ∷ []) some)
change_behind sections more (Err why) some = refl

-- a part is the same with sections in front
part_behind : (sections more : List Section) (bytes : List ℕ) → 0 < length more → part_at (sections ++ more) bytes
    ≡ prefixed_part sections (part_at more bytes)
part_behind sections more bytes some = by_flags (last_flags more) refl where
  by_flags : (o : Option (List ℕ)) → last_flags more ≡ o → part_at (sections ++ more) bytes
      ≡ prefixed_part sections (part_at more bytes)
  by_flags None e =
      part_by (sections ++ more) bytes None (last_behind sections more some ∙ e)
      ∙ header_behind sections more (shape_at bytes) ∙ ap (prefixed_part sections) (sym (part_by more bytes None e))
  by_flags (Some flags) e =
      let last = last_behind sections more some ∙ e in
      elim (cases_Bool (ends_section bytes)) as
      (λ w. part_at (sections ++ more) bytes ≡ prefixed_part sections (part_at more bytes)) [
        | inl ended ↦ header_part (sections ++ more) bytes ended ∙ header_behind sections more (shape_at bytes)
            ∙ ap (prefixed_part sections) (sym (header_part more bytes ended))
        | inr on ↦
            change_part (sections ++ more) flags bytes last on
            ∙ change_behind sections more (change_at flags bytes) some
            ∙ ap (prefixed_part sections) (sym (change_part more flags bytes e on))
      ]

-- the sections that a part leaves are not none
header_some : (sections : List Section) (r : Result (Shape × List ℕ) ParseRefusal) (part : List Section × List ℕ)
    → (r >>= headed sections) ≡ Ok part → 0 < length part.0
header_some sections r part e =
    let a = bind_ok r (headed sections) part e in
    let first : Section = record { shape = a.0.0; changes = [] } in
    let is = ok_is (sections ++ first ∷ [], a.0.1) part a.2 in
    omega (arith, length-append sections (first ∷ []), ap (λ (p : List Section × List ℕ). length p.0) is)

pub part_some : (sections : List Section) (bytes : List ℕ) (part : List Section × List ℕ) → part_at sections bytes
    ≡ Ok part → 0 < length part.0
part_some sections bytes part e = by_flags (last_flags sections) refl where
  by_flags : (o : Option (List ℕ)) → last_flags sections ≡ o → 0 < length part.0
  by_flags None none = header_some sections (shape_at bytes) part (sym (part_by sections bytes None none) ∙ e)
  by_flags (Some flags) last =
      elim (cases_Bool (ends_section bytes)) as (λ w. 0 < length part.0) [
        | inl ended ↦ header_some sections (shape_at bytes) part (sym (header_part sections bytes ended) ∙ e)
        | inr more ↦
            let a = bind_ok (change_at flags bytes) (front_parts_changed sections) part
            (sym (change_part sections flags bytes last more) ∙ e) in
            let is = ok_is (with_changes sections (a.0.0 ∷ []), a.0.1) part a.2 in
            omega (
              arith,
              with_changes-length sections (a.0.0 ∷ []),
              last_some sections flags last,
              ap (λ (p : List Section × List ℕ). length p.0) is,
            )
      ]

pub some_apart : (most : ℕ) (sections more : List Section) (bytes : List ℕ) → length bytes ≤ most → 0 < length more
    → AreBytes bytes → read_on (sections ++ more) bytes ≡ prefixed sections (read_on more bytes)
some_apart most sections more [] enough some fits = nothing_behind (sections ++ more)
    ∙ ap (prefixed sections) (sym (nothing_behind more))
some_apart zero sections more (byte ∷ bytes) enough some fits = absurd (omega arith)
some_apart (suc most) sections more (byte ∷ bytes) enough some fits =
    let here = byte ∷ bytes in
    let both = part_behind sections more here some in
    elim (tells (part_at more here)) as (λ w. read_on (sections ++ more) here ≡ prefixed sections (read_on more here)) [
      | inl x ↦
          let s = a_byte more here x.0 fits x.1 in
          part_read (sections ++ more) here (sections ++ x.0.0, x.0.1) fits (both ∙ ap (prefixed_part sections) x.1)
          ∙ some_apart most sections x.0.0 x.0.1 (omega arith) (part_some more here x.0 x.1) s.1
          ∙ ap (prefixed sections) (sym (part_read more here x.0 fits x.1))
      | inr e ↦
          part_refused (sections ++ more) byte bytes e.0 (both ∙ ap (prefixed_part sections) e.1)
          ∙ ap (prefixed sections) (sym (part_refused more byte bytes e.0 e.1))
    ]

abbrev at_end : List Section → Reached
at_end sections = record { sections = sections; rest = []; why = None }

pub sections_apart : (sections : List Section) (bytes : List ℕ) → AreBytes bytes → ends_section bytes ≡ true
    → read_on sections bytes ≡ prefixed sections (read_on [] bytes)
sections_apart sections [] fits ended =
    nothing_behind sections ∙ ap at_end (sym (append-nil sections)) ∙ ap (prefixed sections) (sym (nothing_behind []))
sections_apart sections (byte ∷ bytes) fits ended =
    let here = byte ∷ bytes in
    elim (tells (shape_at here)) as (λ w. read_on sections here ≡ prefixed sections (read_on [] here)) [
      | inl x ↦
          let first : Section = record { shape = x.0.0; changes = [] } in
          let alone : part_at [] here ≡ done (first ∷ [], x.0.1) = header_part [] here ended
          ∙ ap (λ r. r >>= headed []) x.1 in
          let s = a_byte [] here (first ∷ [], x.0.1) fits alone in
          part_read sections here (sections ++ first ∷ [], x.0.1) fits
          (header_part sections here ended ∙ ap (λ r. r >>= headed sections) x.1)
          ∙ some_apart (length x.0.1) sections (first ∷ []) x.0.1 (omega arith) (omega arith) s.1
          ∙ ap (prefixed sections) (sym (part_read [] here (first ∷ [], x.0.1) fits alone))
      | inr e ↦
          part_refused sections byte bytes e.0 (header_part sections here ended ∙ ap (λ r. r >>= headed sections) e.1)
          ∙ ap (halted here e.0) (sym (append-nil sections))
          ∙ ap (prefixed sections)
          (sym (part_refused [] byte bytes e.0 (header_part [] here ended ∙ ap (λ r. r >>= headed []) e.1)))
    ]

-- ---- what is read

-- a changeset, and bytes that are left of these
abbrev pub IsReadValid : List ℕ → Reached → Type 0
IsReadValid bytes r = IsChangeset r.sections × AreBytes r.rest × ((text : List ℕ) × (bytes ≡ text ++ r.rest))

-- the same of one part
abbrev pub IsPartValid : List ℕ → List Section × List ℕ → Type 0
IsPartValid bytes part = IsChangeset part.0 × ((text : List ℕ) × (bytes ≡ text ++ part.1))

pub shape_takes : (bytes : List ℕ) (x : Shape × List ℕ) → shape_at bytes ≡ Ok x → IsShape x.0
    × ((text : List ℕ) × (bytes ≡ text ++ x.1))
unfolding shape_at
shape_takes [] x e = absurd cc
shape_takes (byte ∷ rest) x e =
    elim (steps_chosen (byte == 84) (header_at rest) (refuse (begins_none byte) rest) (Ok x) e) as
    (λ w. IsShape x.0 × ((text : List ℕ) × (byte ∷ rest ≡ text ++ x.1))) [
      | inl is ↦
          let t = header_takes rest x is.1 in
          (t.1, (byte ∷ t.0.text, ap (λ w. byte ∷ w) t.0.parts))
      | inr other ↦
          let none : Err (Bad (suc (length rest)) (begins_none byte)) ≡ done x = other.1 in
          absurd cc
    ]

header_valid : (sections : List Section) (bytes : List ℕ) (part : List Section × List ℕ) → IsChangeset sections
    → (shape_at bytes >>= headed sections) ≡ Ok part → IsPartValid bytes part
header_valid sections bytes part valid e =
    let a = bind_ok (shape_at bytes) (headed sections) part e in
    let t = shape_takes bytes a.0 a.1 in
    let first : Section = record { shape = a.0.0; changes = [] } in
    subst (λ (p : List Section × List ℕ). IsPartValid bytes p) (ok_is (sections ++ first ∷ [], a.0.1) part a.2)
    (all_append IsSection sections (first ∷ []) valid ((t.0, tt), tt), t.1)

pub part_valid : (sections : List Section) (bytes : List ℕ) (part : List Section × List ℕ) → IsChangeset sections
    → AreBytes bytes → part_at sections bytes ≡ Ok part → IsPartValid bytes part
part_valid sections bytes part valid fits e = by_flags (last_flags sections) refl where
  by_flags : (o : Option (List ℕ)) → last_flags sections ≡ o → IsPartValid bytes part
  by_flags None none = header_valid sections bytes part valid (sym (part_by sections bytes None none) ∙ e)
  by_flags (Some flags) last =
      elim (cases_Bool (ends_section bytes)) as (λ w. IsPartValid bytes part) [
        | inl ended ↦ header_valid sections bytes part valid (sym (header_part sections bytes ended) ∙ e)
        | inr more ↦
            let a = bind_ok (change_at flags bytes) (front_parts_changed sections) part
            (sym (change_part sections flags bytes last more) ∙ e) in
            let t = change_takes flags bytes a.0 fits a.1 in
            subst (λ (p : List Section × List ℕ). IsPartValid bytes p)
            (ok_is (with_changes sections (a.0.0 ∷ []), a.0.1) part a.2)
            (with_valid sections flags (a.0.0 ∷ []) last valid (t.1, tt), (t.0.text, t.0.parts))
      ]

read_valid_by : (most : ℕ) (sections : List Section) (bytes : List ℕ) → length bytes ≤ most → IsChangeset sections
    → AreBytes bytes → IsReadValid bytes (read_on sections bytes)
read_valid_by most sections [] enough valid fits =
    subst (λ (r : Reached). IsReadValid [] r) (sym (nothing_behind sections)) (valid, fits, ([], refl))
read_valid_by zero sections (byte ∷ bytes) enough valid fits = absurd (omega arith)
read_valid_by (suc most) sections (byte ∷ bytes) enough valid fits =
    let here = byte ∷ bytes in
    elim (tells (part_at sections here)) as (λ w. IsReadValid here (read_on sections here)) [
      | inl x ↦
          let s = a_byte sections here x.0 fits x.1 in
          let p = part_valid sections here x.0 valid fits x.1 in
          let r = read_valid_by most x.0.0 x.0.1 (omega arith) p.0 s.1 in
          let left = (read_on x.0.0 x.0.1).rest in
          let whole : here ≡ (p.1.0 ++ r.2.0) ++ left = p.1.1 ∙ ap (λ w. p.1.0 ++ w) r.2.1
          ∙ sym (append_assoc p.1.0 r.2.0 left) in
          subst (λ (r : Reached). IsReadValid here r) (sym (part_read sections here x.0 fits x.1))
          (r.0, r.1, (p.1.0 ++ r.2.0, whole))
      | inr e ↦ subst (λ (r : Reached). IsReadValid here r) (sym (part_refused sections byte bytes e.0 e.1))
          (valid, fits, ([], refl))
    ]

pub read_valid : (sections : List Section) (bytes : List ℕ) → IsChangeset sections → AreBytes bytes
    → IsChangeset (read_on sections bytes).sections × AreBytes (read_on sections bytes).rest
    × ((text : List ℕ) × (bytes ≡ text ++ (read_on sections bytes).rest))
read_valid sections bytes valid fits = read_valid_by (length bytes) sections bytes (omega arith) valid fits
