-- Reading a text part by part.
use Rattle.std.proofs.Common.{◌≡◌, ◌==◌, ℕ, zero, suc, ◌<◌, ◌≤◌, inl, inr, false, cond, List, [], ◌∷◌, ◌++◌, length}
use Rattle.std.proofs.Common.{Option, Some, None, Result, Ok, Err, refl, sym, ap, subst, ◌∙◌, arith}
use Rattle.std.proofs.lemmas.Bool.{ne_eqb}
use Rattle.std.proofs.lemmas.List.{length-append}
use Rattle.cs_model.specs.declared.shape.Shape.{Shape}
use Rattle.cs_model.specs.declared.change.Change.{Change}
use Rattle.cs_model.specs.Section.{Section}
use Rattle.cs_model.specs.Bytes.{AreBytes}
use Rattle.cs_parse.specs.declared.fault.FaultKind.TheVariants.{Patchset, BadMarker}
use Rattle.cs_parse.specs.declared.stop.ParseRefusal.{ParseRefusal}
use Rattle.cs_parse.specs.Reading.{◌>>=◌, refuse, header_at, shape_at, change_at, ends_section, is_empty}
use Rattle.cs_parse.specs.Progress.{last_flags, with_changes, with_header, with_part, part_at, parts_at, read_on}
use Rattle.cs_parse.specs.Progress.{Reached, after_part}
use Rattle.cs_parse.proofs.reading.Steps.{back_fits, bind_ok, steps_chosen}
use Rattle.cs_parse.proofs.reading.HeaderLaws.{header_takes}
use Rattle.cs_parse.proofs.reading.ChangeLaws.{change_takes, change_reader}

-- ---- a turn

pub some_bytes : (byte : ℕ) (bytes : List ℕ) → is_empty (byte ∷ bytes) ≡ false
some_bytes byte bytes = ne_eqb (suc (length bytes)) 0 (λ z. absurd cc)

abbrev part_all_read : List Section → List ℕ → Reached
part_all_read sections bytes = record { sections = sections; rest = bytes; why = None }

pub a_turn : (fuel : ℕ) (sections : List Section) (byte : ℕ) (bytes : List ℕ)
    → parts_at (suc fuel) sections (byte ∷ bytes)
    ≡ after_part (parts_at fuel) sections (byte ∷ bytes) (part_at sections (byte ∷ bytes))
unfolding parts_at
a_turn fuel sections byte bytes =
    ap (λ b. cond b (part_all_read sections (byte ∷ bytes))
    (after_part (parts_at fuel) sections (byte ∷ bytes) (part_at sections (byte ∷ bytes)))) (some_bytes byte bytes)

pub nothing_left : (fuel : ℕ) (sections : List Section) → parts_at fuel sections []
    ≡ record { sections = sections; rest = []; why = None }
unfolding parts_at
nothing_left zero sections = refl
nothing_left (suc fuel) sections = refl

pub nothing_behind : (sections : List Section) → read_on sections []
    ≡ record { sections = sections; rest = []; why = None }
nothing_behind sections = nothing_left 0 sections

pub part_refused : (sections : List Section) (byte : ℕ) (bytes : List ℕ) (why : ParseRefusal)
    → part_at sections (byte ∷ bytes) ≡ Err why
    → read_on sections (byte ∷ bytes) ≡ record { sections = sections; rest = byte ∷ bytes; why = Some why }
part_refused sections byte bytes why e = a_turn (length bytes) sections byte bytes
    ∙ ap (after_part (parts_at (length bytes)) sections (byte ∷ bytes)) e

-- ---- what a part takes

-- these bytes stand behind some others
abbrev pub Behind : List ℕ → List ℕ → Type 0
Behind bytes rest = (text : List ℕ) × (bytes ≡ text ++ rest) × (0 < length text)

part_shape_takes : (bytes : List ℕ) (x : Shape × List ℕ) → shape_at bytes ≡ Ok x → Behind bytes x.1
unfolding shape_at
part_shape_takes [] x e = absurd (cc e)
part_shape_takes (byte ∷ rest) x e =
    elim (steps_chosen (byte == 84) (header_at rest) (refuse (cond (byte == 80) Patchset BadMarker) rest) (Ok x) e) as
    (λ w. Behind (byte ∷ rest) x.1) [
      | inl is ↦
          let t = (header_takes rest x is.1).0 in
          (byte ∷ t.text, ap (λ w. byte ∷ w) t.parts, omega arith)
      | inr other ↦ absurd (cc other.1)
    ]

abbrev section_more : List Section → Shape × List ℕ → Result (List Section × List ℕ) ParseRefusal
section_more sections shape = Ok (sections ++ record { shape = shape.0; changes = [] } ∷ [], shape.1)

abbrev change_more : List Section → Change × List ℕ → Result (List Section × List ℕ) ParseRefusal
change_more sections change = Ok (with_changes sections (change.0 ∷ []), change.1)

part_header_behind : (sections : List Section) (bytes : List ℕ) (part : List Section × List ℕ)
    → with_header sections bytes ≡ Ok part → Behind bytes part.1
part_header_behind sections bytes part e =
    let a = bind_ok (shape_at bytes) (section_more sections) part e in
    let same : a.0.1 ≡ part.1 = cc a.2 in
    subst (λ rest. Behind bytes rest) same (part_shape_takes bytes a.0 a.1)

part_change_behind : (sections : List Section) (flags bytes : List ℕ) (part : List Section × List ℕ) → AreBytes bytes
    → (change_at flags bytes >>= change_more sections) ≡ Ok part → Behind bytes part.1
part_change_behind sections flags bytes part fits e =
    let a = bind_ok (change_at flags bytes) (change_more sections) part e in
    let t = (change_takes flags bytes a.0 fits a.1).0 in
    let same : a.0.1 ≡ part.1 = cc a.2 in
    subst (λ rest. Behind bytes rest) same (t.text, t.parts, (change_reader flags).long t.text a.0.0 t.spelled)

part_is_behind : (sections : List Section) (flags : Option (List ℕ)) (bytes : List ℕ) (part : List Section × List ℕ)
    → AreBytes bytes → with_part sections flags bytes ≡ Ok part → Behind bytes part.1
part_is_behind sections None bytes part fits e = part_header_behind sections bytes part e
part_is_behind sections (Some flags) bytes part fits e =
    elim (steps_chosen (ends_section bytes) (with_header sections bytes)
    (change_at flags bytes >>= change_more sections) (Ok part) e) as (λ w. Behind bytes part.1) [
      | inl h ↦ part_header_behind sections bytes part h.1
      | inr h ↦ part_change_behind sections flags bytes part fits h.1
    ]

pub part_takes : (sections : List Section) (bytes : List ℕ) (part : List Section × List ℕ) → AreBytes bytes
    → part_at sections bytes ≡ Ok part → Behind bytes part.1
unfolding part_at
part_takes sections bytes part fits e = part_is_behind sections (last_flags sections) bytes part fits e

pub part_shorter : (sections : List Section) (bytes : List ℕ) (part : List Section × List ℕ) → AreBytes bytes
    → part_at sections bytes ≡ Ok part → length part.1 < length bytes
part_shorter sections bytes part fits e =
    let b = part_takes sections bytes part fits e in
    omega (arith, b.2, ap length b.1, length-append b.0 part.1)

pub part_rest_fits : (sections : List Section) (bytes : List ℕ) (part : List Section × List ℕ) → AreBytes bytes
    → part_at sections bytes ≡ Ok part → AreBytes part.1
part_rest_fits sections bytes part fits e =
    let b = part_takes sections bytes part fits e in
    back_fits bytes b.0 part.1 b.1 fits

-- ---- fuel

same_behind : (go on : List Section → List ℕ → Reached) (sections : List Section) (bytes : List ℕ)
    (read : Result (List Section × List ℕ) ParseRefusal)
    → ((part : List Section × List ℕ) → read ≡ Ok part → go part.0 part.1 ≡ on part.0 part.1)
    → after_part go sections bytes read ≡ after_part on sections bytes read
same_behind go on sections bytes (Ok part) h = h part refl
same_behind go on sections bytes (Err why) h = refl

-- Fuel beyond the number of bytes changes nothing.
pub fuel_alike : (fuel other : ℕ) (sections : List Section) (bytes : List ℕ) → AreBytes bytes → length bytes ≤ fuel
    → length bytes ≤ other → parts_at fuel sections bytes ≡ parts_at other sections bytes
fuel_alike fuel other sections [] fits enough also = nothing_left fuel sections ∙ sym (nothing_left other sections)
fuel_alike zero other sections (byte ∷ bytes) fits enough also = absurd (omega arith)
fuel_alike (suc fuel) zero sections (byte ∷ bytes) fits enough also = absurd (omega arith)
fuel_alike (suc fuel) (suc other) sections (byte ∷ bytes) fits enough also =
    a_turn fuel sections byte bytes
    ∙ same_behind (parts_at fuel) (parts_at other) sections (byte ∷ bytes) (part_at sections (byte ∷ bytes)) (λ part e.
    let less = part_shorter sections (byte ∷ bytes) part fits e in
    fuel_alike fuel other part.0 part.1 (part_rest_fits sections (byte ∷ bytes) part fits e) (omega arith)
    (omega arith))
    ∙ sym (a_turn other sections byte bytes)

pub part_read : (sections : List Section) (bytes : List ℕ) (part : List Section × List ℕ) → AreBytes bytes
    → part_at sections bytes ≡ Ok part → read_on sections bytes ≡ read_on part.0 part.1
part_read sections [] part fits e = absurd (omega (arith, part_shorter sections [] part fits e))
part_read sections (byte ∷ bytes) part fits e =
    let less = part_shorter sections (byte ∷ bytes) part fits e in
    a_turn (length bytes) sections byte bytes
    ∙ ap (after_part (parts_at (length bytes)) sections (byte ∷ bytes)) e
    ∙ fuel_alike (length bytes) (length part.1) part.0 part.1 (part_rest_fits sections (byte ∷ bytes) part fits e)
    (omega arith) (omega arith)
