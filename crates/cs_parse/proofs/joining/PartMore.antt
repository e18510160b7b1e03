-- Parts with more bytes after them: what is read, or refused at a byte, stays so.
use Rattle.std.proofs.Common.{◌≡◌, ◌==◌, ℕ, zero, suc, ◌+◌, ◌≤◌, ◌⊎◌, inl, inr, Bool, false, cond, List, [], ◌∷◌, ◌++◌}
use Rattle.std.proofs.Common.{length, Option, Some, None, Result, Ok, Err, refl, sym, ap, subst, ◌∙◌, append_assoc}
use Rattle.std.proofs.Common.{arith}
use Rattle.std.proofs.lemmas.List.{length-append, take-append-le, take_all}
use Rattle.cs_model.specs.declared.shape.Shape.{Shape}
use Rattle.cs_model.specs.declared.change.Change.{Change}
use Rattle.cs_model.specs.Section.{Section}
use Rattle.cs_model.specs.Bytes.{AreBytes}
use Rattle.cs_parse.specs.declared.fault.FaultKind.{FaultKind}
use Rattle.cs_parse.specs.declared.fault.FaultKind.TheVariants.{Patchset, BadMarker}
use Rattle.cs_parse.specs.declared.stop.ParseRefusal.{ParseRefusal}
use Rattle.cs_parse.specs.declared.stop.ParseRefusal.TheVariants.{Short, Bad}
use Rattle.cs_parse.specs.Reading.{◌>>=◌, refuse, header_at, shape_at, change_at, ends_section}
use Rattle.cs_parse.specs.Progress.{last_flags, with_changes, with_header, with_part, part_at, read_on, Reached}
use Rattle.cs_parse.proofs.reading.Steps.{bind_ok, done, ok_is, steps_chosen}
use Rattle.cs_parse.proofs.reading.NumberLaws.{number_front_fits}
use Rattle.cs_parse.proofs.refusing.Exact.{bind_err}
use Rattle.cs_parse.proofs.refusing.ExactHeader.{header_exact}
use Rattle.cs_parse.proofs.reading.ChangeLaws.{change_takes, change_again}
use Rattle.cs_parse.proofs.refusing.ExactChanges.{exact_change_stops, change_places}
use Rattle.cs_parse.proofs.joining.PartLaws.{nothing_behind, part_refused, part_shorter, part_rest_fits, part_read}

-- ---- readers

-- what was read, and then these bytes
abbrev pub with_more : {A : Type 0} → A × List ℕ → List ℕ → A × List ℕ
with_more x more = (x.0, x.1 ++ more)

bad_later : (left : ℕ) (back more : List ℕ) → left ≡ suc (length back) → suc (length (back ++ more)) ≡ left
    + length more
bad_later left back more e = omega (arith, e, length-append back more)

abbrev bad_at : {A : Type 0} → ℕ → FaultKind → Result A ParseRefusal
bad_at left kind = Err (Bad left kind)

header_more : (bytes more : List ℕ) (x : Shape × List ℕ) → AreBytes bytes → header_at bytes ≡ Ok x
    → header_at (bytes ++ more) ≡ Ok (with_more x more)
header_more bytes more x fits e =
    let t = header_exact.takes bytes x fits e in
    ap (λ w. header_at (w ++ more)) t.parts ∙ ap header_at (append_assoc t.text x.1 more)
    ∙ header_exact.again t.text x.0 (x.1 ++ more) t.spelled

header_bad : (bytes more : List ℕ) (left : ℕ) (kind : FaultKind) → AreBytes bytes → header_at bytes
    ≡ Err (Bad left kind) → header_at (bytes ++ more) ≡ Err (Bad (left + length more) kind)
header_bad bytes more left kind fits e =
    let s = header_exact.stops bytes left kind fits e in
    ap (λ w. header_at (w ++ more)) s.parts ∙ ap header_at (append_assoc s.front (s.byte ∷ s.back) more)
    ∙ header_exact.places s.front s.place s.byte kind (s.back ++ more) s.stands s.is_wrong
    ∙ ap (λ n. bad_at n kind) (bad_later left s.back more s.left_is)

change_more_again : (flags bytes more : List ℕ) (x : Change × List ℕ) → AreBytes bytes → change_at flags bytes ≡ Ok x
    → change_at flags (bytes ++ more) ≡ Ok (with_more x more)
change_more_again flags bytes more x fits e =
    let t = change_takes flags bytes x fits e in
    ap (λ w. change_at flags (w ++ more)) t.0.parts ∙ ap (change_at flags) (append_assoc t.0.text x.1 more)
    ∙ change_again flags t.0.text x.0 (x.1 ++ more) t.0.spelled t.1

change_bad : (flags bytes more : List ℕ) (left : ℕ) (kind : FaultKind) → ends_section bytes ≡ false → AreBytes bytes
    → change_at flags bytes ≡ Err (Bad left kind) → change_at flags (bytes ++ more)
    ≡ Err (Bad (left + length more) kind)
change_bad flags bytes more left kind begun fits e =
    let s = exact_change_stops flags bytes left kind begun fits e in
    ap (λ w. change_at flags (w ++ more)) s.parts ∙ ap (change_at flags) (append_assoc s.front (s.byte ∷ s.back) more)
    ∙ (change_places flags s.front s.place s.byte kind (s.back ++ more) s.stands s.is_wrong).1
    ∙ ap (λ n. bad_at n kind) (bad_later left s.back more s.left_is)

-- ---- shapes

abbrev part_more_begins_none : ℕ → FaultKind
part_more_begins_none byte = cond (byte == 80) Patchset BadMarker

part_more_shape_begins : (byte : ℕ) (rest : List ℕ) → shape_at (byte ∷ rest)
    ≡ cond (byte == 84) (header_at rest) (refuse (part_more_begins_none byte) rest)
unfolding shape_at
part_more_shape_begins byte rest = refl

part_more_shape_none : shape_at [] ≡ Err Short
unfolding shape_at
part_more_shape_none = refl

abbrev shaped_by : ℕ → List ℕ → Bool → Result (Shape × List ℕ) ParseRefusal
shaped_by byte rest b = cond b (header_at rest) (refuse (part_more_begins_none byte) rest)

shape_more : (bytes more : List ℕ) (x : Shape × List ℕ) → AreBytes bytes → shape_at bytes ≡ Ok x
    → shape_at (bytes ++ more) ≡ Ok (with_more x more)
shape_more [] more x fits e =
    let none : Err Short ≡ done x = sym part_more_shape_none ∙ e in
    absurd cc
shape_more (byte ∷ rest) more x fits e =
    elim (steps_chosen (byte == 84) (header_at rest) (refuse (part_more_begins_none byte) rest) (Ok x)
    (sym (part_more_shape_begins byte rest) ∙ e)) as (λ w. shape_at (byte ∷ (rest ++ more)) ≡ Ok (with_more x more)) [
      | inl is ↦ part_more_shape_begins byte (rest ++ more) ∙ ap (shaped_by byte (rest ++ more)) is.0
          ∙ header_more rest more x (λ i. fits (suc i)) is.1
      | inr other ↦ absurd (cc other.1)
    ]

shape_bad : (bytes more : List ℕ) (left : ℕ) (kind : FaultKind) → AreBytes bytes → shape_at bytes ≡ Err (Bad left kind)
    → shape_at (bytes ++ more) ≡ Err (Bad (left + length more) kind)
shape_bad [] more left kind fits e =
    let none : Err Short ≡ bad_at left kind = sym part_more_shape_none ∙ e in
    absurd cc
shape_bad (byte ∷ rest) more left kind fits e =
    elim (steps_chosen (byte == 84) (header_at rest) (refuse (part_more_begins_none byte) rest) (bad_at left kind)
    (sym (part_more_shape_begins byte rest) ∙ e)) as
    (λ w. shape_at (byte ∷ (rest ++ more)) ≡ Err (Bad (left + length more) kind)) [
      | inl is ↦ part_more_shape_begins byte (rest ++ more) ∙ ap (shaped_by byte (rest ++ more)) is.0
          ∙ header_bad rest more left kind (λ i. fits (suc i)) is.1
      | inr other ↦
          let len : left ≡ suc (length rest) = cc other.1 in
          let same : part_more_begins_none byte ≡ kind = cc other.1 in
          part_more_shape_begins byte (rest ++ more) ∙ ap (shaped_by byte (rest ++ more)) other.0
          ∙ ap (bad_at (suc (length (rest ++ more)))) same ∙ ap (λ n. bad_at n kind) (bad_later left rest more len)
    ]

-- ---- parts

-- a step that keeps the bytes behind
abbrev built : {A : Type 0} → (A → List Section) → A × List ℕ → Result (List Section × List ℕ) ParseRefusal
built make x = Ok (make x.0, x.1)

built_again : {A : Type 0} (make : A → List Section) (now later : Result (A × List ℕ) ParseRefusal) (more : List ℕ)
    (part : List Section × List ℕ)
    → ((x : A × List ℕ) → now ≡ Ok x → later ≡ Ok (with_more x more)) → (now >>= built make) ≡ Ok part
    → (later >>= built make) ≡ Ok (with_more part more)
built_again make now later more part h e =
    let a = bind_ok now (built make) part e in
    ap (λ r. r >>= built make) (h a.0 a.1)
    ∙ ap (λ (p : List Section × List ℕ). done (with_more p more)) (ok_is (make a.0.0, a.0.1) part a.2)

built_bad : {A : Type 0} (make : A → List Section) (now later : Result (A × List ℕ) ParseRefusal) (left after : ℕ)
    (kind : FaultKind)
    → (now ≡ Err (Bad left kind) → later ≡ Err (Bad after kind)) → (now >>= built make) ≡ Err (Bad left kind)
    → (later >>= built make) ≡ Err (Bad after kind)
built_bad make now later left after kind h e =
    elim (bind_err now (built make) (Bad left kind) e) as (λ w. (later >>= built make) ≡ Err (Bad after kind)) [
      | inl bad ↦ ap (λ r. r >>= built make) (h bad)
      | inr ok ↦ absurd (cc ok.2)
    ]

abbrev section_after : List Section → Shape → List Section
section_after sections shape = sections ++ record { shape = shape; changes = [] } ∷ []

abbrev change_after : List Section → Change → List Section
change_after sections change = with_changes sections (change ∷ [])

header_part_more : (sections : List Section) (bytes more : List ℕ) (part : List Section × List ℕ) → AreBytes bytes
    → with_header sections bytes ≡ Ok part → with_header sections (bytes ++ more) ≡ Ok (with_more part more)
header_part_more sections bytes more part fits e =
    built_again (section_after sections) (shape_at bytes) (shape_at (bytes ++ more)) more part
    (λ x h. shape_more bytes more x fits h) e

header_part_bad : (sections : List Section) (bytes more : List ℕ) (left : ℕ) (kind : FaultKind) → AreBytes bytes
    → with_header sections bytes ≡ Err (Bad left kind) → with_header sections (bytes ++ more)
    ≡ Err (Bad (left + length more) kind)
header_part_bad sections bytes more left kind fits e =
    built_bad (section_after sections) (shape_at bytes) (shape_at (bytes ++ more)) left (left + length more) kind
    (λ h. shape_bad bytes more left kind fits h) e

abbrev part_more_change_part : List Section → List ℕ → List ℕ → Result (List Section × List ℕ) ParseRefusal
part_more_change_part sections flags bytes = change_at flags bytes >>= built (change_after sections)

change_part_more : (sections : List Section) (flags bytes more : List ℕ) (part : List Section × List ℕ) → AreBytes bytes
    → part_more_change_part sections flags bytes ≡ Ok part → part_more_change_part sections flags (bytes ++ more)
    ≡ Ok (with_more part more)
change_part_more sections flags bytes more part fits e =
    built_again (change_after sections) (change_at flags bytes) (change_at flags (bytes ++ more)) more part
    (λ x h. change_more_again flags bytes more x fits h) e

change_part_bad : (sections : List Section) (flags bytes more : List ℕ) (left : ℕ) (kind : FaultKind)
    → ends_section bytes ≡ false → AreBytes bytes → part_more_change_part sections flags bytes ≡ Err (Bad left kind)
    → part_more_change_part sections flags (bytes ++ more) ≡ Err (Bad (left + length more) kind)
change_part_bad sections flags bytes more left kind begun fits e =
    built_bad (change_after sections) (change_at flags bytes) (change_at flags (bytes ++ more)) left
    (left + length more) kind (λ h. change_bad flags bytes more left kind begun fits h) e

-- which part begins here
abbrev part_more_by : List Section → List ℕ → List ℕ → Bool → Result (List Section × List ℕ) ParseRefusal
part_more_by sections flags bytes b = cond b (with_header sections bytes) (part_more_change_part sections flags bytes)

no_part : (sections : List Section) → with_header sections [] ≡ Err Short
no_part sections = ap (λ r. r >>= built (section_after sections)) part_more_shape_none

by_flags_more : (sections : List Section) (flags : Option (List ℕ)) (bytes more : List ℕ) (part : List Section × List ℕ)
    → AreBytes bytes → with_part sections flags bytes ≡ Ok part → with_part sections flags (bytes ++ more)
    ≡ Ok (with_more part more)
by_flags_more sections None bytes more part fits e = header_part_more sections bytes more part fits e
by_flags_more sections (Some flags) [] more part fits e =
    let none : Err Short ≡ done part = sym (no_part sections) ∙ e in
    absurd cc
by_flags_more sections (Some flags) (byte ∷ rest) more part fits e =
    elim (steps_chosen (byte == 84) (with_header sections (byte ∷ rest))
    (part_more_change_part sections flags (byte ∷ rest)) (Ok part) e) as
    (λ w. with_part sections (Some flags) (byte ∷ (rest ++ more)) ≡ Ok (with_more part more)) [
      | inl h ↦ ap (part_more_by sections flags (byte ∷ (rest ++ more))) h.0
          ∙ header_part_more sections (byte ∷ rest) more part fits h.1
      | inr h ↦ ap (part_more_by sections flags (byte ∷ (rest ++ more))) h.0
          ∙ change_part_more sections flags (byte ∷ rest) more part fits h.1
    ]

by_flags_bad : (sections : List Section) (flags : Option (List ℕ)) (bytes more : List ℕ) (left : ℕ) (kind : FaultKind)
    → AreBytes bytes → with_part sections flags bytes ≡ Err (Bad left kind) → with_part sections flags (bytes ++ more)
    ≡ Err (Bad (left + length more) kind)
by_flags_bad sections None bytes more left kind fits e = header_part_bad sections bytes more left kind fits e
by_flags_bad sections (Some flags) [] more left kind fits e =
    let none : Err Short ≡ bad_at left kind = sym (no_part sections) ∙ e in
    absurd cc
by_flags_bad sections (Some flags) (byte ∷ rest) more left kind fits e =
    elim (steps_chosen (byte == 84) (with_header sections (byte ∷ rest))
    (part_more_change_part sections flags (byte ∷ rest)) (bad_at left kind) e) as
    (λ w. with_part sections (Some flags) (byte ∷ (rest ++ more)) ≡ Err (Bad (left + length more) kind)) [
      | inl h ↦ ap (part_more_by sections flags (byte ∷ (rest ++ more))) h.0
          ∙ header_part_bad sections (byte ∷ rest) more left kind fits h.1
      | inr h ↦ ap (part_more_by sections flags (byte ∷ (rest ++ more))) h.0
          ∙ change_part_bad sections flags (byte ∷ rest) more left kind h.0 fits h.1
    ]

pub part_again : (sections : List Section) (bytes more : List ℕ) (part : List Section × List ℕ) → AreBytes bytes
    → part_at sections bytes ≡ Ok part → part_at sections (bytes ++ more) ≡ Ok (part.0, part.1 ++ more)
unfolding part_at
part_again sections bytes more part fits e = by_flags_more sections (last_flags sections) bytes more part fits e

pub part_bad : (sections : List Section) (bytes more : List ℕ) (left : ℕ) (kind : FaultKind) → AreBytes bytes
    → part_at sections bytes ≡ Err (Bad left kind) → part_at sections (bytes ++ more)
    ≡ Err (Bad (left + length more) kind)
unfolding part_at
part_bad sections bytes more left kind fits e = by_flags_bad sections (last_flags sections) bytes more left kind fits e

-- ---- all parts that are whole

part_or_not : {A : Type 0} (read : Result A ParseRefusal) → ((x : A) × (read ≡ Ok x))
    ⊎ ((why : ParseRefusal) × (read ≡ Err why))
part_or_not (Ok x) = inl (x, refl)
part_or_not (Err why) = inr (why, refl)

-- One induction for what is read: where nothing stands, where a part is refused, and where one is read before the rest.
pub record ReadSteps (P : List Section → List ℕ → Reached → Type 0) : Type 0 where
  pub none : (sections : List Section) → P sections [] (record { sections = sections; rest = []; why = None })
  pub refused : (sections : List Section) (byte : ℕ) (bytes : List ℕ) (why : ParseRefusal) → AreBytes (byte ∷ bytes)
      → part_at sections (byte ∷ bytes) ≡ Err why
      → P sections (byte ∷ bytes) (record { sections = sections; rest = byte ∷ bytes; why = Some why })
  pub goes : (sections : List Section) (bytes : List ℕ) (part : List Section × List ℕ) → AreBytes bytes
      → part_at sections bytes ≡ Ok part → P part.0 part.1 (read_on part.0 part.1)
      → P sections bytes (read_on part.0 part.1)

by_bound : (P : List Section → List ℕ → Reached → Type 0) → ReadSteps P
    → (bound : ℕ) (sections : List Section) (bytes : List ℕ) → AreBytes bytes → length bytes ≤ bound
    → P sections bytes (read_on sections bytes)
by_bound P steps bound sections [] fits enough =
    subst (P sections []) (sym (nothing_behind sections)) (steps.none sections)
by_bound P steps zero sections (byte ∷ bytes) fits enough = absurd (omega arith)
by_bound P steps (suc bound) sections (byte ∷ bytes) fits enough =
    elim (part_or_not (part_at sections (byte ∷ bytes))) as
    (λ w. P sections (byte ∷ bytes) (read_on sections (byte ∷ bytes))) [
      | inl h ↦
          let less = part_shorter sections (byte ∷ bytes) h.0 fits h.1 in
          let rest = by_bound P steps bound h.0.0 h.0.1 (part_rest_fits sections (byte ∷ bytes) h.0 fits h.1)
          (omega arith) in
          subst (P sections (byte ∷ bytes)) (sym (part_read sections (byte ∷ bytes) h.0 fits h.1))
          (steps.goes sections (byte ∷ bytes) h.0 fits h.1 rest)
      | inr h ↦ subst (P sections (byte ∷ bytes)) (sym (part_refused sections byte bytes h.0 h.1))
          (steps.refused sections byte bytes h.0 fits h.1)
    ]

pub read_induction : (P : List Section → List ℕ → Reached → Type 0) → ReadSteps P
    → (sections : List Section) (bytes : List ℕ) → AreBytes bytes → P sections bytes (read_on sections bytes)
read_induction P steps sections bytes fits = by_bound P steps (length bytes) sections bytes fits (omega arith)

pub front_are_bytes : (front back : List ℕ) → AreBytes (front ++ back) → AreBytes front
front_are_bytes front back fits =
    let n = length front in
    subst (λ w. AreBytes w) (take-append-le n front back (omega arith) ∙ take_all n front (omega arith))
    (number_front_fits n (front ++ back) (omega (arith, length-append front back)) fits)

-- What more bytes do, by why reading went no further: it goes on from there, or the same byte is refused.
abbrev pub MoreBy : Reached → List ℕ → Reached → Option ParseRefusal → Type 0
MoreBy whole more reached None = whole ≡ read_on reached.sections (reached.rest ++ more)
MoreBy whole more reached (Some Short) = whole ≡ read_on reached.sections (reached.rest ++ more)
MoreBy whole more reached (Some (Bad left kind)) = whole.why ≡ Some (Bad (left + length more) kind)

abbrev ReadMore : List Section → List ℕ → Reached → Type 0
ReadMore sections bytes reached = (more : List ℕ) → AreBytes (bytes ++ more)
    → MoreBy (read_on sections (bytes ++ more)) more reached reached.why

refused_more : (sections : List Section) (byte : ℕ) (bytes : List ℕ) (why : ParseRefusal) (more : List ℕ)
    → AreBytes (byte ∷ bytes) → part_at sections (byte ∷ bytes) ≡ Err why
    → MoreBy (read_on sections (byte ∷ (bytes ++ more))) more
    (record { sections = sections; rest = byte ∷ bytes; why = Some why }) (Some why)
refused_more sections byte bytes Short more fits e = refl
refused_more sections byte bytes (Bad left kind) more fits e =
    ap (λ (r : Reached). r.why)
    (part_refused sections byte (bytes ++ more) (Bad (left + length more) kind)
    (part_bad sections (byte ∷ bytes) more left kind fits e))

goes_more : (sections : List Section) (bytes : List ℕ) (part : List Section × List ℕ) → AreBytes bytes
    → part_at sections bytes ≡ Ok part → ReadMore part.0 part.1 (read_on part.0 part.1)
    → ReadMore sections bytes (read_on part.0 part.1)
goes_more sections bytes part fits e rest more all =
    let reached = read_on part.0 part.1 in
    let longer = part_again sections bytes more part fits e in
    subst (λ (whole : Reached). MoreBy whole more reached reached.why)
    (sym (part_read sections (bytes ++ more) (with_more part more) all longer))
    (rest more (part_rest_fits sections (bytes ++ more) (with_more part more) all longer))

pub read_more : (sections : List Section) (bytes more : List ℕ) → AreBytes (bytes ++ more)
    → MoreBy (read_on sections (bytes ++ more)) more (read_on sections bytes) (read_on sections bytes).why
read_more sections bytes more all = read_induction ReadMore (record {
  none = λ s more fits. refl;
  refused = λ s byte b why fits e more all. refused_more s byte b why more fits e;
  goes = goes_more;
}) sections bytes (front_are_bytes bytes more all) more all
