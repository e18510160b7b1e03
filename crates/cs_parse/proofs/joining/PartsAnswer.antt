-- Reading a text part by part gives what reading it whole gives.
use Rattle.std.proofs.Common.{◌≡◌, ℕ, zero, suc, ◌<◌, ◌≤◌, inl, inr, Bool, true, false, cond, List, [], ◌∷◌, ◌++◌}
use Rattle.std.proofs.Common.{length, Option, Some, None, Result, Ok, Err, refl, sym, ap, ◌∙◌, append_assoc}
use Rattle.std.proofs.Common.{arith}
use Rattle.std.proofs.lemmas.Bool.{cases_Bool, ne_eqb, false≢true}
use Rattle.std.proofs.lemmas.List.{append-nil, nil_from_length, length-append}
use Rattle.cs_model.specs.declared.shape.Shape.{Shape}
use Rattle.cs_model.specs.declared.change.Change.{Change}
use Rattle.cs_model.specs.Bytes.{AreBytes}
use Rattle.cs_model.specs.Section.{Section}
use Rattle.cs_model.specs.Changeset.{IsSection}
use Rattle.cs_model.specs.Text.{SpellsChange, SpellsSection}
use Rattle.cs_parse.specs.declared.fault.FaultKind.TheVariants.{Truncated}
use Rattle.cs_parse.specs.declared.stop.ParseRefusal.{ParseRefusal}
use Rattle.cs_parse.specs.Reading.{◌>>=◌, many_at, change_at, ends_section, changes_at, shape_at, section_at, is_empty}
use Rattle.cs_parse.specs.Reading.{sections_at, whole_answer, fault_of}
use Rattle.cs_parse.specs.Progress.{last_flags, with_changes, with_header, with_part, part_at, read_on, Reached}
use Rattle.cs_parse.proofs.reading.Steps.{back_fits}
use Rattle.cs_parse.proofs.reading.Loops.{with_front, then_others, loops_rest_of, many_more, many_done}
use Rattle.cs_parse.proofs.reading.ManyLaws.{IsReader}
use Rattle.cs_parse.proofs.joining.PartLaws.{some_bytes, part_shorter}
use Rattle.cs_parse.proofs.joining.PartMore.{read_induction}
use Rattle.cs_parse.proofs.joining.SectionLists.{last_of, with_last, with_none, with_both, last_same}
use Rattle.cs_parse.proofs.reading.ChangeLaws.{IsChangeBy, IsAny, change_reader}
use Rattle.cs_parse.proofs.reading.TextLaws.{sectioned, changes_behind, CanFollow, section_reader}

abbrev pub Read : Type 0
Read = Result (List Section × List ℕ) ParseRefusal

-- ---- more fuel than bytes changes nothing

-- two ways to go on that agree where something is read
behind_same : {A : Type 0} (r : Result (A × List ℕ) ParseRefusal)
    (f g : A × List ℕ → Result (List A × List ℕ) ParseRefusal) → ((x : A × List ℕ) → r ≡ Ok x → f x ≡ g x) → (r >>= f)
    ≡ (r >>= g)
behind_same (Ok x) f g h = h x refl
behind_same (Err e) f g h = refl

module _ {A : Type 0} (over : List ℕ → Bool) (read : List ℕ → Result (A × List ℕ) ParseRefusal)
    (Spelling : List ℕ → A → Type 0) (IsItem : A → Type 0) (Follows : List ℕ → Type 0)
    (reader : IsReader over read Spelling IsItem Follows) where
  left_less : (bytes : List ℕ) (x : A × List ℕ) → AreBytes bytes → read bytes ≡ Ok x → (length x.1 < length bytes)
      × AreBytes x.1
  left_less bytes x fits e =
      let t = (reader.takes bytes x fits e).0 in (
        omega (arith, ap length t.parts, length-append t.text x.1, reader.long t.text x.0 t.spelled),
        back_fits bytes t.text x.1 t.parts fits,
      )

  none_left : (n m : ℕ) (bytes : List ℕ) → over bytes ≡ true → many_at over read n bytes ≡ many_at over read m bytes
  none_left n m bytes ended = many_done over read n bytes (inl ended) ∙ sym (many_done over read m bytes (inl ended))

  enough : (n m : ℕ) (bytes : List ℕ) → AreBytes bytes → length bytes ≤ n → length bytes ≤ m → many_at over read n bytes
      ≡ many_at over read m bytes
  enough zero m bytes fits a b = none_left zero m bytes (ap over (nil_from_length bytes (omega arith)) ∙ reader.at_end)
  enough (suc n) zero bytes fits a b =
      none_left (suc n) zero bytes (ap over (nil_from_length bytes (omega arith)) ∙ reader.at_end)
  enough (suc n) (suc m) bytes fits a b =
      elim (cases_Bool (over bytes)) as (λ w. many_at over read (suc n) bytes ≡ many_at over read (suc m) bytes) [
        | inl ended ↦ none_left (suc n) (suc m) bytes ended
        | inr more ↦
            let each : (x : A × List ℕ) → read bytes ≡ Ok x → loops_rest_of over read n x
            ≡ loops_rest_of over read m x =
            λ x e.
            let l = left_less bytes x fits e in
            ap (then_others x.0) (enough n m x.1 l.1 (omega (arith, l.0)) (omega (arith, l.0))) in
            many_more over read n bytes more
            ∙ behind_same (read bytes) (loops_rest_of over read n) (loops_rest_of over read m) each
            ∙ sym (many_more over read m bytes more)
      ]

  -- the first item, and then all others
  abbrev others_by : A × List ℕ → Result (List A × List ℕ) ParseRefusal
  others_by x = then_others x.0 (many_at over read (length x.1) x.1)

  many_step : (bytes : List ℕ) → AreBytes bytes → over bytes ≡ false → many_at over read (length bytes) bytes
      ≡ (read bytes >>= others_by)
  many_step [] fits more = absurd (false≢true (sym more ∙ reader.at_end))
  many_step (byte ∷ rest) fits more =
      let bytes = byte ∷ rest in
      let each : (x : A × List ℕ) → read bytes ≡ Ok x → loops_rest_of over read (length rest) x ≡ others_by x = λ x e.
      let l = left_less bytes x fits e in
      ap (then_others x.0) (enough (length rest) (length x.1) x.1 l.1 (omega (arith, l.0)) (omega arith)) in
      many_more over read (length rest) bytes more ∙ behind_same (read bytes) (loops_rest_of over read (length rest))
      others_by each

abbrev changes_others : List ℕ → Change × List ℕ → Result (List Change × List ℕ) ParseRefusal
changes_others flags change = then_others change.0 (changes_at flags change.1)

changes_step : (flags bytes : List ℕ) → AreBytes bytes → ends_section bytes ≡ false → changes_at flags bytes
    ≡ (change_at flags bytes >>= changes_others flags)
unfolding changes_at
changes_step flags bytes fits more =
    many_step ends_section (change_at flags) SpellsChange (IsChangeBy flags) IsAny (change_reader flags) bytes fits more

parts_answer_changes_over : (flags bytes : List ℕ) → ends_section bytes ≡ true → changes_at flags bytes ≡ Ok ([], bytes)
unfolding changes_at
parts_answer_changes_over flags bytes ended = many_done ends_section (change_at flags) (length bytes) bytes (inl ended)

abbrev sections_others : Section × List ℕ → Read
sections_others section = then_others section.0 (sections_at section.1)

sections_step : (bytes : List ℕ) → AreBytes bytes → is_empty bytes ≡ false → sections_at bytes
    ≡ (section_at bytes >>= sections_others)
unfolding sections_at
sections_step bytes fits more = many_step is_empty section_at SpellsSection IsSection CanFollow section_reader bytes
    fits more

sections_over : sections_at [] ≡ Ok ([], [])
unfolding sections_at
sections_over = many_done is_empty section_at 0 [] (inr refl)

-- ---- what finishing gives

-- the last section's changes that are read more, and the sections behind it
abbrev pub parts_answer_behind_changes : List Section → List Change × List ℕ → Read
parts_answer_behind_changes sections changes = with_front (with_changes sections changes.0) (sections_at changes.1)

abbrev pub go_by : List Section → Option (List ℕ) → List ℕ → Read
go_by sections None bytes = with_front sections (sections_at bytes)
go_by sections (Some flags) bytes = changes_at flags bytes >>= parts_answer_behind_changes sections

-- Reading on behind these sections, of which the last one may go on.
abbrev pub go_on : List Section → List ℕ → Read
go_on sections bytes = go_by sections (last_flags sections) bytes

abbrev pub finished_by : List Section → List ℕ → Option ParseRefusal → Read
finished_by sections rest None = Ok (sections, rest)
finished_by sections rest (Some why) = Err why

-- what was read, or why not all is
abbrev pub finished : Reached → Read
finished reached = finished_by reached.sections reached.rest reached.why

abbrev go_part : List Section × List ℕ → Read
go_part part = go_on part.0 part.1

-- ---- a header

abbrev with_new : List Section → Shape × List ℕ → Read
with_new sections shape = Ok (sections ++ record { shape = shape.0; changes = [] } ∷ [], shape.1)

parts_answer_regroup : (front : List Section) (first : Section) (read : Read)
    → with_front front (then_others first read) ≡ with_front (front ++ first ∷ []) read
parts_answer_regroup front first (Ok x) = ap (λ xs. Ok (xs, x.1)) (simp append_assoc)
parts_answer_regroup front first (Err e) = refl

-- behind a header's changes
new_section : (sections : List Section) (shape : Shape) (changes : Result (List Change × List ℕ) ParseRefusal)
    → with_front sections ((changes >>= sectioned shape) >>= sections_others)
    ≡ (changes >>= parts_answer_behind_changes (sections ++ record { shape = shape; changes = [] } ∷ []))
new_section sections shape (Ok x) =
    parts_answer_regroup sections (record { shape = shape; changes = x.0 }) (sections_at x.1)
    ∙ ap (λ s. with_front s (sections_at x.1)) (sym (with_last sections (record { shape = shape; changes = [] }) x.0))
new_section sections shape (Err e) = refl

behind_header : (sections : List Section) (shape : Result (Shape × List ℕ) ParseRefusal)
    → with_front sections ((shape >>= changes_behind) >>= sections_others) ≡ ((shape >>= with_new sections) >>= go_part)
behind_header sections (Ok x) =
    let new : Section = record { shape = x.0; changes = [] } in
    new_section sections x.0 (changes_at x.0.flags x.1)
    ∙ ap (λ o. go_by (sections ++ new ∷ []) o x.1) (sym (last_of sections new))
behind_header sections (Err e) = refl

section_by : (bytes : List ℕ) → section_at bytes ≡ (shape_at bytes >>= changes_behind)
unfolding section_at
section_by bytes = refl

header_step : (sections : List Section) (bytes : List ℕ) → AreBytes bytes → is_empty bytes ≡ false
    → with_front sections (sections_at bytes) ≡ (with_header sections bytes >>= go_part)
header_step sections bytes fits more =
    ap (with_front sections) (sections_step bytes fits more ∙ ap (λ r. r >>= sections_others) (section_by bytes))
    ∙ behind_header sections (shape_at bytes)

-- ---- a change

abbrev with_one : List Section → Change × List ℕ → Read
with_one sections change = Ok (with_changes sections (change.0 ∷ []), change.1)

change_and_more : (sections : List Section) (change : Change) (changes : Result (List Change × List ℕ) ParseRefusal)
    → (then_others change changes >>= parts_answer_behind_changes sections)
    ≡ (changes >>= parts_answer_behind_changes (with_changes sections (change ∷ [])))
change_and_more sections change (Ok x) = ap (λ s. with_front s (sections_at x.1)) (sym (with_both sections change x.0))
change_and_more sections change (Err e) = refl

behind_change : (sections : List Section) (flags : List ℕ) → last_flags sections ≡ Some flags
    → (change : Result (Change × List ℕ) ParseRefusal)
    → ((change >>= changes_others flags) >>= parts_answer_behind_changes sections)
    ≡ ((change >>= with_one sections) >>= go_part)
behind_change sections flags last (Ok x) =
    let new = with_changes sections (x.0 ∷ []) in
    change_and_more sections x.0 (changes_at flags x.1)
    ∙ ap (λ o. go_by new o x.1) (sym (last_same sections (x.0 ∷ []) ∙ last))
behind_change sections flags last (Err e) = refl

-- ---- a part

part_step : (sections : List Section) (o : Option (List ℕ)) (bytes : List ℕ) → last_flags sections ≡ o → AreBytes bytes
    → is_empty bytes ≡ false → go_by sections o bytes ≡ (with_part sections o bytes >>= go_part)
part_step sections None bytes last fits more = header_step sections bytes fits more
part_step sections (Some flags) bytes last fits more =
    elim (cases_Bool (ends_section bytes)) as
    (λ w. go_by sections (Some flags) bytes ≡ (with_part sections (Some flags) bytes >>= go_part)) [
      | inl ended ↦
          ap (λ r. r >>= parts_answer_behind_changes sections) (parts_answer_changes_over flags bytes ended)
          ∙ ap (λ s. with_front s (sections_at bytes)) (with_none sections)
          ∙ header_step sections bytes fits more
          ∙ ap (λ b. cond b (with_header sections bytes) (change_at flags bytes >>= with_one sections) >>= go_part)
          (sym ended)
      | inr on ↦
          ap (λ r. r >>= parts_answer_behind_changes sections) (changes_step flags bytes fits on)
          ∙ behind_change sections flags last (change_at flags bytes)
          ∙ ap (λ b. cond b (with_header sections bytes) (change_at flags bytes >>= with_one sections)
          >>= go_part) (sym on)
    ]

go_step : (sections : List Section) (bytes : List ℕ) → AreBytes bytes → is_empty bytes ≡ false → go_on sections bytes
    ≡ (part_at sections bytes >>= go_part)
unfolding part_at
go_step sections bytes fits more = part_step sections (last_flags sections) bytes refl fits more

go_nothing : (sections : List Section) (o : Option (List ℕ)) → go_by sections o [] ≡ Ok (sections, [])
go_nothing sections None = ap (with_front sections) sections_over ∙ ap (λ s. Ok (s, [])) (append-nil sections)
go_nothing sections (Some flags) =
    ap (λ r. r >>= parts_answer_behind_changes sections) (parts_answer_changes_over flags [] refl)
    ∙ ap (with_front (with_changes sections [])) sections_over
    ∙ ap (λ s. Ok (s, [])) (append-nil (with_changes sections []) ∙ with_none sections)

-- ---- all parts

-- a part is read from some bytes
not_empty : (sections : List Section) (bytes : List ℕ) (part : List Section × List ℕ) → AreBytes bytes
    → part_at sections bytes ≡ Ok part → is_empty bytes ≡ false
not_empty sections bytes part fits e =
    let less = part_shorter sections bytes part fits e in
    ne_eqb (length bytes) 0 (λ none. absurd (omega (arith, less, none)))

abbrev IsAnswer : List Section → List ℕ → Reached → Type 0
IsAnswer sections bytes reached = go_on sections bytes ≡ finished reached

pub parts_answer : (sections : List Section) (bytes : List ℕ) → AreBytes bytes → go_on sections bytes
    ≡ finished (read_on sections bytes)
parts_answer = read_induction IsAnswer (record {
  none = λ sections. go_nothing sections (last_flags sections);
  refused = λ sections byte bytes why fits e. go_step sections (byte ∷ bytes) fits (some_bytes byte bytes)
      ∙ ap (λ r. r >>= go_part) e;
  goes = λ sections bytes part fits e behind. go_step sections bytes fits (not_empty sections bytes part fits e)
      ∙ ap (λ r. r >>= go_part) e ∙ behind;
})

none_in_front : (read : Read) → with_front [] read ≡ read
none_in_front (Ok x) = refl
none_in_front (Err e) = refl

-- reading a text whole gives what reading it part by part gives
pub text_answer : (text : List ℕ) → AreBytes text → sections_at text ≡ finished (read_on [] text)
text_answer text fits = sym (none_in_front (sections_at text)) ∙ parts_answer [] text fits

-- whether all was read
abbrev pub parts_answer_is_none : Option ParseRefusal → Bool
parts_answer_is_none None = true
parts_answer_is_none (Some why) = false

abbrev PartsAnswerRestIs : List Section → List ℕ → Reached → Type 0
PartsAnswerRestIs sections bytes reached = is_empty reached.rest ≡ parts_answer_is_none reached.why

-- bytes are left exactly where a part is refused
pub rest_is : (sections : List Section) (bytes : List ℕ) → AreBytes bytes → is_empty (read_on sections bytes).rest
    ≡ parts_answer_is_none (read_on sections bytes).why
rest_is = read_induction PartsAnswerRestIs (record {
  none = λ sections. refl;
  refused = λ sections byte bytes why fits e. some_bytes byte bytes;
  goes = λ sections bytes part fits e behind. behind;
})

-- ---- as code reads a text

whole_by : (text : List ℕ) (sections : List Section) (rest : List ℕ) (why o : Option ParseRefusal) → AreBytes text
    → read_on [] text ≡ record { sections = sections; rest = rest; why = why } → why ≡ o → sections_at text
    ≡ finished_by sections rest o
whole_by text sections rest why o fits read is = text_answer text fits ∙ ap finished read
    ∙ ap (finished_by sections rest) is

pub whole_read : (text : List ℕ) (sections : List Section) (rest : List ℕ) (why : Option ParseRefusal) → AreBytes text
    → read_on [] text ≡ record { sections = sections; rest = rest; why = why } → why ≡ None
    → whole_answer (length text) (sections_at text) ≡ Ok sections
whole_read text sections rest why fits read none =
    ap (whole_answer (length text)) (whole_by text sections rest why None fits read none)

pub whole_refused : (text : List ℕ) (sections : List Section) (rest : List ℕ) (why : Option ParseRefusal)
    (refusal : ParseRefusal) → AreBytes text → read_on [] text ≡ record { sections = sections; rest = rest; why = why }
    → why ≡ Some refusal
    → whole_answer (length text) (sections_at text) ≡ Err (fault_of (length text) Truncated refusal)
whole_refused text sections rest why refusal fits read some =
    ap (whole_answer (length text)) (whole_by text sections rest why (Some refusal) fits read some)
