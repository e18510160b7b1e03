-- Sections and whole texts: reading is the inverse of encoding.
use Rattle.std.proofs.Common.{◌≡◌, ◌==◌, ℕ, suc, ◌<◌, ◌≤◌, inl, inr, Bool, true, false, cond, ltb, List, [], ◌∷◌, ◌++◌}
use Rattle.std.proofs.Common.{length, take, Result, Ok, Err, refl, sym, ap, subst, ◌∙◌, append_assoc, arith}
use Rattle.std.specs.List.{AllByRecursion}
use Rattle.std.proofs.lemmas.Bool.{eqb-true, ltb-false, le-ltb, lt-ltb, ne_eqb}
use Rattle.std.proofs.lemmas.List.{append-nil, nil_from_length, length-append, length-take}
use Rattle.cs_model.specs.declared.shape.Shape.{Shape}
use Rattle.cs_model.specs.declared.change.Change.{Change}
use Rattle.cs_model.specs.Section.{Section}
use Rattle.cs_model.specs.Changeset.{IsSection, IsChangeset, most_bytes}
use Rattle.cs_model.specs.Text.{SpellsEach, SpellsSection, Spells}
use Rattle.cs_parse.specs.declared.fault.FaultKind.{FaultKind}
use Rattle.cs_parse.specs.declared.fault.FaultKind.TheVariants.{Patchset, BadMarker}
use Rattle.cs_parse.specs.declared.fault.ParseFault.{ParseFault}
use Rattle.cs_parse.specs.declared.fault.ParseError.{ParseError}
use Rattle.cs_parse.specs.declared.fault.ParseError.TheVariants.{Fault, Memory}
use Rattle.cs_parse.specs.Answer.{IsRead, ParseAnswers}
use Rattle.cs_parse.specs.declared.stop.ParseRefusal.{ParseRefusal}
use Rattle.cs_parse.specs.declared.stop.ParseRefusal.TheVariants.{Bad}
use Rattle.cs_parse.specs.Reading.{◌>>=◌, refuse, ends_section, changes_at, header_at, shape_at, section_at, is_empty}
use Rattle.cs_parse.specs.Reading.{sections_at, many_at, whole_answer, overlong_answer, answer_of}
use Rattle.cs_model.specs.Bytes.{AreBytes}
use Rattle.cs_parse.proofs.reading.Steps.{Takes, back_fits, bind_ok, done, ok_is, steps_chosen}
use Rattle.cs_parse.proofs.reading.ManyLaws.{IsReader, TakesEach, many_takes, many_again}
use Rattle.cs_parse.proofs.reading.HeaderLaws.{header_takes, header_again}
use Rattle.cs_parse.proofs.reading.ChangeLaws.{changes_take, changes_again}

-- ---- sections

abbrev pub sectioned : Shape → List Change × List ℕ → Result (Section × List ℕ) ParseRefusal
sectioned shape changes = Ok (record { shape = shape; changes = changes.0 }, changes.1)

abbrev pub changes_behind : Shape × List ℕ → Result (Section × List ℕ) ParseRefusal
changes_behind shape = changes_at shape.0.flags shape.1 >>= sectioned shape.0

text_marked_takes : (rest : List ℕ) (x : Section × List ℕ) → AreBytes rest → (header_at rest >>= changes_behind) ≡ Ok x
    → Takes SpellsSection (84 ∷ rest) x × IsSection x.0
text_marked_takes rest x fits e =
    let a = bind_ok (header_at rest) changes_behind x e in
    let b = bind_ok (changes_at a.0.0.flags a.0.1) (sectioned a.0.0) x a.2 in
    let t0 = header_takes rest a.0 a.1 in
    let t1 = changes_take a.0.0.flags a.0.1 b.0 (back_fits rest t0.0.text a.0.1 t0.0.parts fits) b.1 in
    let section : Section = record { shape = a.0.0; changes = b.0.0 } in
    let whole : rest ≡ (t0.0.text ++ t1.0.text) ++ b.0.1 = t0.0.parts ∙ ap (λ w. t0.0.text ++ w) t1.0.parts
    ∙ sym (append_assoc t0.0.text t1.0.text b.0.1) in
    let spelled : SpellsSection (84 ∷ (t0.0.text ++ t1.0.text)) section =
    record {
      header = 84 ∷ t0.0.text;
      body = t1.0.text;
      parts = refl;
      is_header = t0.0.spelled;
      is_body = t1.0.spelled;
    } in
    subst (λ (y : Section × List ℕ). Takes SpellsSection (84 ∷ rest) y × IsSection y.0) (ok_is (section, b.0.1) x b.2)
    (record { text = 84 ∷ (t0.0.text ++ t1.0.text); parts = ap (λ w. 84 ∷ w) whole; spelled = spelled }, (t0.1, t1.1))

-- a test before a step that follows both ways
either_then : {A B : Type 0} (b : Bool) (x y : Result A ParseRefusal) (f : A → Result B ParseRefusal)
    → (cond b x y >>= f) ≡ cond b (x >>= f) (y >>= f)
either_then true x y f = refl
either_then false x y f = refl

abbrev pub begins_none : ℕ → FaultKind
begins_none byte = cond (byte == 80) Patchset BadMarker

pub section_begins : (byte : ℕ) (rest : List ℕ) → section_at (byte ∷ rest)
    ≡ cond (byte == 84) (header_at rest >>= changes_behind) (refuse (begins_none byte) rest)
unfolding section_at shape_at
section_begins byte rest = either_then (byte == 84) (header_at rest) (refuse (begins_none byte) rest) changes_behind

pub nothing_taken : (x : Section × List ℕ) → section_at [] ≡ Ok x → ⊥
unfolding section_at shape_at
nothing_taken x e = absurd (cc e)

section_takes : (bytes : List ℕ) (x : Section × List ℕ) → AreBytes bytes → section_at bytes ≡ Ok x
    → Takes SpellsSection bytes x × IsSection x.0
section_takes [] x fits e = absurd (nothing_taken x e)
section_takes (byte ∷ rest) x fits e =
    elim (steps_chosen (byte == 84) (header_at rest >>= changes_behind) (refuse (begins_none byte) rest) (Ok x)
    (sym (section_begins byte rest) ∙ e)) as (λ w. Takes SpellsSection (byte ∷ rest) x × IsSection x.0) [
      | inl is ↦ subst (λ b. Takes SpellsSection (b ∷ rest) x × IsSection x.0) (sym (eqb-true byte 84 is.0))
          (text_marked_takes rest x (λ i. fits (suc i)) is.1)
      | inr other ↦
          let none : Err (Bad (suc (length rest)) (begins_none byte)) ≡ done x = other.1 in
          absurd cc
    ]

abbrev pub CanFollow : List ℕ → Type 0
CanFollow rest = ends_section rest ≡ true

pub marked_again : (rest : List ℕ) → section_at (84 ∷ rest) ≡ (header_at rest >>= changes_behind)
marked_again rest = section_begins 84 rest

-- a section's text from its `T` on
text_section_text : (text : List ℕ) (section : Section) (rest : List ℕ) → (h : SpellsSection text section) → text
    ++ rest ≡ 84 ∷ ((h.is_header.count ++ section.shape.flags ++ section.shape.name ++ 0 ∷ []) ++ (h.body ++ rest))
text_section_text text section rest h = ap (λ w. w ++ rest) h.parts ∙ append_assoc h.header h.body rest
    ∙ ap (λ w. w ++ (h.body ++ rest)) h.is_header.parts

section_again : (text : List ℕ) (section : Section) (rest : List ℕ) → SpellsSection text section → IsSection section
    → CanFollow rest → section_at (text ++ rest) ≡ Ok (section, rest)
section_again text section rest h valid last =
    let shape = section.shape in
    ap section_at (text_section_text text section rest h)
    ∙ marked_again ((h.is_header.count ++ shape.flags ++ shape.name ++ 0 ∷ []) ++ (h.body ++ rest))
    ∙ ap (λ r. r >>= changes_behind) (header_again h.header shape (h.body ++ rest) h.is_header valid.0)
    ∙ ap (λ r. r >>= sectioned shape) (changes_again shape.flags h.body section.changes rest h.is_body valid.1 last)

section_long : (text : List ℕ) (section : Section) → SpellsSection text section → 0 < length text
section_long text section h = omega (arith, ap length (text_section_text text section [] h), length-append text [])

section_goes_on : (text : List ℕ) (section : Section) (rest : List ℕ) → SpellsSection text section
    → is_empty (text ++ rest) ≡ false
section_goes_on text section rest h =
    ne_eqb (length (text ++ rest)) 0
    (λ e. absurd (omega (arith, e, length-append text rest, section_long text section h)))

pub section_reader : IsReader is_empty section_at SpellsSection IsSection CanFollow
section_reader = record {
  at_end = refl;
  long = section_long;
  takes = section_takes;
  again = section_again;
  goes_on = section_goes_on;
  follows = λ text section rest h. ap ends_section (text_section_text text section rest h);
}

pub sections_take : (bytes : List ℕ) (x : List Section × List ℕ) → AreBytes bytes → sections_at bytes ≡ Ok x
    → TakesEach is_empty SpellsSection IsSection bytes x
unfolding sections_at
sections_take bytes x fits e =
    many_takes is_empty section_at SpellsSection IsSection CanFollow section_reader (length bytes) bytes x fits
    (omega arith) e

pub sections_again : (text : List ℕ) (sections : List Section) → SpellsEach SpellsSection text sections
    → AllByRecursion IsSection sections → sections_at text ≡ Ok (sections, [])
unfolding sections_at
sections_again text sections h valid =
    subst (λ w. many_at is_empty section_at (length w) w ≡ Ok (sections, [])) (append-nil text)
    (many_again is_empty section_at SpellsSection IsSection CanFollow section_reader (length (text ++ [])) text
    sections [] h valid refl refl (omega arith))

-- ---- whole texts

abbrev TextAnswering : Type 0
TextAnswering = Result (List Section) ParseFault

placed_ok : (len : ℕ) (read : Result (List Section × List ℕ) ParseRefusal) (sections : List Section)
    → whole_answer len read ≡ Ok sections → (rest : List ℕ) × (read ≡ Ok (sections, rest))
placed_ok len (Ok x) sections e =
    let same : x.0 ≡ sections = cc in
    (x.1, ap (λ s. done (s, x.1)) same)
placed_ok len (Err refusal) sections e = absurd cc

cut_fails : (len : ℕ) (read : Result (List Section × List ℕ) ParseRefusal) (sections : List Section)
    → overlong_answer len read ≡ Ok sections → ⊥
cut_fails len (Ok x) sections e = absurd cc
cut_fails len (Err refusal) sections e = absurd cc

abbrev text_answered : ℕ → List ℕ → TextAnswering
text_answered most text = cond (ltb most (length text)) (overlong_answer most (sections_at (take most text)))
    (whole_answer (length text) (sections_at text))

-- the same over any limit, whose number is then not computed
answered_takes : (most : ℕ) (text : List ℕ) (sections : List Section) → AreBytes text → text_answered most text
    ≡ Ok sections → IsChangeset sections × (length text ≤ most) × SpellsEach SpellsSection text sections
answered_takes most text sections fits e =
    elim (steps_chosen (ltb most (length text)) (overlong_answer most (sections_at (take most text)))
    (whole_answer (length text) (sections_at text)) (Ok sections) e) as
    (λ w. IsChangeset sections × (length text ≤ most) × SpellsEach SpellsSection text sections) [
      | inl long ↦ absurd (cut_fails most (sections_at (take most text)) sections long.1)
      | inr within ↦
          let p = placed_ok (length text) (sections_at text) sections within.1 in
          let t = sections_take text (sections, p.0) fits p.1 in
          let nothing : p.0 ≡ [] = nil_from_length p.0 (eqb-true (length p.0) 0 t.2) in
          let whole : text ≡ t.0.text = t.0.parts ∙ ap (λ w. t.0.text ++ w) nothing ∙ append-nil t.0.text in
          (t.1, ltb-false _ _ within.0, subst (λ w. SpellsEach SpellsSection w sections) (sym whole) t.0.spelled)
    ]

answered_again : (most : ℕ) (text : List ℕ) (sections : List Section) → IsChangeset sections → length text ≤ most
    → SpellsEach SpellsSection text sections → text_answered most text ≡ Ok sections
answered_again most text sections valid within h =
    ap (λ b. cond b (overlong_answer most (sections_at (take most text)))
    (whole_answer (length text) (sections_at text))) (le-ltb most (length text) within)
    ∙ ap (whole_answer (length text)) (sections_again text sections h valid)

pub answer_takes : (text : List ℕ) (sections : List Section) → AreBytes text → answer_of text ≡ Ok sections
    → Spells text sections
unfolding answer_of
answer_takes text sections fits e =
    let t = answered_takes most_bytes text sections fits e in
    record { is_changeset = t.0; within_limit = t.1; sections = t.2 }

pub answer_again : (text : List ℕ) (sections : List Section) → Spells text sections → answer_of text ≡ Ok sections
unfolding answer_of
answer_again text sections h = answered_again most_bytes text sections h.is_changeset h.within_limit h.sections

-- ---- for `parse`

pub only_one : (text : List ℕ) (found sections : List Section) → answer_of text ≡ Ok found → Spells text sections
    → found ≡ sections
only_one text found sections e h =
    let same = sym e ∙ answer_again text sections h in
    cc

pub none_missed : (text : List ℕ) (e : ParseError) (sections : List Section) → ParseAnswers (Err e) (answer_of text)
    → Spells text sections → IsRead (Err e) sections
none_missed text (Fault fault) sections given h =
    let other : Err fault ≡ Ok sections = sym given ∙ answer_again text sections h in
    absurd cc
none_missed text Memory sections given h = tt

-- the front of a text that is too long
pub front_long : (most : ℕ) (text : List ℕ) → most < length text → most ≡ length (take most text)
front_long most text long = simp length-take (omega arith)

answered_cut : (most : ℕ) (text : List ℕ) → most < length text
    → overlong_answer (length (take most text)) (sections_at (take most text)) ≡ text_answered most text
answered_cut most text long =
    ap (λ n. overlong_answer n (sections_at (take most text))) (sym (front_long most text long))
    ∙ sym (ap (λ b. cond b (overlong_answer most (sections_at (take most text)))
    (whole_answer (length text) (sections_at text))) (lt-ltb most (length text) long))

pub answer_cut : (text : List ℕ) → most_bytes < length text
    → overlong_answer (length (take most_bytes text)) (sections_at (take most_bytes text)) ≡ answer_of text
unfolding answer_of
answer_cut text long = answered_cut most_bytes text long
