-- The error of reading is the text's fault, and the text's fault is the error of reading.
use Rattle.std.proofs.Common.{◌≡◌, ℕ, suc, ◌+◌, ◌-◌, ◌<◌, ◌≤◌, ◌⊎◌, inl, inr, cond, List, [], ◌∷◌, ◌++◌, length, take}
use Rattle.std.proofs.Common.{drop, get_or, Some, Result, Ok, Err, IsOk, refl, sym, ap, subst, ◌∙◌, append_assoc, arith}
use Rattle.std.specs.Prelude.{nat_lt, slice_get, IfOk, IfErr}
use Rattle.std.specs.List.{list_all}
use Rattle.std.proofs.lemmas.Bool.{le-ltb, lt-ltb, and_parts, cases_lt, false≢true}
use Rattle.std.proofs.lemmas.List.{append-nil, take_at, take-append-le, take-append-drop, take-take, drop_more}
use Rattle.std.proofs.lemmas.List.{length-append, length-drop, get_or-take}
use Rattle.std.proofs.lemmas.List.Folds.{list_all-append}
use Rattle.std.proofs.lemmas.Option.{slice_get_read, get_or_from_slice_get}
use Rattle.std.proofs.Math.Seq.{get_or-append_seam}
use Rattle.cs_model.specs.Section.{Section}
use Rattle.cs_model.specs.Changeset.{most_bytes}
use Rattle.cs_model.specs.Text.{Spells}
use Rattle.cs_parse.specs.declared.fault.FaultKind.{FaultKind}
use Rattle.cs_parse.specs.declared.fault.FaultKind.TheVariants.{TooLong, Truncated}
use Rattle.cs_parse.specs.declared.fault.ParseFault.{ParseFault}
use Rattle.cs_parse.specs.declared.fault.ParseError.{ParseError}
use Rattle.cs_parse.specs.declared.fault.ParseError.TheVariants.{Fault, Memory}
use Rattle.cs_parse.specs.Answer.{IsRead, ParseAnswers, ReportsFault, IsSpelled, HasChangeset, HasFault}
use Rattle.cs_parse.specs.Place.{BytePlace, wrong}
use Rattle.cs_parse.specs.Stands.{Stands}
use Rattle.cs_parse.specs.Fault.{Viable, IsFirst, AtByte, IsTooLong, IsTruncated, IsFault}
use Rattle.cs_parse.proofs.reading.Steps.{steps_are_bytes, bytes_to}
use Rattle.cs_parse.specs.declared.stop.ParseRefusal.{ParseRefusal}
use Rattle.cs_parse.specs.declared.stop.ParseRefusal.TheVariants.{Short, Bad}
use Rattle.cs_parse.specs.Reading.{sections_at, fault_of, whole_answer, overlong_answer, answer_of}
use Rattle.cs_model.specs.Bytes.{AreBytes}
use Rattle.cs_parse.proofs.reading.NumberLaws.{number_front_fits}
use Rattle.cs_parse.proofs.reading.TextLaws.{front_long, answer_takes, answer_again, only_one, none_missed}
use Rattle.cs_parse.proofs.refusing.Exact.{ExactStopped}
use Rattle.cs_parse.proofs.refusing.ExactText.{ExactTextSectionsText, text_stops, text_completes, text_places}
use Rattle.cs_parse.proofs.refusing.ExactText.{viable_by, viable_whole, viable_front, not_viable}

abbrev FaultReading : Type 0
FaultReading = Result (List Section × List ℕ) ParseRefusal

abbrev refusal_fault : ParseFault → Result (List Section) ParseFault
refusal_fault fault = Err fault

same_fault : (a b : ParseFault) → refusal_fault a ≡ refusal_fault b → a ≡ b
same_fault a b e = cc

-- how reading may end
fault_read_ends : (read : FaultReading) → ((x : List Section × List ℕ) × (read ≡ Ok x))
    ⊎ ((read ≡ Err Short) ⊎ ((left : ℕ) × (kind : FaultKind) × (read ≡ Err (Bad left kind))))
fault_read_ends (Ok x) = inl (x, refl)
fault_read_ends (Err Short) = inr (inl refl)
fault_read_ends (Err (Bad left kind)) = inr (inr (left, kind, refl))

-- ---- what is refused is the fault

parts_are_bytes : (a b : List ℕ) → steps_are_bytes (a ++ b) → steps_are_bytes a × steps_are_bytes b
parts_are_bytes a b h = and_parts (list_all (λ byte. nat_lt byte 256) a) (list_all (λ byte. nat_lt byte 256) b)
    (sym (list_all-append (λ byte. nat_lt byte 256) a b) ∙ h)

module _ (text front : List ℕ) (byte : ℕ) (back : List ℕ) (parts : text ≡ front ++ byte ∷ back) where
  front_is : (m : ℕ) → m ≤ length front → take m text ≡ take m front
  front_is m le = ap (take m) parts ∙ take-append-le m front (byte ∷ back) le

  with_byte : take (suc (length front)) text ≡ front ++ byte ∷ []
  with_byte =
      let len : length (front ++ byte ∷ []) ≡ suc (length front) = omega (arith, length-append front (byte ∷ [])) in
      ap (take (suc (length front))) (parts ∙ sym (append_assoc front (byte ∷ []) back))
      ∙ take_at (front ++ byte ∷ []) back (suc (length front)) len

  first_at : (place : BytePlace) (kind : FaultKind) → AreBytes text → Viable front → Stands front place
      → wrong place byte ≡ Some kind → IsFirst text (length front)
  first_at place kind fits alive stands w =
      let bytes = (parts_are_bytes front (byte ∷ back) (subst steps_are_bytes parts (bytes_to text fits))).0 in
      record {
        inside = omega (arith, ap length parts, length-append front (byte ∷ back));
        dead = λ v. not_viable front place byte kind [] stands w (subst (λ t. Viable t) with_byte v);
        alive = λ m lt.
            let whole : front ≡ take (suc m) front ++ drop (suc m) front = sym (take-append-drop (suc m) front) in
            let rest = (parts_are_bytes (take (suc m) front) (drop (suc m) front) (subst steps_are_bytes whole bytes)).1
            in
            subst (λ t. Viable t) (sym (front_is (suc m) lt))
            (viable_front (take (suc m) front) (drop (suc m) front) rest (subst (λ t. Viable t) whole alive));
      }

  byte_at : slice_get text (length front) ≡ Some byte
  byte_at = slice_get_read text (length text) (length front) byte refl
      (omega (arith, ap length parts, length-append front (byte ∷ back)))
      (sym (ap (λ w. get_or w (length front) byte) parts ∙ get_or-append_seam front byte back byte))

  at_byte : (place : BytePlace) (kind : FaultKind) → AreBytes text → Viable front → Stands front place
      → wrong place byte ≡ Some kind → length front < most_bytes
      → AtByte text (record { at = length front; kind = kind })
  at_byte place kind fits alive stands w within =
      let front_taken : take (length front) text ≡ front = ap (take (length front)) parts
      ∙ take_at front (byte ∷ back) (length front) refl in
      record {
        first = first_at place kind fits alive stands w;
        within_limit = within;
        place = place;
        byte = byte;
        is_byte = byte_at;
        stands = subst (λ f. Stands f place) (sym front_taken) stands;
        is_wrong = w;
      }

-- the reader stopped at a byte of the first bytes
stopped_at : (text bytes rest : List ℕ) (left : ℕ) (kind : FaultKind) → text ≡ bytes ++ rest → AreBytes text
    → length bytes ≤ most_bytes → ExactStopped ExactTextSectionsText Stands bytes left kind
    → AtByte text (record { at = length bytes - left; kind = kind })
stopped_at text bytes rest left kind parts fits short s =
    let whole : text ≡ s.front ++ s.byte ∷ (s.back ++ rest) = parts ∙ ap (λ w. w ++ rest) s.parts
    ∙ append_assoc s.front (s.byte ∷ s.back) rest in
    let len : length bytes ≡ length s.front + suc (length s.back) = ap length s.parts
    ∙ length-append s.front (s.byte ∷ s.back) in
    let is : length s.front ≡ length bytes - left = omega (arith, len, s.left_is) in
    subst (λ n. AtByte text (record { at = n; kind = kind })) is
    (at_byte text s.front s.byte (s.back ++ rest) whole s.place kind fits (viable_by s.front s.alive) s.stands
    s.is_wrong (omega (arith, len, short)))

fault_at : (text : List ℕ) (fault : ParseFault) (n : ℕ) (kind : FaultKind)
    → refusal_fault (record { at = n; kind = kind }) ≡ refusal_fault fault
    → AtByte text (record { at = n; kind = kind }) → IsFault text fault
fault_at text fault n kind e h =
    inl (subst (λ f. AtByte text f) (same_fault (record { at = n; kind = kind }) fault e) h)

fault_long : (text : List ℕ) (fault : ParseFault) → AreBytes text → most_bytes < length text
    → overlong_answer most_bytes (sections_at (take most_bytes text)) ≡ Err fault → IsFault text fault
fault_long text fault fits long e =
    let front = take most_bytes text in
    let len = front_long most_bytes text long in
    let front_bytes = number_front_fits most_bytes text (omega arith) fits in
    let too_long : Viable front → refusal_fault (fault_of most_bytes TooLong Short) ≡ refusal_fault fault
    → IsFault text fault = λ so_far is.
    inr (inl (record {
      same = sym (same_fault (fault_of most_bytes TooLong Short) fault is);
      long = long;
      so_far = so_far;
    })) in
    elim (fault_read_ends (sections_at front)) as (λ w. IsFault text fault) [
      | inl h ↦ too_long (viable_whole front h.0 front_bytes h.1) (sym (ap (overlong_answer most_bytes) h.1) ∙ e)
      | inr (inl h) ↦ too_long (viable_by front (text_completes front front_bytes h))
          (sym (ap (overlong_answer most_bytes) h) ∙ e)
      | inr (inr h) ↦
          let at = stopped_at text front (drop most_bytes text) h.0 h.1 (sym (take-append-drop most_bytes text)) fits
          (omega (arith, len)) (text_stops front h.0 h.1 front_bytes h.2) in
          fault_at text fault (most_bytes - h.0) h.1 (sym (ap (overlong_answer most_bytes) h.2) ∙ e)
          (subst (λ n. AtByte text (record { at = n - h.0; kind = h.1 })) (sym len) at)
    ]

fault_short : (text : List ℕ) (fault : ParseFault) → AreBytes text → length text ≤ most_bytes
    → ((sections : List Section) → Spells text sections → ⊥) → whole_answer (length text) (sections_at text) ≡ Err fault
    → IsFault text fault
fault_short text fault fits short none e = elim (fault_read_ends (sections_at text)) as (λ w. IsFault text fault) [
  | inl h ↦ absurd (cc (sym (ap (whole_answer (length text)) h.1) ∙ e))
  | inr (inl h) ↦
      let is : refusal_fault (fault_of (length text) Truncated Short) ≡ refusal_fault fault =
      sym (ap (whole_answer (length text)) h) ∙ e in
      inr (inr (record {
        same = sym (same_fault (fault_of (length text) Truncated Short) fault is);
        within_limit = short;
        so_far = viable_by text (text_completes text fits h);
        spells_none = none;
      }))
  | inr (inr h) ↦
      let at = stopped_at text text [] h.0 h.1 (sym (append-nil text)) fits short (text_stops text h.0 h.1 fits h.2) in
      fault_at text fault (length text - h.0) h.1 (sym (ap (whole_answer (length text)) h.2) ∙ e) at
]

-- ---- the answer by the length of the text

pub answer_long : (text : List ℕ) → most_bytes < length text → answer_of text
    ≡ overlong_answer most_bytes (sections_at (take most_bytes text))
unfolding answer_of
answer_long text long = ap
    (λ b. cond b (overlong_answer most_bytes (sections_at (take most_bytes text)))
    (whole_answer (length text) (sections_at text))) (lt-ltb most_bytes (length text) long)

pub answer_short : (text : List ℕ) → length text ≤ most_bytes → answer_of text
    ≡ whole_answer (length text) (sections_at text)
unfolding answer_of
answer_short text short =
    ap (λ b. cond b (overlong_answer most_bytes (sections_at (take most_bytes text)))
    (whole_answer (length text) (sections_at text))) (le-ltb most_bytes (length text) short)

spells_none : (text : List ℕ) (fault : ParseFault) → answer_of text ≡ Err fault → (sections : List Section)
    → Spells text sections → ⊥
spells_none text fault e sections h =
    let both : Err fault ≡ Ok sections = sym e ∙ answer_again text sections h in
    absurd cc

pub refused_is_fault : (text : List ℕ) (fault : ParseFault) → AreBytes text → answer_of text ≡ Err fault
    → IsFault text fault
refused_is_fault text fault fits e = elim (cases_lt most_bytes (length text)) as (λ w. IsFault text fault) [
  | inl long ↦ fault_long text fault fits long (sym (answer_long text long) ∙ e)
  | inr short ↦ fault_short text fault fits short (spells_none text fault e) (sym (answer_short text short) ∙ e)
]

-- ---- the fault is what is refused

-- reading bytes with a wrong byte among them stops there
read_at : (bytes : List ℕ) (n : ℕ) (place : BytePlace) (byte : ℕ) (kind : FaultKind) → n < length bytes
    → get_or bytes n 0 ≡ byte → Stands (take n bytes) place → wrong place byte ≡ Some kind
    → (left : ℕ) × (sections_at bytes ≡ Err (Bad left kind)) × (length bytes - left ≡ n)
read_at bytes n place byte kind inside is stands w =
    let more = drop (n + 1) bytes in
    let whole : bytes ≡ take n bytes ++ byte ∷ more = sym (take-append-drop n bytes)
    ∙ ap (λ w. take n bytes ++ w) (drop_more bytes n 0 inside ∙ ap (λ b. b ∷ more) is) in (
      suc (length more),
      ap sections_at whole ∙ text_places (take n bytes) place byte kind more stands w,
      omega (arith, length-drop (n + 1) bytes),
    )

fault_read : (text : List ℕ) (fault : ParseFault) → AtByte text fault → answer_of text ≡ Err fault
fault_read text fault h = elim (cases_lt most_bytes (length text)) as (λ w. answer_of text ≡ Err fault) [
  | inl long ↦
      let n = fault.at in
      let len = front_long most_bytes text long in
      let front = take most_bytes text in
      let byte : get_or front n 0 ≡ h.byte = get_or-take most_bytes text n 0 h.within_limit
      ∙ get_or_from_slice_get text n h.byte 0 h.is_byte in
      let stands : Stands (take n front) h.place =
      subst (λ f. Stands f h.place) (sym (take-take n most_bytes text (omega (arith, h.within_limit)))) h.stands in
      let r = read_at front n h.place h.byte fault.kind (omega (arith, len, h.within_limit)) byte stands h.is_wrong in
      let at : most_bytes - r.0 ≡ n = ap (λ k. k - r.0) len ∙ r.2 in
      answer_long text long ∙ ap (overlong_answer most_bytes) r.1
      ∙ ap (λ k. Err (record { at = k; kind = fault.kind })) at
  | inr short ↦
      let r = read_at text fault.at h.place h.byte fault.kind h.first.inside
      (get_or_from_slice_get text fault.at h.byte 0 h.is_byte) h.stands h.is_wrong in
      answer_short text short ∙ ap (whole_answer (length text)) r.1
      ∙ ap (λ k. Err (record { at = k; kind = fault.kind })) r.2
]

viable_read : (bytes : List ℕ) (left : ℕ) (kind : FaultKind) → AreBytes bytes → Viable bytes → sections_at bytes
    ≡ Err (Bad left kind) → ⊥
viable_read bytes left kind fits v e =
    let s = text_stops bytes left kind fits e in
    not_viable s.front s.place s.byte kind s.back s.stands s.is_wrong (subst (λ w. Viable w) s.parts v)

long_read : (text : List ℕ) (fault : ParseFault) → AreBytes text → IsTooLong text fault → answer_of text ≡ Err fault
long_read text fault fits h =
    let front = take most_bytes text in
    let long = h.long in
    let front_bytes = number_front_fits most_bytes text (omega arith) fits in
    let is : refusal_fault (fault_of most_bytes TooLong Short) ≡ refusal_fault fault = ap (λ f. Err f) (sym h.same) in
    answer_long text long ∙ elim (fault_read_ends (sections_at front)) as
    (λ w. overlong_answer most_bytes (sections_at front) ≡ Err fault) [
      | inl k ↦ ap (overlong_answer most_bytes) k.1 ∙ is
      | inr (inl k) ↦ ap (overlong_answer most_bytes) k ∙ is
      | inr (inr k) ↦ absurd (viable_read front k.0 k.1 front_bytes h.so_far k.2)
    ]

spelled_read : (text : List ℕ) (x : List Section × List ℕ) → AreBytes text → length text ≤ most_bytes → sections_at text
    ≡ Ok x → Spells text x.0
spelled_read text x fits short e =
    answer_takes text x.0 fits (answer_short text short ∙ ap (whole_answer (length text)) e)

short_read : (text : List ℕ) (fault : ParseFault) → AreBytes text → IsTruncated text fault → answer_of text ≡ Err fault
short_read text fault fits h = answer_short text h.within_limit
    ∙ elim (fault_read_ends (sections_at text)) as (λ w. whole_answer (length text) (sections_at text) ≡ Err fault) [
      | inl k ↦ absurd (h.spells_none k.0.0 (spelled_read text k.0 fits h.within_limit k.1))
      | inr (inl k) ↦ ap (whole_answer (length text)) k ∙ ap (λ f. Err f) (sym h.same)
      | inr (inr k) ↦ absurd (viable_read text k.0 k.1 fits h.so_far k.2)
    ]

pub fault_is_refused : (text : List ℕ) (fault : ParseFault) → AreBytes text → IsFault text fault → answer_of text
    ≡ Err fault
fault_is_refused text fault fits (inl h) = fault_read text fault h
fault_is_refused text fault fits (inr (inl h)) = long_read text fault fits h
fault_is_refused text fault fits (inr (inr h)) = short_read text fault fits h

-- ---- for `parse`

answer_ends : (answer : Result (List Section) ParseFault) → ((sections : List Section) × (answer ≡ Ok sections))
    ⊎ ((fault : ParseFault) × (answer ≡ Err fault))
answer_ends (Ok sections) = inl (sections, refl)
answer_ends (Err fault) = inr (fault, refl)

not_ok : (fault : ParseFault) → IsOk (refusal_fault fault) → ⊥
not_ok fault h = false≢true h

pub error_tells : (text : List ℕ) (e : ParseError) → AreBytes text → ParseAnswers (Err e) (answer_of text)
    → ReportsFault e text
error_tells text (Fault fault) fits given = refused_is_fault text fault fits given
error_tells text Memory fits given = elim (answer_ends (answer_of text)) as (λ w. IsSpelled text) [
  | inl h ↦ (h.0, answer_takes text h.0 fits h.1)
  | inr h ↦ absurd (not_ok h.0 (subst (λ (r : Result (List Section) ParseFault). IsOk r) h.1 given))
]

pub fault_told : (text : List ℕ) (result : Result (List Section) ParseError) (fault : ParseFault) → AreBytes text
    → ParseAnswers result (answer_of text) → IsFault text fault → result ≡ Err (Fault fault)
fault_told text (Ok found) fault fits given h =
    let both : refusal_fault fault ≡ Ok found = sym (fault_is_refused text fault fits h) ∙ given in
    absurd cc
fault_told text (Err (Fault told)) fault fits given h =
    ap (λ f. Err (Fault f)) (same_fault told fault (sym given ∙ fault_is_refused text fault fits h))
fault_told text (Err Memory) fault fits given h =
    absurd (not_ok fault (subst (λ (r : Result (List Section) ParseFault). IsOk r) (fault_is_refused text fault fits h)
    given))

-- what the result of reading tells of a text
pub record ByReading (text : List ℕ) (result : Result (List Section) ParseError) : Type 0 where
  pub found : IfOk result (λ changeset. Spells text changeset)
  pub only : (changeset : List Section) → Spells text changeset → IsRead result changeset
  pub faulty : IfErr result (λ error. ReportsFault error text)
  pub the_fault : (fault : ParseFault) → IsFault text fault → result ≡ Err (Fault fault)

pub by_reading : (text : List ℕ) (result : Result (List Section) ParseError) → AreBytes text
    → ParseAnswers result (answer_of text) → ByReading text result
by_reading text (Ok found) fits given = record {
  found = answer_takes text found fits given;
  only = λ changeset h. only_one text found changeset given h;
  faulty = tt;
  the_fault = λ fault h. fault_told text (Ok found) fault fits given h;
}
by_reading text (Err error) fits given = record {
  found = tt;
  only = λ changeset h. none_missed text error changeset given h;
  faulty = error_tells text error fits given;
  the_fault = λ fault h. fault_told text (Err error) fault fits given h;
}

pub text_has : (text : List ℕ) → AreBytes text → HasChangeset text ⊎ HasFault text
text_has text fits = elim (answer_ends (answer_of text)) as (λ w. HasChangeset text ⊎ HasFault text) [
  | inl h ↦ inl (record {
    sections = h.0;
    spelled = answer_takes text h.0 fits h.1;
    only = λ others k. sym (only_one text h.0 others h.1 k);
    no_fault = λ fault k.
        let both : refusal_fault fault ≡ Ok h.0 = sym (fault_is_refused text fault fits k) ∙ h.1 in
        absurd cc;
  })
  | inr h ↦ inr (record {
    fault = h.0;
    is_fault = refused_is_fault text h.0 fits h.1;
    only = λ others k. same_fault others h.0 (sym (fault_is_refused text others fits k) ∙ h.1);
    spells_none = spells_none text h.0 h.1;
  })
]
