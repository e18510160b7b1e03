-- The progress of a text in pieces, compared with the result of reading it whole.
use Rattle.std.proofs.Common.{◌≡◌, ℕ, ◌+◌, ◌<◌, ◌≤◌, inl, inr, Bool, true, false, cond, List, [], length, take, Option}
use Rattle.std.proofs.Common.{Some, None, Result, Ok, Err, refl, sym, ap, subst, ◌∙◌, arith}
use Rattle.std.proofs.lemmas.Bool.{cases_Bool, cases_lt, lt-ltb, le-ltb}
use Rattle.std.proofs.lemmas.List.{take_all}
use Rattle.cs_model.specs.Bytes.{AreBytes}
use Rattle.cs_model.specs.Section.{Section}
use Rattle.cs_model.specs.Changeset.{most_bytes}
use Rattle.cs_parse.specs.declared.fault.FaultKind.{FaultKind}
use Rattle.cs_parse.specs.declared.fault.FaultKind.TheVariants.{TooLong, Truncated}
use Rattle.cs_parse.specs.declared.fault.ParseFault.{ParseFault}
use Rattle.cs_parse.specs.declared.stop.ParseRefusal.{ParseRefusal}
use Rattle.cs_parse.specs.declared.stop.ParseRefusal.TheVariants.{Short, Bad}
use Rattle.cs_parse.specs.Fault.{Viable}
use Rattle.cs_parse.specs.Reading.{sections_at, is_empty, whole_answer, overlong_answer, answer_of}
use Rattle.cs_parse.specs.Pieces.{may_be_mended, lasting, fault_in, offset_reached, offset_of, IsFaultless}
use Rattle.cs_parse.specs.Progress.{Progress, broken, Reached, read_on, so_far, stopped, advanced, progress_of}
use Rattle.cs_parse.specs.Progress.{answer_at_end_by, answer_at_end}
use Rattle.cs_parse.proofs.reading.NumberLaws.{number_front_fits}
use Rattle.cs_parse.proofs.reading.TextLaws.{front_long}
use Rattle.cs_parse.proofs.refusing.ExactText.{text_stops, not_viable}
use Rattle.cs_parse.proofs.refusing.FaultLaws.{answer_long, answer_short}
use Rattle.cs_parse.proofs.joining.PieceLaws.{goes_on}
use Rattle.cs_parse.proofs.joining.PartsAnswer.{finished_by, text_answer, parts_answer_is_none, rest_is}

-- ---- by the length of the text

abbrev progress_answers_too_long : Progress
progress_answers_too_long = broken (record { at = most_bytes; kind = TooLong })

abbrev as_reached : ℕ → Reached → Progress
as_reached taken found = record { sections = found.sections; pending = found.rest; offset = taken; fault = None }

so_far_long : (len taken : ℕ) (found : Reached) → most_bytes < len → so_far len taken found ≡ progress_answers_too_long
so_far_long len taken found long =
    ap (λ b. cond b progress_answers_too_long (as_reached taken found)) (lt-ltb most_bytes len long)

so_far_short : (len taken : ℕ) (found : Reached) → len ≤ most_bytes → so_far len taken found ≡ as_reached taken found
so_far_short len taken found short =
    ap (λ b. cond b progress_answers_too_long (as_reached taken found)) (le-ltb most_bytes len short)

abbrev progress_answers_reads : List ℕ → Reached
progress_answers_reads bytes = read_on [] bytes

abbrev arrived_at : ℕ → ℕ → List ℕ → Progress
arrived_at len taken bytes = stopped len taken (progress_answers_reads bytes) (progress_answers_reads bytes).why

progress_is : (text : List ℕ) → progress_of text
    ≡ arrived_at (length text) (length (take most_bytes text)) (take most_bytes text)
unfolding advanced
progress_is text =
    let front = take most_bytes text in
    let len : 0 + length text ≡ length text = omega arith in
    let some : 0 + length front ≡ length front = omega arith in
    ap (λ n. arrived_at n (0 + length front) front) len ∙ ap (λ n. arrived_at (length text) n front) some

progress_long : (text : List ℕ) → most_bytes < length text → progress_of text
    ≡ arrived_at (length text) most_bytes (take most_bytes text)
progress_long text long = progress_is text
    ∙ ap (λ n. arrived_at (length text) n (take most_bytes text)) (sym (front_long most_bytes text long))

progress_short : (text : List ℕ) → length text ≤ most_bytes → progress_of text
    ≡ arrived_at (length text) (length text) text
progress_short text short = progress_is text
    ∙ ap (λ w. arrived_at (length text) (length w) w) (take_all most_bytes text short)

-- ---- what the bytes are answered

ended_long : (len : ℕ) (found : Reached) (why : Option ParseRefusal) → most_bytes < len
    → answer_at_end (stopped len most_bytes found why)
    ≡ overlong_answer most_bytes (finished_by found.sections found.rest why)
ended_long len found None long = ap answer_at_end (so_far_long len most_bytes found long)
ended_long len found (Some Short) long = ap answer_at_end (so_far_long len most_bytes found long)
ended_long len found (Some (Bad left kind)) long = refl

abbrev truncated : ℕ → Result (List Section) ParseFault
truncated len = Err (record { at = len; kind = Truncated })

ended_short : (len : ℕ) (found : Reached) (why : Option ParseRefusal) → len ≤ most_bytes → is_empty found.rest
    ≡ parts_answer_is_none why → answer_at_end (stopped len len found why)
    ≡ whole_answer len (finished_by found.sections found.rest why)
ended_short len found None short left = ap answer_at_end (so_far_short len len found short)
    ∙ ap (λ b. cond b (Ok found.sections) (truncated len)) left
ended_short len found (Some Short) short left = ap answer_at_end (so_far_short len len found short)
    ∙ ap (λ b. cond b (Ok found.sections) (truncated len)) left
ended_short len found (Some (Bad left_over kind)) short left = refl

pub progress_ended : (text : List ℕ) → AreBytes text → answer_at_end (progress_of text) ≡ answer_of text
progress_ended text fits =
    elim (cases_lt most_bytes (length text)) as (λ w. answer_at_end (progress_of text) ≡ answer_of text) [
      | inl long ↦
          let front = take most_bytes text in
          let front_bytes = number_front_fits most_bytes text (omega arith) fits in
          ap answer_at_end (progress_long text long)
          ∙ ended_long (length text) (progress_answers_reads front) (progress_answers_reads front).why long
          ∙ ap (overlong_answer most_bytes) (sym (text_answer front front_bytes))
          ∙ sym (answer_long text long)
      | inr short ↦
          ap answer_at_end (progress_short text short)
          ∙ ended_short (length text) (progress_answers_reads text) (progress_answers_reads text).why short
          (rest_is [] text fits)
          ∙ ap (whole_answer (length text)) (sym (text_answer text fits))
          ∙ sym (answer_short text short)
    ]

-- ---- the fault that no more bytes mend

fault_lasts : (text : List ℕ) (fault : ParseFault) → AreBytes text → answer_of text ≡ Err fault → (IsFaultless text → ⊥)
    → fault_in text ≡ Some fault
fault_lasts text fault fits e stops =
    elim (cases_Bool (may_be_mended fault.kind)) as (λ w. fault_in text ≡ Some fault) [
      | inl m ↦ absurd (stops (goes_on text fits (ap lasting e ∙ ap (λ w. cond w None (Some fault)) m)))
      | inr n ↦ ap lasting e ∙ ap (λ w. cond w None (Some fault)) n
    ]

progress_answers_viable_read : (bytes : List ℕ) (left : ℕ) (kind : FaultKind) → AreBytes bytes → Viable bytes
    → sections_at bytes ≡ Err (Bad left kind) → ⊥
progress_answers_viable_read bytes left kind fits v e =
    let s = text_stops bytes left kind fits e in
    not_viable s.front s.place s.byte kind s.back s.stands s.is_wrong (subst (λ w. Viable w) s.parts v)

-- within the limit a fault is that of a byte
bad_found : (len : ℕ) (found : Reached) (why : Option ParseRefusal) (fault : ParseFault) → len ≤ most_bytes
    → (stopped len len found why).fault ≡ Some fault → (left : ℕ) × (kind : FaultKind) × (why ≡ Some (Bad left kind))
bad_found len found None fault short e =
    let none : None ≡ Some fault = sym (ap (λ (p : Progress). p.fault) (so_far_short len len found short)) ∙ e in
    absurd cc
bad_found len found (Some Short) fault short e =
    let none : None ≡ Some fault = sym (ap (λ (p : Progress). p.fault) (so_far_short len len found short)) ∙ e in
    absurd cc
bad_found len found (Some (Bad left kind)) fault short e = (left, kind, refl)

goes_nowhere : (text : List ℕ) (fault : ParseFault) → AreBytes text → (progress_of text).fault ≡ Some fault
    → IsFaultless text → ⊥
goes_nowhere text fault fits e g =
    let found = progress_answers_reads text in
    let b = bad_found (length text) found found.why fault g.within_limit
    (sym (ap (λ (p : Progress). p.fault) (progress_short text g.within_limit)) ∙ e) in
    progress_answers_viable_read text b.0 b.1 fits g.viable
    (text_answer text fits ∙ ap (finished_by found.sections found.rest) b.2)

nothing_lasts : (b : Bool) (sections : List Section) (at : ℕ) → lasting (cond b (Ok sections) (truncated at)) ≡ None
nothing_lasts true sections at = refl
nothing_lasts false sections at = refl

progress_answers_fault_by : (text : List ℕ) (o : Option ParseFault) → AreBytes text → (progress_of text).fault ≡ o → o
    ≡ fault_in text
progress_answers_fault_by text None fits e =
    let p = progress_of text in
    let whole : answer_of text ≡ answer_at_end_by None p = sym (progress_ended text fits)
    ∙ ap (λ o. answer_at_end_by o p) e in
    sym (ap lasting whole ∙ nothing_lasts (is_empty p.pending) p.sections p.offset)
progress_answers_fault_by text (Some fault) fits e =
    let p = progress_of text in
    let whole : answer_of text ≡ Err fault = sym (progress_ended text fits) ∙ ap (λ o. answer_at_end_by o p) e in
    sym (fault_lasts text fault fits whole (λ g. goes_nowhere text fault fits e g))

pub progress_fault : (text : List ℕ) → AreBytes text → (progress_of text).fault ≡ fault_in text
progress_fault text fits = progress_answers_fault_by text (progress_of text).fault fits refl

-- ---- how many bytes were taken, or the place of the fault

abbrev IsPlaced : ℕ → Progress → Type 0
IsPlaced len progress = progress.offset ≡ offset_reached progress.fault len

placed_long : (len : ℕ) (found : Reached) (why : Option ParseRefusal) → most_bytes < len
    → IsPlaced len (stopped len most_bytes found why)
placed_long len found None long = subst (IsPlaced len) (sym (so_far_long len most_bytes found long)) refl
placed_long len found (Some Short) long = subst (IsPlaced len) (sym (so_far_long len most_bytes found long)) refl
placed_long len found (Some (Bad left kind)) long = refl

placed_short : (len : ℕ) (found : Reached) (why : Option ParseRefusal) → len ≤ most_bytes
    → IsPlaced len (stopped len len found why)
placed_short len found None short = subst (IsPlaced len) (sym (so_far_short len len found short)) refl
placed_short len found (Some Short) short = subst (IsPlaced len) (sym (so_far_short len len found short)) refl
placed_short len found (Some (Bad left kind)) short = refl

progress_answers_is_placed : (text : List ℕ) → IsPlaced (length text) (progress_of text)
progress_answers_is_placed text =
    elim (cases_lt most_bytes (length text)) as (λ w. IsPlaced (length text) (progress_of text)) [
      | inl long ↦ subst (IsPlaced (length text)) (sym (progress_long text long))
          (placed_long (length text) (progress_answers_reads (take most_bytes text))
          (progress_answers_reads (take most_bytes text)).why long)
      | inr short ↦ subst (IsPlaced (length text)) (sym (progress_short text short))
          (placed_short (length text) (progress_answers_reads text) (progress_answers_reads text).why short)
    ]

pub progress_offset : (text : List ℕ) → AreBytes text → (progress_of text).offset ≡ offset_of text
progress_offset text fits = progress_answers_is_placed text
    ∙ ap (λ o. offset_reached o (length text)) (progress_fault text fits)
