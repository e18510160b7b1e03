-- Going through the texts decides what they come to. So the result of `changeset_combine` allows no other.
use Rattle.std.proofs.Common.{◌≡◌, ◌∙◌, ◌+◌, ℕ, suc, zero, ℤ, pos, negsuc, List, [], ◌∷◌, ◌++◌, length, map}
use Rattle.std.proofs.Common.{refl, sym, ap, subst, append_assoc, append-nil, Option, Some, None, Result, Ok, Err}
use Rattle.std.proofs.Common.{Bool, true, false, arith}
use Rattle.std.proofs.lemmas.Bool.{false≢true}
use Rattle.cs_model.specs.Section.{Section}
use Rattle.cs_parse.specs.declared.fault.ParseFault.{ParseFault}
use Rattle.cs_parse.specs.Reading.{answer_of}
use Rattle.cs_write.specs.Text.{text_of}
use Rattle.cs_group.specs.Adding.{first_refused, sections_in}
use Rattle.cs_group.specs.Group.{first_clash, group_of}
use Rattle.changeset_c.specs.Combining.{IsFirstBad, HasTextFault, HasClash, CombineSays, Writes}
use Rattle.changeset_c.specs.Combining.{IsTextFault, IsClash, IsReadSo, AreReadSo, SpellAll, combined_text}
use Rattle.cs_parse.specs.FaultNumber.{kind_number}
use Rattle.changeset_c.specs.Says.{IsNumber}
use Rattle.changeset_c.proofs.CombineLaws.{both_none}

-- all sections of the texts; or the first text that can't be added, by its fault or by its section
pub data TextsOutcome : Type 0 where
  whole : List Section → TextsOutcome
  faulty : ℕ → ParseFault → TextsOutcome
  clashing : ℕ → ℕ → TextsOutcome

-- the outcome of the texts after so many that can be added
abbrev later : ℕ → TextsOutcome → TextsOutcome
later n (whole sections) = whole sections
later n (faulty index fault) = faulty (n + index) fault
later n (clashing index section) = clashing (n + index) section

abbrev unless_clash : Option ℕ → TextsOutcome → TextsOutcome
unless_clash None outcome = later 1 outcome
unless_clash (Some section) outcome = clashing 0 section

abbrev ReadingResult : Type 0
ReadingResult = Result (List Section) ParseFault

abbrev outcome_from : List Section → List ReadingResult → TextsOutcome
outcome_from earlier [] = whole earlier
outcome_from earlier (Err fault ∷ answers) = faulty 0 fault
outcome_from earlier (Ok changeset ∷ answers) =
    unless_clash (first_clash earlier changeset) (outcome_from (earlier ++ changeset) answers)

-- ---- later outcomes

later_none : (outcome : TextsOutcome) → later 0 outcome ≡ outcome
later_none (whole sections) = refl
later_none (faulty index fault) = ap (λ n. faulty n fault) (omega arith)
later_none (clashing index section) = ap (λ n. clashing n section) (omega arith)

later_more : (n : ℕ) (outcome : TextsOutcome) → later 1 (later n outcome) ≡ later (suc n) outcome
later_more n (whole sections) = refl
later_more n (faulty index fault) = ap (λ n. faulty n fault) (omega arith)
later_more n (clashing index section) = ap (λ n. clashing n section) (omega arith)

-- ---- the outcome of the texts

abbrev outcome_of : List Section → List (List ℕ) → TextsOutcome
outcome_of earlier texts = outcome_from earlier (map answer_of texts)

texts_go_on : (front rest : List (List ℕ)) (changesets : List (List Section)) (earlier : List Section)
    → AreReadSo (front ++ rest) → SpellAll front changesets → first_refused earlier changesets ≡ None
    → outcome_of earlier (front ++ rest) ≡ later (length front) (outcome_of (earlier ++ sections_in changesets) rest)
texts_go_on [] rest [] earlier read all fits =
    ap (λ ss. outcome_of ss rest) (sym (append-nil earlier)) ∙ sym (later_none (outcome_of (earlier ++ []) rest))
texts_go_on [] rest (c ∷ cs) earlier read all fits = absurd all
texts_go_on (t ∷ ts) rest [] earlier read all fits = absurd all
texts_go_on (t ∷ ts) rest (c ∷ cs) earlier read all fits =
    let both = both_none (first_clash earlier c) (first_refused (earlier ++ c) cs) fits in
    ap (λ answer. outcome_from earlier (answer ∷ map answer_of (ts ++ rest))) (read.0.spelled c all.0)
    ∙ ap (λ clash. unless_clash clash (outcome_of (earlier ++ c) (ts ++ rest))) both.0
    ∙ ap (later 1) (texts_go_on ts rest cs (earlier ++ c) read.1 all.1 both.1)
    ∙ later_more (length ts) (outcome_of ((earlier ++ c) ++ sections_in cs) rest)
    ∙ ap (λ ss. later (suc (length ts)) (outcome_of ss rest)) (append_assoc earlier c (sections_in cs))

pub whole_outcome : (texts : List (List ℕ)) (changesets : List (List Section)) → AreReadSo texts
    → SpellAll texts changesets → first_refused [] changesets ≡ None
    → outcome_of [] texts ≡ whole (sections_in changesets)
whole_outcome texts changesets read all fits =
    ap (λ ts. outcome_of [] ts) (sym (append-nil texts))
    ∙ texts_go_on texts [] changesets [] (subst AreReadSo (sym (append-nil texts)) read) all fits

text_read_so : (front : List (List ℕ)) (text : List ℕ) (rest : List (List ℕ)) → AreReadSo (front ++ text ∷ rest)
    → IsReadSo text
text_read_so [] text rest read = read.0
text_read_so (t ∷ ts) text rest read = text_read_so ts text rest read.1

first_outcome : (texts : List (List ℕ)) (index : ℕ) (front : List (List ℕ)) (text : List ℕ)
    (changesets : List (List Section)) (first : IsFirstBad texts index front text changesets) → AreReadSo texts
    → outcome_of [] texts
    ≡ later (length front) (outcome_of (sections_in changesets) (text ∷ first.rest))
first_outcome texts index front text changesets first read =
    ap (λ ts. outcome_of [] ts) first.parts
    ∙ texts_go_on front (text ∷ first.rest) changesets [] (subst AreReadSo first.parts read) first.spelled first.fits

pub fault_outcome : (texts : List (List ℕ)) (index at kind : ℕ) (is : HasTextFault texts index at kind)
    → AreReadSo texts → outcome_of [] texts ≡ faulty index is.fault.fault
fault_outcome texts index at kind is read =
    let one : IsReadSo is.text = text_read_so is.front is.text is.first.rest (subst AreReadSo is.first.parts read) in
    first_outcome texts index is.front is.text is.changesets is.first read
    ∙ ap (λ answer. later (length is.front) (outcome_from (sections_in is.changesets) (answer
    ∷ map answer_of is.first.rest))) (one.refused is.fault.fault is.fault.is_fault)
    ∙ ap (λ n. faulty n is.fault.fault) (omega (arith, is.first.is_index))

pub clash_outcome : (texts : List (List ℕ)) (index section : ℕ) (is : HasClash texts index section) → AreReadSo texts
    → outcome_of [] texts ≡ clashing index section
clash_outcome texts index section is read =
    let one : IsReadSo is.text = text_read_so is.front is.text is.first.rest (subst AreReadSo is.first.parts read) in
    let earlier = sections_in is.changesets in
    first_outcome texts index is.front is.text is.changesets is.first read
    ∙ ap (λ answer. later (length is.front) (outcome_from earlier (answer ∷ map answer_of is.first.rest)))
    (one.spelled is.changeset is.spells)
    ∙ ap (λ clash. later (length is.front) (unless_clash clash (outcome_of (earlier ++ is.changeset) is.first.rest)))
    is.clash
    ∙ ap (λ n. clashing n section) (omega (arith, is.first.is_index))

-- ---- what an outcome tells

abbrev is_whole_outcome : TextsOutcome → Bool
is_whole_outcome (whole sections) = true
is_whole_outcome (faulty index fault) = false
is_whole_outcome (clashing index section) = false

abbrev is_faulty : TextsOutcome → Bool
is_faulty (whole sections) = false
is_faulty (faulty index fault) = true
is_faulty (clashing index section) = false

abbrev sections_told : TextsOutcome → List Section
sections_told (whole sections) = sections
sections_told (faulty index fault) = []
sections_told (clashing index section) = []

abbrev index_told : TextsOutcome → ℕ
index_told (whole sections) = 0
index_told (faulty index fault) = index
index_told (clashing index section) = index

abbrev fault_or : ParseFault → TextsOutcome → ParseFault
fault_or other (whole sections) = other
fault_or other (faulty index fault) = fault
fault_or other (clashing index section) = other

abbrev section_told : TextsOutcome → ℕ
section_told (whole sections) = 0
section_told (faulty index fault) = 0
section_told (clashing index section) = section

-- ---- the result of `changeset_combine` is the only one

-- what it says of texts whose group is written
pub says_written : (answer : ℤ) (texts : List (List ℕ)) (before after : List ℕ) (index at kind : ℕ)
    → Writes answer texts before after → CombineSays answer texts before after index at kind
says_written (pos n) texts before after index at kind written = written
says_written (negsuc n) texts before after index at kind written = absurd written

pub combine_only : (answer : ℤ) (texts : List (List ℕ)) (before after : List ℕ) (index at kind : ℕ) → AreReadSo texts
    → CombineSays answer texts before after index at kind → (changesets : List (List Section))
    → SpellAll texts changesets → first_refused [] changesets ≡ None
    → IsNumber answer (length (combined_text changesets))
combine_only (pos n) texts before after index at kind read says changesets all fits =
    says.is_length ∙ ap (λ ss. length (text_of (group_of ss)))
    (ap sections_told (sym (whole_outcome texts says.changesets read says.spelled says.fits)
    ∙ whole_outcome texts changesets read all fits))
combine_only (negsuc zero) texts before after index at kind read says changesets all fits =
    absurd (false≢true (ap is_whole_outcome (sym (fault_outcome texts index at kind says.0 read)
    ∙ whole_outcome texts changesets read all fits)))
combine_only (negsuc (suc zero)) texts before after index at kind read says changesets all fits = refl
combine_only (negsuc (suc (suc zero))) texts before after index at kind read says changesets all fits =
    absurd (false≢true (ap is_whole_outcome (sym (clash_outcome texts index at says.0 read)
    ∙ whole_outcome texts changesets read all fits)))
combine_only (negsuc (suc (suc (suc n)))) texts before after index at kind read says changesets all fits = absurd says

pub combine_fault : (answer : ℤ) (texts : List (List ℕ)) (before after : List ℕ) (index at kind : ℕ) → AreReadSo texts
    → CombineSays answer texts before after index at kind → (text place number : ℕ)
    → HasTextFault texts text place number → IsTextFault answer index at kind text place number
combine_fault (pos n) texts before after index at kind read says text place number is =
    absurd (false≢true (ap is_whole_outcome (sym (fault_outcome texts text place number is read)
    ∙ whole_outcome texts says.changesets read says.spelled says.fits)))
combine_fault (negsuc zero) texts before after index at kind read says text place number is =
    let same = sym (fault_outcome texts index at kind says.0 read) ∙ fault_outcome texts text place number is read in
    let one : says.0.fault.fault ≡ is.fault.fault = ap (fault_or says.0.fault.fault) same in (
      ap index_told same,
      says.0.fault.is_place ∙ ap (λ f. f.at) one ∙ sym is.fault.is_place,
      says.0.fault.is_kind ∙ ap (λ f. kind_number f.kind) one ∙ sym is.fault.is_kind,
    )
combine_fault (negsuc (suc zero)) texts before after index at kind read says text place number is = refl
combine_fault (negsuc (suc (suc zero))) texts before after index at kind read says text place number is =
    absurd (false≢true (ap is_faulty (sym (clash_outcome texts index at says.0 read)
    ∙ fault_outcome texts text place number is read)))
combine_fault (negsuc (suc (suc (suc n)))) texts before after index at kind read says text place number is =
    absurd says

pub combine_clash : (answer : ℤ) (texts : List (List ℕ)) (before after : List ℕ) (index at kind : ℕ) → AreReadSo texts
    → CombineSays answer texts before after index at kind → (text section : ℕ) → HasClash texts text section
    → IsClash answer index at text section
combine_clash (pos n) texts before after index at kind read says text section is =
    absurd (false≢true (ap is_whole_outcome (sym (clash_outcome texts text section is read)
    ∙ whole_outcome texts says.changesets read says.spelled says.fits)))
combine_clash (negsuc zero) texts before after index at kind read says text section is =
    absurd (false≢true (ap is_faulty (sym (clash_outcome texts text section is read)
    ∙ fault_outcome texts index at kind says.0 read)))
combine_clash (negsuc (suc zero)) texts before after index at kind read says text section is = tt
combine_clash (negsuc (suc (suc zero))) texts before after index at kind read says text section is =
    let same = sym (clash_outcome texts index at says.0 read) ∙ clash_outcome texts text section is read in
    (refl, ap index_told same, ap section_told same)
combine_clash (negsuc (suc (suc (suc n)))) texts before after index at kind read says text section is = absurd says
