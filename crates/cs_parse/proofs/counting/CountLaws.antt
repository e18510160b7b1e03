-- The number of changes is that of the changeset the text encodes, and a fault is the text's.
use Rattle.std.proofs.Common.{◌≡◌, ℕ, ◌≤◌, List, Result, Ok, Err, IfOk, IfErr, refl, sym, ap, subst, ◌∙◌}
use Rattle.cs_model.specs.Section.{Section}
use Rattle.cs_model.specs.Changeset.{most_bytes}
use Rattle.cs_model.specs.Text.{Spells}
use Rattle.cs_parse.specs.declared.fault.ParseFault.{ParseFault}
use Rattle.cs_parse.specs.Count.{changes_in, counted_answer, HasChangeCount}
use Rattle.cs_parse.specs.Fault.{IsFault}
use Rattle.cs_parse.specs.Reading.{answer_of}
use Rattle.cs_model.specs.Bytes.{AreBytes}
use Rattle.cs_parse.proofs.reading.TextLaws.{answer_takes, answer_again}
use Rattle.cs_parse.proofs.refusing.FaultLaws.{refused_is_fault, fault_is_refused}
use Rattle.cs_parse.proofs.counting.Counts.{few_changes}

abbrev CountCounted : Type 0
CountCounted = Result ℕ ParseFault

number : (answer : Result (List Section) ParseFault) (count : ℕ) → Ok count ≡ counted_answer answer
    → (sections : List Section) × (answer ≡ Ok sections) × (count ≡ changes_in sections)
number (Ok sections) count e = (sections, refl, cc)
number (Err fault) count e = absurd cc

refusal : (answer : Result (List Section) ParseFault) (fault : ParseFault) → Err fault ≡ counted_answer answer → answer
    ≡ Err fault
refusal (Ok sections) fault e = absurd cc
refusal (Err other) fault e = cc

pub count_found : (text : List ℕ) (result : CountCounted) → AreBytes text → result ≡ counted_answer (answer_of text)
    → IfOk result (λ count. HasChangeCount text count)
count_found text (Ok count) fits e =
    let n = number (answer_of text) count e in
    record { changeset = n.0; spelled = answer_takes text n.0 fits n.1; is_count = n.2 }
count_found text (Err fault) fits e = tt

pub count_bounded : (text : List ℕ) (result : CountCounted) → AreBytes text → result ≡ counted_answer (answer_of text)
    → IfOk result (λ count. count ≤ most_bytes)
count_bounded text (Ok count) fits e =
    let n = number (answer_of text) count e in
    subst (λ m. m ≤ most_bytes) (sym n.2) (few_changes text n.0 (answer_takes text n.0 fits n.1))
count_bounded text (Err fault) fits e = tt

pub count_only : (text : List ℕ) (result : CountCounted) → result ≡ counted_answer (answer_of text)
    → (changeset : List Section) → Spells text changeset → result ≡ Ok (changes_in changeset)
count_only text result e changeset h = e ∙ ap counted_answer (answer_again text changeset h)

pub count_faulty : (text : List ℕ) (result : CountCounted) → AreBytes text → result ≡ counted_answer (answer_of text)
    → IfErr result (λ fault. IsFault text fault)
count_faulty text (Ok count) fits e = tt
count_faulty text (Err fault) fits e = refused_is_fault text fault fits (refusal (answer_of text) fault e)

pub count_fault : (text : List ℕ) (result : CountCounted) → AreBytes text → result ≡ counted_answer (answer_of text)
    → (fault : ParseFault) → IsFault text fault → result ≡ Err fault
count_fault text result fits e fault h = e ∙ ap counted_answer (fault_is_refused text fault fits h)
