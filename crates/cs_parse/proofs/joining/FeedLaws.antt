-- What a parser returns, for every text that it may have taken.
use Rattle.std.proofs.Common.{◌≡◌, ◌==◌, Bool, cond, refl, suc, length, ◌∷◌, ℕ, List, [], arith, ◌++◌, Option, Some}
use Rattle.std.proofs.Common.{None, Result, Ok, Err, sym, ap, subst, ◌∙◌}
use Rattle.std.specs.Prelude.{IfErr, OnOk, IfOk, IsOk}
use Rattle.std.proofs.lemmas.Bool.{false≢true, ne_eqb}
use Rattle.std.specs.Borrow.{Bor}
use Rattle.cs_model.specs.Bytes.{AreBytes}
use Rattle.cs_model.specs.Section.{Section}
use Rattle.cs_model.specs.Text.{Spells}
use Rattle.cs_parse.specs.declared.fault.FaultKind.TheVariants.{Truncated}
use Rattle.cs_parse.specs.declared.fault.ParseError.{ParseError}
use Rattle.cs_parse.specs.declared.fault.ParseError.TheVariants.{Fault, Memory}
use Rattle.cs_parse.specs.declared.fault.ParseFault.{ParseFault}
use Rattle.cs_parse.specs.Answer.{Shows}
use Rattle.cs_parse.specs.Fault.{IsFault}
use Rattle.cs_parse.specs.Pieces.{fault_in, IsLasting, ReportsLasting, IsFaultless}
use Rattle.cs_parse.specs.Progress.{Progress, advanced, answer_at_end_by, answer_at_end, FeedAnswers, Took, TakesPiece}
use Rattle.cs_parse.proofs.refusing.Exact.{are_bytes-append}
use Rattle.cs_parse.proofs.refusing.FaultLaws.{refused_is_fault}
use Rattle.cs_parse.proofs.joining.PieceLaws.{lasting_is, piece_is_lasting, goes_on}
use Rattle.cs_parse.proofs.joining.ProgressAnswers.{progress_ended, progress_fault}
use Rattle.cs_parse.proofs.joining.ProgressLaws.{progress_begins, progress_more}
use Rattle.cs_parse.specs.Reading.{answer_of}
use Rattle.cs_parse.proofs.reading.Steps.{bytes_from, bytes_to}
use Rattle.cs_parse.proofs.reading.TextLaws.{answer_takes}

-- ---- finish

pub finish_found : (result : Result (Bor (List Section)) ParseFault) (progress : Progress)
    → Shows result (answer_at_end progress) → (text : List ℕ) → Took progress text
    → IfOk result (λ (changeset : Bor (List Section)). Spells text changeset.now)
finish_found (Ok found) progress shows text took =
    answer_takes text found.now took.bytes
    (sym (progress_ended text took.bytes) ∙ ap answer_at_end (sym took.read) ∙ shows)
finish_found (Err fault) progress shows text took = tt

pub finish_faulty : (result : Result (Bor (List Section)) ParseFault) (progress : Progress)
    → Shows result (answer_at_end progress) → (text : List ℕ) → Took progress text
    → IfErr result (λ fault. IsFault text fault)
finish_faulty (Ok found) progress shows text took = tt
finish_faulty (Err fault) progress shows text took =
    refused_is_fault text fault took.bytes
    (sym (progress_ended text took.bytes) ∙ ap answer_at_end (sym took.read) ∙ shows)

-- ---- the changeset taken out

abbrev feed_answer : Bool → List Section → ParseFault → Result (List Section) ParseFault
feed_answer b sections fault = cond b (Ok sections) (Err fault)

feed_no_more : (pending : List ℕ) (sections : List Section) (fault : ParseFault)
    → IsOk (feed_answer (length pending == 0) sections fault) → pending ≡ []
feed_no_more [] sections fault ok = refl
feed_no_more (byte ∷ pending) sections fault ok =
    absurd (false≢true (subst (λ b. IsOk (feed_answer b sections fault))
    (ne_eqb (suc (length pending)) 0 (λ z. absurd cc)) ok))

-- where a changeset is shown nothing waits
pub feed_none_left : (progress : Progress) (o : Option ParseFault) → IsOk (answer_at_end_by o progress)
    → progress.pending ≡ []
feed_none_left progress (Some fault) ok = absurd (false≢true ok)
feed_none_left progress None ok =
    feed_no_more progress.pending progress.sections (record { at = progress.offset; kind = Truncated }) ok

-- a new parser has taken no bytes
feed_no_bytes : AreBytes []
feed_no_bytes i = omega arith

pub new_took : (sections : List Section) (pending : List ℕ) → sections ≡ [] → pending ≡ []
    → Took (record { sections = sections; pending = pending; offset = 0; fault = None }) []
new_took sections pending none no_pending = record {
  bytes = feed_no_bytes;
  read = ap (λ s. record { sections = s; pending = pending; offset = 0; fault = None }) none
      ∙ ap (λ w. record { sections = []; pending = w; offset = 0; fault = None }) no_pending ∙ sym progress_begins;
}

pub take_spelled : (progress : Progress) (changeset : List Section) → answer_at_end progress ≡ Ok changeset
    → (text : List ℕ) → Took progress text → Spells text changeset
take_spelled progress changeset e text took =
    answer_takes text changeset took.bytes (sym (progress_ended text took.bytes) ∙ ap answer_at_end (sym took.read) ∙ e)

pub ended_answer : (progress : Progress) (text : List ℕ) → Took progress text → answer_at_end progress ≡ answer_of text
ended_answer progress text took = ap answer_at_end took.read ∙ progress_ended text took.bytes

-- ---- feed

all_bytes : (text piece : List ℕ) → AreBytes text → AreBytes piece → AreBytes (text ++ piece)
all_bytes text piece h k = bytes_from (text ++ piece) (are_bytes-append text piece (bytes_to text h) (bytes_to piece k))

-- the progress behind a piece is that of the text with the piece
feed_goes : (old : Progress) (piece text : List ℕ) → AreBytes piece → Took old text
    → Took (advanced old piece) (text ++ piece)
feed_goes old piece text fits took = record {
  bytes = all_bytes text piece took.bytes fits;
  read = ap (λ p. advanced p piece) took.read ∙ sym (progress_more text piece (all_bytes text piece took.bytes fits));
}

feed_fault_told : (progress : Progress) (text : List ℕ) (o : Option ParseFault) → Took progress text → progress.fault
    ≡ o → fault_in text ≡ o
feed_fault_told progress text o took e = sym (progress_fault text took.bytes)
    ∙ ap (λ (p : Progress). p.fault) (sym took.read) ∙ e

pub feed_told : (result : Result (Unit {0}) ParseError) (old : Progress) (piece : List ℕ) (new : Progress)
    → AreBytes piece → FeedAnswers result old piece new → (text : List ℕ) → Took old text
    → IfErr result (λ e. ReportsLasting e (text ++ piece))
feed_told (Ok done) old piece new fits fed text took = tt
feed_told (Err (Fault fault)) old piece new fits fed text took =
    let after = feed_goes old piece text fits took in
    lasting_is (text ++ piece) fault after.bytes
    (feed_fault_told (advanced old piece) (text ++ piece) (Some fault) after fed.0)
feed_told (Err Memory) old piece new fits fed text took = tt

pub feed_going : (result : Result (Unit {0}) ParseError) (old : Progress) (piece : List ℕ) (new : Progress)
    → AreBytes piece → FeedAnswers result old piece new → (text : List ℕ) → Took old text
    → OnOk result (IsFaultless (text ++ piece))
feed_going (Ok done) old piece new fits fed text took =
    let after = feed_goes old piece text fits took in
    goes_on (text ++ piece) after.bytes (feed_fault_told (advanced old piece) (text ++ piece) None after fed.0)
feed_going (Err e) old piece new fits fed text took = tt

pub feed_taken : (result : Result (Unit {0}) ParseError) (old : Progress) (piece : List ℕ) (new : Progress)
    → AreBytes piece → FeedAnswers result old piece new → (text : List ℕ) → Took old text
    → TakesPiece result text piece new
feed_taken (Ok done) old piece new fits fed text took =
    subst (λ p. Took p (text ++ piece)) (sym fed.1) (feed_goes old piece text fits took)
feed_taken (Err (Fault fault)) old piece new fits fed text took =
    subst (λ p. Took p (text ++ piece)) (sym fed.1) (feed_goes old piece text fits took)
feed_taken (Err Memory) old piece new fits fed text took = subst (λ p. Took p text) (sym fed) took

abbrev pub TellsAgain : Result (Unit {0}) ParseError → Progress → Type 0
TellsAgain result old = (fault : ParseFault) → old.fault ≡ Some fault → result ≡ Err (Fault fault)

pub feed_again : (result : Result (Unit {0}) ParseError) (old : Progress) → TellsAgain result old
    → (text : List ℕ) (fault : ParseFault) → Took old text → IsLasting text fault → result ≡ Err (Fault fault)
feed_again result old again text fault took lasting =
    again fault (ap (λ (p : Progress). p.fault) took.read ∙ progress_fault text took.bytes
    ∙ piece_is_lasting text fault took.bytes lasting)
