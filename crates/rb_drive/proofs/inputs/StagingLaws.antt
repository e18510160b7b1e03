-- Feeding a text in pieces: the progress is that of the bytes so far, and a fault in them is the text's.
use Rattle.std.proofs.Common.{◌≡◌, ℕ, zero, suc, List, [], ◌∷◌, ◌++◌, Some, Err}
use Rattle.std.proofs.Common.{refl, sym, ap, subst, ◌∙◌, append_assoc, arith}
use Rattle.cs_model.specs.Bytes.{AreBytes}
use Rattle.cs_parse.specs.declared.fault.ParseError.{ParseError}
use Rattle.cs_parse.specs.declared.fault.ParseError.TheVariants.{Fault, Memory}
use Rattle.cs_parse.specs.declared.fault.ParseFault.{ParseFault}
use Rattle.cs_parse.specs.Progress.{FeedAnswers, Progress, advance, advanced, answer_at_end, answer_at_end_by}
use Rattle.cs_parse.specs.Progress.{progress_of}
use Rattle.cs_parse.specs.Reading.{answer_of}
use Rattle.rb_drive.specs.Staging.{FeedStops}

-- the laws of cs_parse
abbrev pub FeedingGoesOn : Type 0
FeedingGoesOn = (text piece : List ℕ) → AreBytes (text ++ piece)
    → progress_of (text ++ piece) ≡ advanced (progress_of text) piece

abbrev pub ProgressAnswers : Type 0
ProgressAnswers = (text : List ℕ) → AreBytes text → answer_at_end (progress_of text) ≡ answer_of text

bytes_before : (xs ys : List ℕ) → AreBytes (xs ++ ys) → AreBytes xs
bytes_before [] ys bytes i = omega arith
bytes_before (x ∷ xs) ys bytes zero = bytes 0
bytes_before (x ∷ xs) ys bytes (suc i) = bytes_before xs ys (λ j. bytes (suc j)) i

-- a faulty progress is not advanced
faulty_stays : (progress : Progress) (fault : ParseFault) (piece : List ℕ) → progress.fault ≡ Some fault
    → advanced progress piece ≡ progress
unfolding advanced
faulty_stays progress fault piece is =
    subst (λ f. advance f progress piece ≡ progress) (sym is) refl

faulty_answers : (progress : Progress) (fault : ParseFault) → progress.fault ≡ Some fault
    → answer_at_end progress ≡ Err fault
faulty_answers progress fault is = ap (λ f. answer_at_end_by f progress) is

-- bytes of which some front has a fault have it
front_faults : FeedingGoesOn → ProgressAnswers → (front rest text : List ℕ) (fault : ParseFault)
    → AreBytes text → front ++ rest ≡ text → (progress_of front).fault ≡ Some fault → answer_of text ≡ Err fault
front_faults goes answers front rest text fault bytes parts is =
    let whole : AreBytes (front ++ rest) = subst AreBytes (sym parts) bytes in
    let same : progress_of (front ++ rest) ≡ progress_of front =
    goes front rest whole ∙ faulty_stays (progress_of front) fault rest is in
    ap answer_of (sym parts) ∙ sym (answers (front ++ rest) whole) ∙ ap answer_at_end same
    ∙ faulty_answers (progress_of front) fault is

-- the bytes so far are a front of the text
pub record IsFedUpTo (text rest : List ℕ) (progress : Progress) : Type 0 where
  pub front : List ℕ
  pub parts : front ++ rest ≡ text
  pub read : progress ≡ progress_of front

next_progress : FeedingGoesOn → (text piece rest after : List ℕ) (old : Progress) → AreBytes text
    → (so_far : IsFedUpTo text rest old) → rest ≡ piece ++ after
    → progress_of (so_far.front ++ piece) ≡ advanced old piece
next_progress goes text piece rest after old bytes so_far is =
    let whole : (so_far.front ++ piece) ++ after ≡ text =
    append_assoc so_far.front piece after ∙ ap (λ t. so_far.front ++ t) (sym is) ∙ so_far.parts in
    goes so_far.front piece (bytes_before (so_far.front ++ piece) after (subst AreBytes (sym whole) bytes))
    ∙ ap (λ p. advanced p piece) (sym so_far.read)

pub feeds_next : FeedingGoesOn → (text piece rest after : List ℕ) (old new : Progress) → AreBytes text
    → IsFedUpTo text rest old → rest ≡ piece ++ after → new ≡ advanced old piece → IsFedUpTo text after new
feeds_next goes text piece rest after old new bytes so_far is next = record {
  front = so_far.front ++ piece;
  parts = append_assoc so_far.front piece after ∙ ap (λ t. so_far.front ++ t) (sym is) ∙ so_far.parts;
  read = next ∙ sym (next_progress goes text piece rest after old bytes so_far is);
}

pub feeding_stops : FeedingGoesOn → ProgressAnswers → (text piece rest after : List ℕ) (old new : Progress)
    (error : ParseError) → AreBytes text → IsFedUpTo text rest old → rest ≡ piece ++ after
    → FeedAnswers {A = Unit {0}} (Err error) old piece new → FeedStops text error
feeding_stops goes answers text piece rest after old new (Fault fault) bytes so_far is said =
    front_faults goes answers (so_far.front ++ piece) after text fault bytes
    (append_assoc so_far.front piece after ∙ ap (λ t. so_far.front ++ t) (sym is) ∙ so_far.parts)
    (ap (λ p. p.fault) (next_progress goes text piece rest after old bytes so_far is) ∙ said.0)
feeding_stops goes answers text piece rest after old new Memory bytes so_far is said = tt
