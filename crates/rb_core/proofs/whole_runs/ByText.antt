-- `Feed` and `End` reply by the text that a publisher's stream has taken.
use Rattle.std.proofs.Common.{◌≡◌, ℕ, List, ◌++◌, Option, Some, None, Result, Ok, Err, refl, sym, ap, subst, ◌∙◌}
use Rattle.std.specs.Prelude.{◌↔◌, slice_get}
use Rattle.cs_model.specs.Bytes.{AreBytes}
use Rattle.cs_model.specs.declared.origin.Origin.TheVariants.{Sent}
use Rattle.cs_model.specs.declared.schema.SectionFault.{SectionFault}
use Rattle.cs_model.specs.Schema.{refusal_of}
use Rattle.cs_model.specs.Section.{Section}
use Rattle.cs_model.specs.Text.{Spells}
use Rattle.cs_parse.specs.declared.fault.ParseFault.{ParseFault}
use Rattle.cs_parse.specs.End as end
use Rattle.cs_parse.specs.Fault.{IsFault}
use Rattle.cs_parse.specs.Pieces.{fault_in, IsLasting}
use Rattle.cs_parse.specs.Progress as stream
use Rattle.cs_parse.specs.Progress.{Progress, Took, nothing, advanced, progress_of}
use Rattle.cs_parse.specs.Reading.{answer_of}
use Rattle.rb_core.specs.declared.event.Event.TheVariants as event
use Rattle.rb_core.specs.declared.publisher.PublisherState.{PublisherState}
use Rattle.rb_core.specs.declared.reply.Reply.{Reply}
use Rattle.rb_core.specs.declared.reply.Reply.TheVariants as reply
use Rattle.rb_core.specs.Outcome as out
use Rattle.rb_core.specs.Outcome.{outcome, with_publisher, fed_reply, fault_refusal}
use Rattle.rb_core.specs.State.{State}
use Rattle.rb_core.specs.Texts.{FeedsByText, EndsByText}
use Rattle.rb_core.proofs.whole_runs.Pairs.{set_same}
use Rattle.rb_core.proofs.reports.TellPublishers.{ProgressGoesOn, ProgressTells, takes_more}

-- a relation between a reply and a world, of an outcome
abbrev Of : (Reply → State → Type 0) → Reply × State → Type 0
Of R x = R x.0 x.1

-- what is read is what is spelled
abbrev pub ReadingIsSpelling : Type 0
ReadingIsSpelling = (text : List ℕ) (changeset : List Section) → AreBytes text
    → (answer_of text ≡ Ok changeset) ↔ Spells text changeset

-- what reading refuses is the text's fault
abbrev pub RefusingIsFault : Type 0
RefusingIsFault = (text : List ℕ) (fault : ParseFault) → AreBytes text
    → (answer_of text ≡ Err fault) ↔ IsFault text fault

-- the fault that feeding tells is the text's fault that no more bytes mend
abbrev pub FeedingTells : Type 0
FeedingTells = (text : List ℕ) (fault : ParseFault) → AreBytes text
    → (fault_in text ≡ Some fault) ↔ IsLasting text fault

-- how far a text is read tells the fault that no more bytes mend
abbrev pub ProgressTellsFault : Type 0
ProgressTellsFault = (text : List ℕ) → AreBytes text → (progress_of text).fault ≡ fault_in text

-- the same of a stream that took the text
fault_took : (progress : Progress) (text : List ℕ) → Took progress text → ProgressTellsFault → progress.fault
    ≡ fault_in text
fault_took progress text took tells = ap (λ p. p.fault) took.read ∙ tells text took.bytes

answer_took : (progress : Progress) (text : List ℕ) → Took progress text → ProgressTells → stream.answer_at_end progress
    ≡ answer_of text
answer_took progress text took tells = ap (λ p. stream.answer_at_end p) took.read ∙ tells text took.bytes

-- ---- bytes come

reply_told : (text : List ℕ) (found : Option ParseFault) → AreBytes text → FeedingTells → fault_in text ≡ found
    → ((fault : ParseFault) → IsLasting text fault → fed_reply found ≡ reply.Fault fault)
    × (((fault : ParseFault) → IsLasting text fault → ⊥) → fed_reply found ≡ reply.Fed)
reply_told text None bytes tells e = (
  λ fault h. let some : None ≡ Some fault = sym e ∙ (tells text fault bytes).1 h in absurd cc,
  λ none. refl,
)
reply_told text (Some told) bytes tells e = (
  λ fault h.
      let some : Some told ≡ Some fault = sym e ∙ (tells text fault bytes).1 h in
      let same : told ≡ fault = cc in
      ap reply.Fault same,
  λ none. absurd (none told ((tells text told bytes).0 e)),
)

-- behind a fault nothing is taken
stays_broken : (old : Progress) (bytes : List ℕ) (fault : ParseFault) → old.fault ≡ Some fault → advanced old bytes
    ≡ old
unfolding advanced
stays_broken old bytes fault e = ap (λ o. stream.advance o old bytes) e

fed_by_text : FeedingTells → ProgressGoesOn → ProgressTellsFault
    → (old : State) (p : ℕ) (publisher : PublisherState) (text bytes : List ℕ)
    → slice_get old.publishers p ≡ Some publisher → Took publisher.stream text → AreBytes bytes
    → Of (FeedsByText old p publisher text bytes) (out.fed_stream old p publisher (advanced publisher.stream bytes))
fed_by_text feeding goes tells old p publisher text bytes found took more =
    let next = advanced publisher.stream bytes in
    let new = takes_more publisher.stream text bytes goes took more in
    let told = reply_told (text ++ bytes) next.fault new.bytes feeding
    (sym (fault_took next (text ++ bytes) new tells)) in
    record {
      stream = next;
      takes = new;
      kept = refl;
      told = told.0;
      untold = told.1;
      stays = λ fault h.
          let e : publisher.stream.fault ≡ Some fault = fault_took publisher.stream text took tells
          ∙ (feeding text fault took.bytes).1 h in
          let same : advanced publisher.stream bytes ≡ publisher.stream =
          stays_broken publisher.stream bytes fault e in (
            ap (λ (x : Progress). fed_reply x.fault) same ∙ ap fed_reply e,
            ap (λ (x : Progress). with_publisher old p (record publisher { stream = x })) same
                ∙ ap (λ ps. record old { publishers = ps }) (set_same old.publishers p publisher found),
          );
    }

pub feed_by_text : FeedingTells → ProgressGoesOn → ProgressTellsFault
    → (old : State) (p : ℕ) (bytes : List ℕ) (publisher : PublisherState) (text : List ℕ) (given : Reply) (new : State)
    → slice_get old.publishers p ≡ Some publisher
    → Took publisher.stream text → AreBytes bytes → outcome old (event.Feed p bytes) ≡ (given, new)
    → FeedsByText old p publisher text bytes given new
unfolding outcome
feed_by_text feeding goes tells old p bytes publisher text given new found took more is =
    subst (Of (FeedsByText old p publisher text bytes)) is
    (subst (λ o. Of (FeedsByText old p publisher text bytes) (out.fed_by old p bytes o)) (sym found)
    (fed_by_text feeding goes tells old p publisher text bytes found took more))

-- ---- a stream ends

abbrev IsStagedText : State → ℕ → PublisherState → List Section → Reply → State → Type 0
IsStagedText old p publisher changeset given new = (given ≡ reply.Staged)
    × (new ≡ with_publisher old p (record publisher {
      stream = nothing;
      staged = Some (record { origin = Sent; body = changeset });
    }))

abbrev ByTextStays : State → Reply → Reply → State → Type 0
ByTextStays old answer given new = (given ≡ answer) × (new ≡ old)

staged_if : (old : State) (p : ℕ) (publisher : PublisherState) (changeset : List Section) (first : Option SectionFault)
    → first ≡ None → Of (IsStagedText old p publisher changeset)
    (out.staged_by old p publisher (end.admitted changeset first))
staged_if old p publisher changeset None is = (refl, refl)
staged_if old p publisher changeset (Some fault) is = absurd (let none : Some fault ≡ None = is in cc)

refused_if : (old : State) (p : ℕ) (publisher : PublisherState) (changeset : List Section) (first : Option SectionFault)
    (fault : SectionFault) → first ≡ Some fault
    → Of (ByTextStays old (reply.Refused (fault_refusal fault)))
    (out.staged_by old p publisher (end.admitted changeset first))
refused_if old p publisher changeset None fault is = absurd (let some : None ≡ Some fault = is in cc)
refused_if old p publisher changeset (Some first) fault is =
    let same : first ≡ fault = cc is in
    (ap (λ f. reply.Refused (fault_refusal f)) same, refl)

answered_by_text : ReadingIsSpelling → RefusingIsFault → ProgressTells
    → (old : State) (p : ℕ) (publisher : PublisherState) (text : List ℕ) (answer : Result (List Section) ParseFault)
    → stream.answer_at_end publisher.stream ≡ answer
    → Took publisher.stream text
    → Of (EndsByText old p publisher text) (out.staged_by old p publisher (end.admitted_answer old.schema answer))
answered_by_text reading refusing tells old p publisher text (Ok changeset) is took =
    let read : Ok changeset ≡ answer_of text = sym is ∙ answer_took publisher.stream text took tells in
    let first = refusal_of old.schema changeset in
    let one : (other : List Section) → Spells text other → changeset ≡ other = λ other spells. let e : Ok changeset
    ≡ Ok other = read ∙ (reading text other took.bytes).1 spells in cc in
    record {
      stages = λ other spells none.
          let same = one other spells in
          subst (λ (x : List Section). Of (IsStagedText old p publisher x)
          (out.staged_by old p publisher (end.admitted changeset first))) same
          (staged_if old p publisher changeset first (ap (refusal_of old.schema) same ∙ none));
      refuses = λ other fault spells some. refused_if old p publisher changeset first fault
          (ap (refusal_of old.schema) (one other spells) ∙ some);
      faults = λ fault h. absurd (let e : Ok changeset ≡ Err fault = read ∙ (refusing text fault took.bytes).1 h in cc);
    }
answered_by_text reading refusing tells old p publisher text (Err fault) is took =
    let read : Err fault ≡ answer_of text = sym is ∙ answer_took publisher.stream text took tells in
    record {
      stages = λ other spells none. absurd
          (let e : Err fault ≡ Ok other = read ∙ (reading text other took.bytes).1 spells in cc);
      refuses = λ other first spells some. absurd
          (let e : Err fault ≡ Ok other = read ∙ (reading text other took.bytes).1 spells in cc);
      faults = λ other h.
          let e : Err fault ≡ Err other = read ∙ (refusing text other took.bytes).1 h in
          let same : fault ≡ other = cc in
          (ap reply.Fault same, refl);
    }

pub end_by_text : ReadingIsSpelling → RefusingIsFault → ProgressTells
    → (old : State) (p : ℕ) (publisher : PublisherState) (text : List ℕ) (given : Reply) (new : State)
    → slice_get old.publishers p ≡ Some publisher → publisher.staged ≡ None
    → Took publisher.stream text → outcome old (event.End p) ≡ (given, new) → EndsByText old p publisher text given new
unfolding outcome
end_by_text reading refusing tells old p publisher text given new found none took is =
    let ends = answered_by_text reading refusing tells old p publisher text (stream.answer_at_end publisher.stream) refl
    took in
    let free = subst (λ staged. Of (EndsByText old p publisher text) (out.ended_by old p publisher staged)) (sym none)
    ends in
    subst (Of (EndsByText old p publisher text)) is
    (subst (λ o. Of (EndsByText old p publisher text) (out.ended_for old p o)) (sym found) free)
