-- Placing a whole changeset in one call: Reset, Feed, End, Send and Turn, all of them or none.
use Rattle.std.specs.Prelude.{◌≡◌, ℕ, zero, suc, List, length, Option, Some, None, Result, Ok, Err}
use Rattle.std.specs.Prelude.{IsOk, IsSome, slice_get, slice_set, [], ◌∷◌, ◌++◌}
use Rattle.cs_model.specs.Section.{Section}
use Rattle.cs_parse.specs.declared.end.EndError.{EndError}
use Rattle.cs_parse.specs.Progress.{Progress, advanced, nothing}
use Rattle.rb_desk.specs.Calls.{place, prepare}
use Rattle.rb_desk.specs.Journaled.{answer_after}
use Rattle.rb_sequence.specs.Item.{Item}
use Rattle.rb_core.specs.declared.event.Event.{Event}
use Rattle.rb_core.specs.declared.event.Event.TheVariants as event
use Rattle.rb_core.specs.declared.placing.PlacingError.{PlacingError}
use Rattle.rb_core.specs.declared.placing.PlacingError.TheVariants as error
use Rattle.rb_core.specs.declared.placing.PlacingRefusal.{PlacingRefusal}
use Rattle.rb_core.specs.declared.placing.PlacingRefusal.TheVariants as why
use Rattle.rb_core.specs.declared.reply.Reply.{Reply}
use Rattle.rb_core.specs.declared.reply.Reply.TheVariants as reply
use Rattle.rb_core.specs.Outcome.{end_reply, outcome}
use Rattle.rb_core.specs.Run.{Answer}
use Rattle.rb_core.specs.State.{State, how_many_wait}

-- what a placing leaves: the number of the new entry or why there is none, and the world
abbrev pub PlacingEnd : Type 0
PlacingEnd = Result ℕ PlacingRefusal × State

-- why an event with this reply ends a placing; with any other reply the placing goes on
abbrev pub stop_of : Reply → Option PlacingRefusal
stop_of (reply.Fault fault) = Some (why.Fault fault)
stop_of (reply.Refused refusal) = Some (why.Refused refusal)
stop_of other = None

-- the rest from the world after the event, or the world `back` if the event ends it
abbrev pub unless_stopped : State → Option PlacingRefusal → State → (State → PlacingEnd)
    → PlacingEnd
unless_stopped back (Some refusal) mid rest = (Err refusal, back)
unless_stopped back None mid rest = rest mid

abbrev pub after_event : State → State → Event → (State → PlacingEnd) → PlacingEnd
after_event back old event rest =
    unless_stopped back (stop_of (outcome old event).0) (outcome old event).1 rest

-- the rest if nothing waits to be placed
abbrev pub when_none_waits : State → ℕ → PlacingEnd → PlacingEnd
when_none_waits back zero rest = rest
when_none_waits back (suc n) rest = (Err (why.Waiting (suc n)), back)

-- The publisher's stream is reset. If another changeset waits to be placed, that is all. Else the
-- text is fed, ended, sent and placed; where one of these is refused, the world is as after the
-- reset.
abbrev pub placing : State → ℕ → List ℕ → PlacingEnd
placing old p text =
    after_event old old (event.Reset p) (λ back. when_none_waits back (how_many_wait back)
    (after_event back back (event.Feed p text) (λ fed. after_event back fed (event.End p) (λ ended.
    after_event back ended (event.Send p) (λ sent. after_event back sent event.Turn (λ new.
    (Ok (length new.sequence), new)))))))

-- the events of a placing, and their answers where none is refused
abbrev pub placing_events : ℕ → List ℕ → List Event
placing_events p text = event.Reset p ∷ event.Feed p text ∷ event.End p ∷ event.Send p ∷ event.Turn
    ∷ []

abbrev pub placing_replies : ℕ → ℕ → List Answer
placing_replies own number = Ok reply.Reset ∷ Ok reply.Fed ∷ Ok reply.Staged ∷ Ok (reply.Sent own)
    ∷ Ok (reply.Placed number) ∷ []

-- Memory may run out where the publisher exists, nothing waits, and no fault shows in the text.
pub record MayStarve (old : State) (p : ℕ) (text : List ℕ) : Type 0 where
  pub there : IsSome (slice_get old.publishers p)
  pub none_waits : how_many_wait old ≡ 0
  pub fed : (advanced nothing text).fault ≡ None

-- the answer is the placing's, and so is the world after it; without memory nothing changes
abbrev pub AnswersPlacing : Result ℕ PlacingError → State → ℕ → List ℕ → State → Type 0
AnswersPlacing (Ok number) old p text new = placing old p text ≡ (Ok number, new)
AnswersPlacing (Err (error.Refused refusal)) old p text new =
    placing old p text ≡ (Err refusal, new)
AnswersPlacing (Err error.Memory) old p text new = (new ≡ old) × MayStarve old p text

-- ---- what a placing comes to

-- The world after a placing that isn't refused: the publisher's stream is empty, this is its last
-- sending, and the item is the last entry.
abbrev pub placed_with : State → ℕ → Item → State
placed_with old p item = record old {
  publishers = slice_set old.publishers p (record {
    stream = nothing;
    staged = None;
    sent = item.own;
  });
  sequence = old.sequence ++ record { number = suc (length old.sequence); item = item } ∷ [];
  desk = place old.desk;
  steps = suc old.steps;
}

-- the item that a placing places, or the error that it answers
abbrev pub PlacesItem : Result Item PlacingError → State → ℕ → List ℕ → Type 0
PlacesItem (Ok item) old p text =
    (placing old p text ≡ (Ok (suc (length old.sequence)), placed_with old p item))
    × IsOk (answer_after old.steps (prepare old.desk)) × MayStarve old p text
PlacesItem (Err (error.Refused refusal)) old p text =
    placing old p text ≡ (Err refusal, (outcome old (event.Reset p)).1)
PlacesItem (Err error.Memory) old p text = MayStarve old p text

-- a stream of its own has taken the text, which has this fault if it has one
abbrev pub FeedsWhole : Result Progress PlacingError → List ℕ → Type 0
FeedsWhole (Ok stream) text = ((advanced nothing text).fault ≡ None)
    × (stream ≡ advanced nothing text)
FeedsWhole (Err (error.Refused (why.Fault fault))) text =
    (advanced nothing text).fault ≡ Some fault
FeedsWhole (Err (error.Refused (why.Waiting n))) text = ⊥
FeedsWhole (Err (error.Refused (why.Refused refusal))) text = ⊥
FeedsWhole (Err error.Memory) text = (advanced nothing text).fault ≡ None

-- the changeset of an answer, or why it ends a placing
abbrev pub EndsWhole : Result (List Section) PlacingError → Result (List Section) EndError → Type 0
EndsWhole (Ok body) answer = answer ≡ Ok body
EndsWhole (Err (error.Refused refusal)) (Ok body) = ⊥
EndsWhole (Err (error.Refused refusal)) (Err end) = stop_of (end_reply end) ≡ Some refusal
EndsWhole (Err error.Memory) answer = ⊥
