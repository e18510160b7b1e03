-- Runs: events one after another, with their replies.
use Rattle.std.specs.Prelude.{◌≡◌, List, [], ◌∷◌, Result, Ok, Err}
use Rattle.std.specs.declared.alloc.AllocError.{AllocError}
use Rattle.cs_model.specs.Bytes.{AreBytes}
use Rattle.rb_core.specs.declared.event.Event.{Event}
use Rattle.rb_core.specs.declared.event.Event.TheVariants as event
use Rattle.rb_core.specs.declared.reply.Reply.{Reply}
use Rattle.rb_core.specs.Memory.{MayRunOut}
use Rattle.rb_core.specs.Outcome.{outcome}
use Rattle.std.specs.List.{AllByRecursion}
use Rattle.cs_model.specs.declared.shape.Shape.{Shape}
use Rattle.rb_desk.specs.IsPicture.{AreInRange}
use Rattle.rb_desk.specs.Limits.{Limits}
use Rattle.rb_core.specs.State.{State, empty_world}

-- what an event returns: a reply, or that memory ran out
abbrev pub Answer : Type 0
Answer = Result Reply AllocError

-- from `old`, the event returns this and leaves `new`; out of memory changes nothing
abbrev pub Stepped : State → Event → Answer → State → Type 0
Stepped old event (Ok given) new = outcome old event ≡ (given, new)
Stepped old event (Err e) new = new ≡ old

-- from `old`, these events return these answers, one after another, and leave `new`
abbrev pub Run : State → List Event → List Answer → State → Type 0
Run old [] [] new = new ≡ old
Run old [] (answer ∷ answers) new = ⊥
Run old (event ∷ events) [] new = ⊥
Run old (event ∷ events) (answer ∷ answers) new = (mid : State) × Stepped old event answer mid
    × Run mid events answers new

-- From `old`, memory runs out for these events only where it may.
abbrev pub RunsOutWhereItMay : State → List Event → List Answer → Type 0
RunsOutWhereItMay old [] answers = Unit {0}
RunsOutWhereItMay old (event ∷ events) [] = Unit {0}
RunsOutWhereItMay old (event ∷ events) (Ok given ∷ answers) =
    RunsOutWhereItMay (outcome old event).1 events answers
RunsOutWhereItMay old (event ∷ events) (Err e ∷ answers) =
    MayRunOut old event (outcome old event).0 × RunsOutWhereItMay old events answers

-- an event feeds bytes, if it feeds anything
abbrev pub FeedsBytes : Event → Type 0
FeedsBytes (event.Feed p bytes) = AreBytes bytes
FeedsBytes other = Unit {0}

-- A run from the start: from the empty world of this schema, these events return these answers and
-- leave `new`. The limits are in their ranges, and the events feed bytes.
pub record IsRunOf (limits : Limits) (schema : List Shape) (events : List Event)
    (answers : List Answer)
    (new : State) : Type 0 where
  pub ranges : AreInRange limits
  pub feeds : AllByRecursion FeedsBytes events
  pub run : Run (empty_world limits schema) events answers new

-- A run continues: from `mid`, more events return later answers and leave `new`. They feed bytes.
pub record RunsOn (mid : State) (more : List Event) (later : List Answer) (new : State) : Type 0
  where
    pub feeds : AllByRecursion FeedsBytes more
    pub run : Run mid more later new
