-- The parts of a placing: what is left to do from the world after each event.
use Rattle.std.proofs.Common.{◌≡◌, ℕ, List, Option, Some, Ok, Err, length, ap}
use Rattle.rb_core.specs.declared.event.Event.{Event}
use Rattle.rb_core.specs.declared.event.Event.TheVariants as event
use Rattle.rb_core.specs.declared.placing.PlacingRefusal.{PlacingRefusal}
use Rattle.rb_core.specs.declared.reply.Reply.{Reply}
use Rattle.rb_core.specs.Outcome.{outcome}
use Rattle.rb_core.specs.Placing.{PlacingEnd, after_event, unless_stopped, stop_of, when_none_waits}
use Rattle.rb_core.specs.State.{State, how_many_wait}

abbrev pub placed_last : State → PlacingEnd
placed_last new = (Ok (length new.sequence), new)

abbrev pub place_turns : State → State → PlacingEnd
place_turns back sent = after_event back sent event.Turn placed_last

abbrev pub place_sends : ℕ → State → State → PlacingEnd
place_sends p back ended = after_event back ended (event.Send p) (place_turns back)

abbrev pub place_ends : ℕ → State → State → PlacingEnd
place_ends p back fed = after_event back fed (event.End p) (place_sends p back)

abbrev pub place_feeds : ℕ → List ℕ → State → PlacingEnd
place_feeds p text back = after_event back back (event.Feed p text) (place_ends p back)

abbrev pub place_fills : ℕ → List ℕ → State → PlacingEnd
place_fills p text back = when_none_waits back (how_many_wait back) (place_feeds p text back)

-- an event with this reply ends the placing, or it goes on
pub place_goes_by : (back old : State) (event : Event) (rest : State → PlacingEnd) {given : Reply} {mid : State}
    → outcome old event ≡ (given, mid) → after_event back old event rest ≡ unless_stopped back (stop_of given) mid rest
place_goes_by back old event rest is = ap (λ (x : Reply × State). unless_stopped back (stop_of x.0) x.1 rest) is

pub place_stops_by : (back old : State) (event : Event) (rest : State → PlacingEnd) {refusal : PlacingRefusal}
    → stop_of (outcome old event).0 ≡ Some refusal → after_event back old event rest ≡ (Err refusal, back)
place_stops_by back old event rest is = ap (λ (s : Option PlacingRefusal). unless_stopped back s (outcome old event).1 rest) is
