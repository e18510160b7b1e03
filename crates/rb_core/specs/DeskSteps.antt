-- The steps that a world's desk made. The world counts them and doesn't keep them: the events and
-- their answers say which they were.
use Rattle.std.specs.Prelude.{List, [], ◌∷◌, Option, Some, None, Ok, Err, slice_get}
use Rattle.std.specs.Prelude.{if◌then◌else◌, ◌==◌}
use Rattle.std.specs.List.{cons_option}
use Rattle.std.specs.Option.{option_map}
use Rattle.rb_desk.specs.declared.delivery.Delivery.{Delivery}
use Rattle.rb_desk.specs.declared.step.Step.{Step}
use Rattle.rb_desk.specs.declared.step.Step.TheVariants as step
use Rattle.rb_core.specs.declared.event.Event.{Event}
use Rattle.rb_core.specs.declared.event.Event.TheVariants as event
use Rattle.rb_core.specs.Outcome.{delivery_of, outcome}
use Rattle.rb_core.specs.Run.{Answer}
use Rattle.rb_core.specs.State.{State}

-- an acknowledgement goes out with the cursor of the delivery's endpoint
abbrev pub ack_asked : State → Option Delivery → Option Step
ack_asked old None = None
ack_asked old (Some delivery) =
    option_map (λ end. step.Ack delivery.sub delivery.link delivery.number end.cursor)
    (slice_get old.endpoints delivery.sub)

-- The step that an event asks of the desk, with the link and the cursor of its endpoint. There is
-- none where there is no such delivery or endpoint, and for an event that isn't the desk's.
abbrev pub step_asked : State → Event → Option Step
step_asked old event.Publisher = None
step_asked old (event.Feed p bytes) = None
step_asked old (event.Reset p) = None
step_asked old (event.End p) = None
step_asked old (event.Send p) = None
step_asked old (event.Withdraw p n) = None
step_asked old event.Turn = Some step.Place
step_asked old event.Close = Some step.Close
step_asked old (event.Subscribe start) = Some (step.Subscribe start)
step_asked old (event.SubscribeBare start) = Some (step.Subscribe start)
step_asked old (event.Take s now) =
    option_map (λ end. step.Take s end.link end.cursor now) (slice_get old.endpoints s)
step_asked old (event.TakeAny now) = Some (step.TakeAny now)
step_asked old (event.Accept d) = None
step_asked old (event.Crash d kept) = None
step_asked old (event.Ack d) = ack_asked old (delivery_of old d)
step_asked old (event.Nack d) =
    option_map (λ delivery. step.Nack delivery.sub delivery.link delivery.number)
    (delivery_of old d)
step_asked old (event.NackOpened d) =
    option_map (λ delivery. step.NackOpened delivery.sub delivery.link delivery.number)
    (delivery_of old d)
step_asked old (event.Expire now) = Some (step.Expire now)
step_asked old (event.Reconnect s cursor) = Some (step.Reconnect s cursor)
step_asked old (event.Resume s) =
    option_map (λ end. step.Reconnect s end.cursor) (slice_get old.endpoints s)
step_asked old (event.Unsubscribe s) =
    option_map (λ end. step.Unsubscribe s end.link) (slice_get old.endpoints s)

-- The step that an event made: the one that it asks for, unless the world counts as many steps as
-- before.
abbrev pub step_made : State → Event → Option Step
step_made old event = if (outcome old event).1.steps == old.steps then None
    else step_asked old event

-- The steps that events with these answers made, in order. An event that ran out of memory made
-- none.
abbrev pub desk_steps : State → List Event → List Answer → List Step
desk_steps old [] answers = []
desk_steps old (event ∷ events) [] = []
desk_steps old (event ∷ events) (Ok given ∷ answers) =
    cons_option (step_made old event) (desk_steps (outcome old event).1 events answers)
desk_steps old (event ∷ events) (Err e ∷ answers) = desk_steps old events answers
