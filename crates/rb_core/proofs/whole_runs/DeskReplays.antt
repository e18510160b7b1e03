-- The steps that events make at the desk lead to the desk's picture, and the world counts them: for each event by the
-- cases of its outcome, and then for runs.
use Rattle.std.proofs.Common.{◌≡◌, ℕ, suc, ◌+◌, List, [], ◌∷◌, length, Option, Some, None, Result, Ok, Err, Bool, true}
use Rattle.std.proofs.Common.{false, cond, nat_le, slice_get, refl, sym, ap, subst, ◌∙◌, arith}
use Rattle.std.specs.Prelude.{if◌then◌else◌, not, ◌==◌, ⊤}
use Rattle.std.specs.List.{cons_option}
use Rattle.std.specs.Option.{option_map}
use Rattle.std.proofs.lemmas.Bool.{eq-eqb, eqb-true}
use Rattle.cs_model.specs.declared.shape.Shape.{Shape}
use Rattle.cs_model.specs.Section.{Section}
use Rattle.cs_parse.specs.declared.end.EndError.{EndError}
use Rattle.cs_parse.specs.End.{admitted_answer}
use Rattle.cs_parse.specs.Progress as stream
use Rattle.rb_desk.proofs.journals.KeepLaws.{call_after, close_again}
use Rattle.cs_apply.specs.State.{TableState}
use Rattle.rb_desk.specs.Calls as desk
use Rattle.rb_desk.specs.declared.delivery.Delivery.{Delivery}
use Rattle.rb_desk.specs.declared.refusal.DeskRefusal.{DeskRefusal}
use Rattle.rb_desk.specs.declared.step.Step.{Step}
use Rattle.rb_desk.specs.declared.step.Step.TheVariants as step
use Rattle.rb_desk.specs.Journaled.{answer_after, closing_steps}
use Rattle.rb_desk.specs.Limits.{Limits}
use Rattle.rb_desk.specs.Picture.{Picture}
use Rattle.rb_desk.specs.Steps.{after_step, placed_if, replayed, replay}
use Rattle.rb_sequence.specs.Entry.{Entry}
use Rattle.rb_sequence.specs.Item.{Item}
use Rattle.rb_subscriber.specs.Accept.{accept, crash}
use Rattle.rb_subscriber.specs.declared.refusal.AcceptRefusal.{AcceptRefusal}
use Rattle.rb_subscriber.specs.Endpoint.{Endpoint}
use Rattle.rb_core.specs.declared.event.Event.{Event}
use Rattle.rb_core.specs.declared.event.Event.TheVariants as event
use Rattle.rb_core.specs.declared.publisher.PublisherState.{PublisherState}
use Rattle.rb_core.specs.declared.publisher.Staged.{Staged}
use Rattle.rb_core.specs.declared.reply.Reply.{Reply}
use Rattle.rb_core.specs.DeskSteps.{ack_asked, step_asked, step_made, desk_steps}
use Rattle.rb_core.specs.Outcome.{outcome, delivery_of, entry_of}
use Rattle.rb_core.specs.Outcome as outcome
use Rattle.rb_core.specs.Run.{Answer, Run}
use Rattle.rb_core.specs.State.{State, bare_tables, empty_tables, empty_world, is_withdrawn}

-- ---- one step, or none

-- neither the desk nor its count changes
abbrev KeepsDesk : State → State → Type 0
KeepsDesk old new = (new.desk ≡ old.desk) × (new.steps ≡ old.steps)

-- the step that is asked for, if the world counts more steps
abbrev step_counted : State → State → Option Step → Option Step
step_counted old new asked = if new.steps == old.steps then None else asked

-- these steps lead from one desk to the other, and the world has counted them
abbrev LeadsBy : State → State → List Step → Type 0
LeadsBy old new steps = (new.desk ≡ replayed old.desk steps) × (new.steps ≡ old.steps + length steps)

-- the step that is asked for does so, or none if the world counts no more
abbrev MadeBy : State → Option Step → State → Type 0
MadeBy old asked new = LeadsBy old new (cons_option (step_counted old new asked) [])

-- the comparison of the counts is kept apart, with what is known of its answer
by_same : (old new : State) (asked : Option Step) (same : Bool) → same ≡ true → KeepsDesk old new
    → LeadsBy old new (cons_option (if same then None else asked) [])
by_same old new asked true is stays = (stays.0, omega (arith, stays.1))
by_same old new asked false is stays = absurd cc

by_other : (old new : State) (made : Step) (same : Bool) → (same ≡ true → ⊥) → new.desk ≡ after_step old.desk made
    → new.steps ≡ suc old.steps → LeadsBy old new (cons_option (if same then None else Some made) [])
by_other old new made true differ is counted = absurd (differ refl)
by_other old new made false differ is counted = (is, omega (arith, counted))

desk_stays : (old new : State) (asked : Option Step) → KeepsDesk old new → MadeBy old asked new
desk_stays old new asked stays =
    by_same old new asked (new.steps == old.steps) (eq-eqb new.steps old.steps stays.1) stays

makes_step : (old new : State) (made : Step) → new.desk ≡ after_step old.desk made → new.steps ≡ suc old.steps
    → MadeBy old (Some made) new
makes_step old new made is counted =
    by_other old new made (new.steps == old.steps)
    (λ same. let equal = eqb-true new.steps old.steps same in omega (arith, equal, counted)) is counted

-- one of two outcomes, whichever it is
either_replays : (old : State) (asked : Option Step) (b : Bool) (x y : Reply × State) → MadeBy old asked x.1
    → MadeBy old asked y.1 → MadeBy old asked (cond b x y).1
either_replays old asked true x y h k = h
either_replays old asked false x y h k = k

-- the desk doesn't change
unmoved : (old : State) (asked : Option Step) → MadeBy old asked old
unmoved old asked = desk_stays old old asked (refl, refl)

-- the step is made, and leaves this picture
step_to : (old : State) (made : Step) (picture : Picture) → picture ≡ after_step old.desk made
    → MadeBy old (Some made) (record old { desk = picture; steps = suc old.steps })
step_to old made picture is = makes_step old (record old { desk = picture; steps = suc old.steps }) made is refl

-- ---- publishers

publisher_replays : (old : State) → MadeBy old None (outcome.publisher_added old).1
publisher_replays old =
    either_replays old None (nat_le 64 (length old.publishers)) _ _ (unmoved old None) (unmoved old None)

feed_replays : (old : State) (p : ℕ) (bytes : List ℕ) (found : Option PublisherState)
    → MadeBy old None (outcome.fed_by old p bytes found).1
feed_replays old p bytes None = unmoved old None
feed_replays old p bytes (Some publisher) = unmoved old None

reset_replays : (old : State) (p : ℕ) (found : Option PublisherState) → MadeBy old None (outcome.reset_by old p found).1
reset_replays old p None = unmoved old None
reset_replays old p (Some publisher) = unmoved old None

staged_replays : (old : State) (p : ℕ) (publisher : PublisherState) (r : Result (List Section) EndError)
    → MadeBy old None (outcome.staged_by old p publisher r).1
staged_replays old p publisher (Ok changeset) = unmoved old None
staged_replays old p publisher (Err error) = unmoved old None

ended_by_replays : (old : State) (p : ℕ) (publisher : PublisherState) (kept : Option Staged)
    → MadeBy old None (outcome.ended_by old p publisher kept).1
ended_by_replays old p publisher None =
    staged_replays old p publisher (admitted_answer old.schema (stream.answer_at_end publisher.stream))
ended_by_replays old p publisher (Some staged) = unmoved old None

end_replays : (old : State) (p : ℕ) (found : Option PublisherState) → MadeBy old None (outcome.ended_for old p found).1
end_replays old p None = unmoved old None
end_replays old p (Some publisher) = ended_by_replays old p publisher publisher.staged

sent_while_replays : (old : State) (p : ℕ) (publisher : PublisherState) (staged : Staged) (closing : Option ℕ)
    → MadeBy old None (outcome.sent_while old p publisher staged closing).1
sent_while_replays old p publisher staged (Some last) = unmoved old None
sent_while_replays old p publisher staged None =
    either_replays old None (nat_le old.desk.limits.intake (length old.intake)) _ _ (unmoved old None)
    (unmoved old None)

sent_by_replays : (old : State) (p : ℕ) (publisher : PublisherState) (kept : Option Staged)
    → MadeBy old None (outcome.sent_by old p publisher kept).1
sent_by_replays old p publisher None = unmoved old None
sent_by_replays old p publisher (Some staged) = sent_while_replays old p publisher staged old.desk.closing

send_replays : (old : State) (p : ℕ) (found : Option PublisherState) → MadeBy old None (outcome.sent_for old p found).1
send_replays old p None = unmoved old None
send_replays old p (Some publisher) = sent_by_replays old p publisher publisher.staged

withdrawn_from_replays : (old : State) (p n : ℕ) (publisher : PublisherState) (found : Option Entry)
    → MadeBy old None (outcome.withdrawn_from old p publisher n found).1
withdrawn_from_replays old p n publisher None = unmoved old None
withdrawn_from_replays old p n publisher (Some entry) =
    either_replays old None (not (entry.item.publisher == p)) _ _ (unmoved old None)
    (either_replays old None (is_withdrawn old n) _ _ (unmoved old None) (unmoved old None))

withdrawn_by_replays : (old : State) (p n : ℕ) (publisher : PublisherState) (kept : Option Staged)
    → MadeBy old None (outcome.withdrawn_by old p publisher n kept).1
withdrawn_by_replays old p n publisher None = withdrawn_from_replays old p n publisher (entry_of old n)
withdrawn_by_replays old p n publisher (Some staged) = unmoved old None

withdraw_replays : (old : State) (p n : ℕ) (found : Option PublisherState)
    → MadeBy old None (outcome.withdrawn_for old p n found).1
withdraw_replays old p n None = unmoved old None
withdraw_replays old p n (Some publisher) = withdrawn_by_replays old p n publisher publisher.staged

-- ---- the sequence

prepared_step : (p : Picture) (number : ℕ) → desk.prepare p ≡ Ok number → desk.place p ≡ after_step p step.Place
unfolding after_step
prepared_step p number is = sym (ap (placed_if p) is)

placed_replays : (mid : State) (item : Item) (r : Result ℕ DeskRefusal)
    → ((number : ℕ) → r ≡ Ok number → desk.prepare mid.desk ≡ Ok number)
    → MadeBy mid (Some step.Place) (outcome.placed mid item r).1
placed_replays mid item (Ok number) is =
    step_to mid step.Place (desk.place mid.desk) (prepared_step mid.desk number (is number refl))
placed_replays mid item (Err why) is = unmoved mid (Some step.Place)

turned_replays : (mid : State) (hand : Option Item) → MadeBy mid (Some step.Place) (outcome.turned_with mid hand).1
turned_replays mid None = unmoved mid (Some step.Place)
turned_replays mid (Some item) =
    placed_replays mid item (answer_after mid.steps (desk.prepare mid.desk))
    (λ number is. ap (λ (r : Result ℕ DeskRefusal × Picture). r.0)
    (call_after mid.steps (desk.prepare mid.desk, mid.desk) number is))

-- only the first closing is a step
closed_replays : (old new : State) (closing : Option ℕ) → old.desk.closing ≡ closing
    → new.desk ≡ (desk.close old.desk).1 → new.steps ≡ old.steps + length (closing_steps closing)
    → MadeBy old (Some step.Close) new
unfolding after_step
closed_replays old new None is left counted = makes_step old new step.Close left (omega (arith, counted))
closed_replays old new (Some last) is left counted =
    desk_stays old new (Some step.Close) (
      left ∙ ap (λ (r : ℕ × Picture). r.1) (close_again old.desk last is),
      omega (arith, counted),
    )

-- ---- subscriptions

subscribed_replays : (old : State) (start : ℕ) (begun : TableState) (r : Result (ℕ × ℕ) DeskRefusal)
    → MadeBy old (Some (step.Subscribe start))
    (outcome.subscribed_by old start begun r (desk.subscribe old.desk start).1).1
unfolding after_step
subscribed_replays old start begun (Ok made) = step_to old (step.Subscribe start) _ refl
subscribed_replays old start begun (Err why) = unmoved old (Some (step.Subscribe start))

handed_replays : (old : State) (made : Step) (r : Result Delivery DeskRefusal) (new : Picture)
    → new ≡ after_step old.desk made → MadeBy old (Some made) (outcome.delivered_by old r new).1
handed_replays old made (Ok delivery) new is = step_to old made new is
handed_replays old made (Err why) new is = unmoved old (Some made)

taken_replays : (old : State) (s now : ℕ) (found : Option Endpoint)
    → MadeBy old (option_map (λ end. step.Take s end.link end.cursor now) found)
    (outcome.delivered_for old s now found).1
unfolding after_step
taken_replays old s now None = unmoved old None
taken_replays old s now (Some end) =
    let call = desk.take old.desk s end.link end.cursor now in
    handed_replays old (step.Take s end.link end.cursor now) (answer_after old.steps call.0) call.1 refl

taken_any_replays : (old : State) (now : ℕ) → MadeBy old (Some (step.TakeAny now)) (outcome.delivered_any old now).1
unfolding after_step
taken_any_replays old now =
    let call = desk.take_any old.desk now in
    handed_replays old (step.TakeAny now) (answer_after old.steps call.0) call.1 refl

-- ---- deliveries

accepted_by_replays : (old : State) (s : ℕ) (r : Result Endpoint AcceptRefusal)
    → MadeBy old None (outcome.accepted_by old s r).1
accepted_by_replays old s (Ok end) = unmoved old None
accepted_by_replays old s (Err why) = unmoved old None

accepted_at_replays : (old : State) (delivery : Delivery) (found : Option Endpoint)
    → MadeBy old None (outcome.accepted_at old delivery found).1
accepted_at_replays old delivery None = unmoved old None
accepted_at_replays old delivery (Some end) = accepted_by_replays old delivery.sub (accept end old.sequence delivery)

accept_replays : (old : State) (found : Option Delivery) → MadeBy old None (outcome.accepted_as old found).1
accept_replays old None = unmoved old None
accept_replays old (Some delivery) = accepted_at_replays old delivery (slice_get old.endpoints delivery.sub)

crashed_by_replays : (old : State) (s : ℕ) (r : Result Endpoint AcceptRefusal)
    → MadeBy old None (outcome.crashed_by old s r).1
crashed_by_replays old s (Ok end) = unmoved old None
crashed_by_replays old s (Err why) = unmoved old None

crashed_at_replays : (old : State) (delivery : Delivery) (kept : Bool) (found : Option Endpoint)
    → MadeBy old None (outcome.crashed_at old delivery kept found).1
crashed_at_replays old delivery kept None = unmoved old None
crashed_at_replays old delivery kept (Some end) =
    crashed_by_replays old delivery.sub (crash end old.sequence delivery kept)

crash_replays : (old : State) (kept : Bool) (found : Option Delivery)
    → MadeBy old None (outcome.crashed_for old kept found).1
crash_replays old kept None = unmoved old None
crash_replays old kept (Some delivery) = crashed_at_replays old delivery kept (slice_get old.endpoints delivery.sub)

-- a call of the desk that nothing else follows
by_desk_replays : {A : Type 0} (given : A → Reply) (old : State) (made : Step) (r : Result A DeskRefusal)
    (new : Picture) → new ≡ after_step old.desk made → MadeBy old (Some made) (outcome.by_desk given old r new).1
by_desk_replays given old made (Ok answer) new is = step_to old made new is
by_desk_replays given old made (Err why) new is = unmoved old (Some made)

acked_at_replays : (old : State) (delivery : Delivery) (found : Option Endpoint)
    → MadeBy old (option_map (λ end. step.Ack delivery.sub delivery.link delivery.number end.cursor) found)
    (outcome.acked_at old delivery found).1
unfolding after_step
acked_at_replays old delivery None = unmoved old None
acked_at_replays old delivery (Some end) =
    by_desk_replays _ old (step.Ack delivery.sub delivery.link delivery.number end.cursor) _ _ refl

ack_replays : (old : State) (found : Option Delivery) → MadeBy old (ack_asked old found) (outcome.acked_for old found).1
ack_replays old None = unmoved old None
ack_replays old (Some delivery) = acked_at_replays old delivery (slice_get old.endpoints delivery.sub)

nack_replays : (old : State) (found : Option Delivery)
    → MadeBy old (option_map (λ delivery. step.Nack delivery.sub delivery.link delivery.number) found)
    (outcome.nacked_for old found).1
unfolding after_step
nack_replays old None = unmoved old None
nack_replays old (Some delivery) =
    by_desk_replays _ old (step.Nack delivery.sub delivery.link delivery.number) _ _ refl

nack_opened_replays : (old : State) (found : Option Delivery)
    → MadeBy old (option_map (λ delivery. step.NackOpened delivery.sub delivery.link delivery.number) found)
    (outcome.opened_for old found).1
unfolding after_step
nack_opened_replays old None = unmoved old None
nack_opened_replays old (Some delivery) =
    by_desk_replays _ old (step.NackOpened delivery.sub delivery.link delivery.number) _ _ refl

expire_replays : (old : State) (now : ℕ) → MadeBy old (Some (step.Expire now)) (outcome.expired old now).1
unfolding after_step
expire_replays old now = by_desk_replays _ old (step.Expire now) _ _ refl

-- ---- links

reconnected_replays : (old : State) (s cursor : ℕ) (end : Endpoint) (r : Result ℕ DeskRefusal)
    → MadeBy old (Some (step.Reconnect s cursor))
    (outcome.reconnected_with old s end r (desk.reconnect old.desk s cursor).1).1
unfolding after_step
reconnected_replays old s cursor end (Ok link) = step_to old (step.Reconnect s cursor) _ refl
reconnected_replays old s cursor end (Err why) = unmoved old (Some (step.Reconnect s cursor))

reconnect_replays : (old : State) (s cursor : ℕ) (found : Option Endpoint)
    → MadeBy old (Some (step.Reconnect s cursor)) (outcome.reconnected_for old s cursor found).1
reconnect_replays old s cursor None = unmoved old (Some (step.Reconnect s cursor))
reconnect_replays old s cursor (Some end) =
    reconnected_replays old s cursor end (answer_after old.steps (desk.reconnect old.desk s cursor).0)

resumed_replays : (old : State) (s : ℕ) (end : Endpoint) (r : Result ℕ DeskRefusal)
    → MadeBy old (Some (step.Reconnect s end.cursor))
    (outcome.resumed_with old s end r (desk.reconnect old.desk s end.cursor).1).1
unfolding after_step
resumed_replays old s end (Ok link) = step_to old (step.Reconnect s end.cursor) _ refl
resumed_replays old s end (Err why) = unmoved old (Some (step.Reconnect s end.cursor))

resume_replays : (old : State) (s : ℕ) (found : Option Endpoint)
    → MadeBy old (option_map (λ end. step.Reconnect s end.cursor) found) (outcome.resumed_for old s found).1
resume_replays old s None = unmoved old None
resume_replays old s (Some end) =
    either_replays old (Some (step.Reconnect s end.cursor)) (not end.fallen) _ _
    (unmoved old (Some (step.Reconnect s end.cursor)))
    (resumed_replays old s end (answer_after old.steps (desk.reconnect old.desk s end.cursor).0))

unsubscribed_replays : (old : State) (s : ℕ) (end : Endpoint) (r : Result ⊤ DeskRefusal)
    → MadeBy old (Some (step.Unsubscribe s end.link))
    (outcome.unsubscribed_with old s end r (desk.unsubscribe old.desk s end.link).1).1
unfolding after_step
unsubscribed_replays old s end (Ok done) = step_to old (step.Unsubscribe s end.link) _ refl
unsubscribed_replays old s end (Err why) = unmoved old (Some (step.Unsubscribe s end.link))

unsubscribe_replays : (old : State) (s : ℕ) (found : Option Endpoint)
    → MadeBy old (option_map (λ end. step.Unsubscribe s end.link) found) (outcome.unsubscribed_for old s found).1
unsubscribe_replays old s None = unmoved old None
unsubscribe_replays old s (Some end) =
    unsubscribed_replays old s end (answer_after old.steps (desk.unsubscribe old.desk s end.link).0)

-- ---- all of these

event_replays : (old : State) (event : Event) → MadeBy old (step_asked old event) (outcome old event).1
unfolding outcome
event_replays old event.Publisher = publisher_replays old
event_replays old (event.Feed p bytes) = feed_replays old p bytes (slice_get old.publishers p)
event_replays old (event.Reset p) = reset_replays old p (slice_get old.publishers p)
event_replays old (event.End p) = end_replays old p (slice_get old.publishers p)
event_replays old (event.Send p) = send_replays old p (slice_get old.publishers p)
event_replays old (event.Withdraw p n) = withdraw_replays old p n (slice_get old.publishers p)
event_replays old event.Turn = turned_replays (outcome.pulled old) (outcome.pulled old).hand
event_replays old event.Close = closed_replays old (outcome.closed old).1 old.desk.closing refl refl refl
event_replays old (event.Subscribe start) =
    subscribed_replays old start (empty_tables old.schema)
    (answer_after old.steps (desk.subscribe old.desk start).0)
event_replays old (event.SubscribeBare start) =
    subscribed_replays old start (bare_tables old.schema)
    (answer_after old.steps (desk.subscribe old.desk start).0)
event_replays old (event.Take s now) = taken_replays old s now (slice_get old.endpoints s)
event_replays old (event.TakeAny now) = taken_any_replays old now
event_replays old (event.Accept d) = accept_replays old (delivery_of old d)
event_replays old (event.Crash d kept) = crash_replays old kept (delivery_of old d)
event_replays old (event.Ack d) = ack_replays old (delivery_of old d)
event_replays old (event.Nack d) = nack_replays old (delivery_of old d)
event_replays old (event.NackOpened d) = nack_opened_replays old (delivery_of old d)
event_replays old (event.Expire now) = expire_replays old now
event_replays old (event.Reconnect s cursor) = reconnect_replays old s cursor (slice_get old.endpoints s)
event_replays old (event.Resume s) = resume_replays old s (slice_get old.endpoints s)
event_replays old (event.Unsubscribe s) = unsubscribe_replays old s (slice_get old.endpoints s)

-- ---- runs

-- one step, or none, and then the others
leads_after : (old mid new : State) (made : Option Step) (steps : List Step) → LeadsBy old mid (cons_option made [])
    → LeadsBy mid new steps → LeadsBy old new (cons_option made steps)
leads_after old mid new None steps first others =
    (others.0 ∙ ap (λ (p : Picture). replayed p steps) first.0, omega (arith, first.1, others.1))
leads_after old mid new (Some made) steps first others =
    (others.0 ∙ ap (λ (p : Picture). replayed p steps) first.0, omega (arith, first.1, others.1))

pub run_leads : (old : State) (events : List Event) (answers : List Answer) (new : State)
    → Run old events answers new → LeadsBy old new (desk_steps old events answers)
run_leads old [] [] new run = (ap (λ (w : State). w.desk) run, omega (arith, ap (λ (w : State). w.steps) run))
run_leads old [] (answer ∷ answers) new run = absurd run
run_leads old (event ∷ events) [] new run = absurd run
run_leads old (event ∷ events) (Ok given ∷ answers) new run =
    let mid = (outcome old event).1 in
    let left : mid ≡ run.0 = ap (λ (x : Reply × State). x.1) run.1 in
    leads_after old mid new (step_made old event) (desk_steps mid events answers) (event_replays old event)
    (run_leads mid events answers new (subst (λ w. Run w events answers new) (sym left) run.2))
run_leads old (event ∷ events) (Err e ∷ answers) new run =
    run_leads old events answers new (subst (λ w. Run w events answers new) run.1 run.2)

pub desk_is_replay : (limits : Limits) (schema : List Shape) (events : List Event) (answers : List Answer)
    (new : State) → Run (empty_world limits schema) events answers new
    → new.desk ≡ replay limits (desk_steps (empty_world limits schema) events answers)
desk_is_replay limits schema events answers new run = (run_leads (empty_world limits schema) events answers new run).0

pub desk_steps_are_counted : (limits : Limits) (schema : List Shape) (events : List Event) (answers : List Answer)
    (new : State) → Run (empty_world limits schema) events answers new
    → new.steps ≡ length (desk_steps (empty_world limits schema) events answers)
desk_steps_are_counted limits schema events answers new run =
    let all = (run_leads (empty_world limits schema) events answers new run).1 in omega (arith, all)
