-- A placing that isn't refused is the run of its events.
use Rattle.std.proofs.Common.{◌≡◌, ℕ, zero, suc, ◌+◌, Bool, true, false, cond, List, [], ◌∷◌, ◌++◌}
use Rattle.std.proofs.Common.{Option, Some, None, Ok, Err, length, nat_le, refl, ap, sym, subst, ◌∙◌}
use Rattle.std.specs.Prelude.{Result, slice_get}
use Rattle.cs_model.specs.Section.{Section}
use Rattle.cs_parse.specs.declared.end.EndError.{EndError}
use Rattle.cs_parse.specs.declared.end.EndError.TheVariants as end_error
use Rattle.cs_parse.specs.declared.fault.ParseFault.{ParseFault}
use Rattle.cs_parse.specs.End.{admitted_answer}
use Rattle.cs_parse.specs.Progress.{advanced, answer_at_end}
use Rattle.rb_desk.specs.Calls.{prepare}
use Rattle.rb_desk.specs.declared.refusal.DeskRefusal.{DeskRefusal}
use Rattle.rb_desk.specs.Journaled.{answer_after}
use Rattle.rb_sequence.specs.Item.{Item}
use Rattle.rb_core.specs.declared.event.Event.{Event}
use Rattle.rb_core.specs.declared.event.Event.TheVariants as event
use Rattle.rb_core.specs.declared.placing.PlacingRefusal.{PlacingRefusal}
use Rattle.rb_core.specs.declared.publisher.PublisherState.{PublisherState}
use Rattle.rb_core.specs.declared.publisher.Staged.{Staged}
use Rattle.rb_core.specs.declared.reply.BrokerRefusal.TheVariants as refusal
use Rattle.rb_core.specs.declared.reply.Reply.{Reply}
use Rattle.rb_core.specs.declared.reply.Reply.TheVariants as reply
use Rattle.rb_core.specs.Outcome.{ended_by, ended_for, fed_by, fed_reply, hand_of, outcome, placed, pulled}
use Rattle.rb_core.specs.Outcome.{refused, reset_by, sent_by, sent_for, sent_item, sent_while, staged_by, turned_with}
use Rattle.rb_core.specs.Placing.{PlacingEnd, after_event, unless_stopped, placing_replies, placing_events, placing, stop_of}
use Rattle.rb_core.specs.Placing.{when_none_waits}
use Rattle.rb_core.specs.Run.{Answer, Run}
use Rattle.rb_core.specs.State.{IsWorld, State, how_many_wait}
use Rattle.rb_core.proofs.whole_placings.PlaceSteps.{place_ends, place_feeds, place_fills, place_sends, place_turns}
use Rattle.rb_core.proofs.whole_placings.PlaceSteps.{placed_last}
use Rattle.rb_core.proofs.whole_placings.Placed.{number_is_next, sequence_longer}
use Rattle.rb_core.proofs.whole_runs.RunLaws.{KeepsWorlds}

-- ---- the placing went on

-- The placing went on after the event, with its rest.
record WentOn (old : State) (event : Event) (rest : State → PlacingEnd) (call : PlacingEnd) : Type 0 where
  pub goes : stop_of (outcome old event).0 ≡ None
  pub more : rest (outcome old event).1 ≡ call

-- an Err isn't an Ok
err_is_not_ok : {refusal : PlacingRefusal} {n : ℕ} {back new : State}
    → ◌≡◌ {A = PlacingEnd} (Err refusal, back) (Ok n, new) → ⊥
err_is_not_ok {refusal} {n} is = let e : Err refusal ≡ Ok n = ap (λ (x : PlacingEnd). x.0) is in cc

went_by : (back : State) (stop : Option PlacingRefusal) (mid : State) (rest : State → PlacingEnd) (n : ℕ) (new : State)
    → unless_stopped back stop mid rest ≡ (Ok n, new) → (stop ≡ None) × (rest mid ≡ (Ok n, new))
went_by back (Some refusal) mid rest n new is = absurd (err_is_not_ok is)
went_by back None mid rest n new is = (refl, is)

went_on : (back old : State) (event : Event) (rest : State → PlacingEnd) (n : ℕ) (new : State)
    → after_event back old event rest ≡ (Ok n, new) → WentOn old event rest (Ok n, new)
went_on back old event rest n new is =
    let went = went_by back (stop_of (outcome old event).0) (outcome old event).1 rest n new is in
    record { goes = went.0; more = went.1 }

went_without : (back : State) (waiting : ℕ) (rest : PlacingEnd) (n : ℕ) (new : State)
    → when_none_waits back waiting rest ≡ (Ok n, new) → rest ≡ (Ok n, new)
went_without back zero rest n new is = is
went_without back (suc waiting) rest n new is = absurd (err_is_not_ok is)

-- ---- what each event replied

reset_replies : (old : State) (p : ℕ) (found : Option PublisherState) → stop_of (reset_by old p found).0 ≡ None
    → (reset_by old p found).0 ≡ reply.Reset
reset_replies old p None goes = absurd cc
reset_replies old p (Some q) goes = refl

feed_replies_by : (fault : Option ParseFault) → stop_of (fed_reply fault) ≡ None → fed_reply fault ≡ reply.Fed
feed_replies_by None goes = refl
feed_replies_by (Some fault) goes = absurd cc

feed_replies : (old : State) (p : ℕ) (text : List ℕ) (found : Option PublisherState)
    → stop_of (fed_by old p text found).0 ≡ None → (fed_by old p text found).0 ≡ reply.Fed
feed_replies old p text None goes = absurd cc
feed_replies old p text (Some q) goes = feed_replies_by (advanced q.stream text).fault goes

staged_replies : (old : State) (p : ℕ) (q : PublisherState) (answer : Result (List Section) EndError)
    → stop_of (staged_by old p q answer).0 ≡ None → (staged_by old p q answer).0 ≡ reply.Staged
staged_replies old p q (Ok body) goes = refl
staged_replies old p q (Err (end_error.Fault fault)) goes = absurd cc
staged_replies old p q (Err (end_error.Refused fault)) goes = absurd cc

ended_replies : (old : State) (p : ℕ) (q : PublisherState) (staged : Option Staged)
    → stop_of (ended_by old p q staged).0 ≡ None → (ended_by old p q staged).0 ≡ reply.Staged
ended_replies old p q None goes =
    staged_replies old p q (admitted_answer old.schema (answer_at_end q.stream)) goes
ended_replies old p q (Some staged) goes = absurd cc

end_replies : (old : State) (p : ℕ) (found : Option PublisherState) → stop_of (ended_for old p found).0 ≡ None
    → (ended_for old p found).0 ≡ reply.Staged
end_replies old p None goes = absurd cc
end_replies old p (Some q) goes = ended_replies old p q q.staged goes

-- A sending has its number, and its item is the last of the intake.
record SendsOwn (old : State) (call : Reply × State) : Type 0 where
  pub own : ℕ
  pub replies : call.0 ≡ reply.Sent own
  pub item : Item
  pub last : call.1.intake ≡ old.intake ++ item ∷ []

unless_full : (old : State) (p : ℕ) (q : PublisherState) (staged : Staged) (full : Bool)
    → stop_of (cond full (refused old refusal.Full) (sent_item old p q staged)).0 ≡ None
    → SendsOwn old (cond full (refused old refusal.Full) (sent_item old p q staged))
unless_full old p q staged true goes = absurd cc
unless_full old p q staged false goes =
    let item : Item =
    record { publisher = p; own = q.sent + 1; origin = staged.origin; body = staged.body } in
    record { own = q.sent + 1; replies = refl; item = item; last = refl }

while_sends : (old : State) (p : ℕ) (q : PublisherState) (staged : Staged) (closing : Option ℕ)
    → stop_of (sent_while old p q staged closing).0 ≡ None → SendsOwn old (sent_while old p q staged closing)
while_sends old p q staged (Some last) goes = absurd cc
while_sends old p q staged None goes =
    unless_full old p q staged (nat_le old.desk.limits.intake (length old.intake)) goes

by_sends : (old : State) (p : ℕ) (q : PublisherState) (staged : Option Staged)
    → stop_of (sent_by old p q staged).0 ≡ None → SendsOwn old (sent_by old p q staged)
by_sends old p q None goes = absurd cc
by_sends old p q (Some staged) goes = while_sends old p q staged old.desk.closing goes

send_replies : (old : State) (p : ℕ) (found : Option PublisherState) → stop_of (sent_for old p found).0 ≡ None
    → SendsOwn old (sent_for old p found)
send_replies old p None goes = absurd cc
send_replies old p (Some q) goes = by_sends old p q q.staged goes

-- where something waits, a turn has an item
has_item : (hand : Option Item) (items : List Item) (last : Item)
    → (item : Item) × (hand_of hand (items ++ last ∷ []) ≡ Some item)
has_item (Some item) items last = (item, refl)
has_item None [] last = (last, refl)
has_item None (item ∷ items) last = (item, refl)

-- and places it under the next number
place_replies : (mid : State) (item : Item) (answer : Result ℕ DeskRefusal)
    → ((n : ℕ) → answer ≡ Ok n → n ≡ suc (length mid.sequence)) → stop_of (placed mid item answer).0 ≡ None
    → (placed mid item answer).0 ≡ reply.Placed (length (placed mid item answer).1.sequence)
place_replies mid item (Ok n) next goes =
    ap reply.Placed (next n refl ∙ sym (sequence_longer mid.sequence (record { number = n; item = item })))
place_replies mid item (Err reason) next goes = absurd cc

abbrev SaysLast : Reply × State → Type 0
SaysLast call = stop_of call.0 ≡ None → call.0 ≡ reply.Placed (length call.1.sequence)

turn_replies : (old : State) (items : List Item) (last : Item) → IsWorld old → old.intake ≡ items ++ last ∷ []
    → SaysLast (outcome old event.Turn)
unfolding outcome
turn_replies old items last good waits =
    let has = has_item old.hand items last in
    let hand : (pulled old).hand ≡ Some has.0 = ap (λ xs. hand_of old.hand xs) waits ∙ has.1 in
    subst (λ o. SaysLast (turned_with (pulled old) o)) (sym hand)
    (place_replies (pulled old) has.0 (answer_after old.steps (prepare old.desk))
    (λ n is. number_is_next old n good is))

-- ---- the run

-- what each event that went on replied
reset_went : (old : State) (p : ℕ) → stop_of (outcome old (event.Reset p)).0 ≡ None
    → (outcome old (event.Reset p)).0 ≡ reply.Reset
unfolding outcome
reset_went old p goes = reset_replies old p (slice_get old.publishers p) goes

feed_went : (old : State) (p : ℕ) (text : List ℕ) → stop_of (outcome old (event.Feed p text)).0 ≡ None
    → (outcome old (event.Feed p text)).0 ≡ reply.Fed
unfolding outcome
feed_went old p text goes = feed_replies old p text (slice_get old.publishers p) goes

end_went : (old : State) (p : ℕ) → stop_of (outcome old (event.End p)).0 ≡ None
    → (outcome old (event.End p)).0 ≡ reply.Staged
unfolding outcome
end_went old p goes = end_replies old p (slice_get old.publishers p) goes

send_went : (old : State) (p : ℕ) → stop_of (outcome old (event.Send p)).0 ≡ None
    → SendsOwn old (outcome old (event.Send p))
unfolding outcome
send_went old p goes = send_replies old p (slice_get old.publishers p) goes

-- an event before a run
event_then_run : (old new : State) (event : Event) (given : Reply) (events : List Event) (answers : List Answer)
    → (outcome old event).0 ≡ given → Run (outcome old event).1 events answers new
    → Run old (event ∷ events) (Ok given ∷ answers) new
event_then_run old new event given events answers is run =
    ((outcome old event).1, ap (λ (r : Reply). (r, (outcome old event).1)) is, run)

abbrev RunsAs : State → ℕ → List ℕ → ℕ → State → Type 0
RunsAs old p text number new = (own : ℕ) × Run old (placing_events p text) (placing_replies own number) new

world_after : KeepsWorlds → (old : State) (event : Event) → IsWorld old → IsWorld (outcome old event).1
world_after keeps old event good = keeps old event (outcome old event).0 (outcome old event).1 good refl

-- the turn at the end
turn_runs : (back old : State) (items : List Item) (last : Item) (number : ℕ) (new : State) → IsWorld old
    → old.intake ≡ items ++ last ∷ [] → place_turns back old ≡ (Ok number, new)
    → Run old (event.Turn ∷ []) (Ok (reply.Placed number) ∷ []) new
turn_runs back old items last number new good waits is =
    let went = went_on back old event.Turn placed_last number new is in
    let same : length (outcome old event.Turn).1.sequence ≡ number =
    (let e : Ok (length (outcome old event.Turn).1.sequence) ≡ Ok number = ap (λ (x : PlacingEnd). x.0) went.more in cc) in
    event_then_run old new event.Turn (reply.Placed number) [] []
    (turn_replies old items last good waits went.goes ∙ ap reply.Placed same)
    (sym (ap (λ (x : PlacingEnd). x.1) went.more))

-- The sending and the turn are a run.
record SendRuns (old : State) (p number : ℕ) (new : State) : Type 0 where
  pub own : ℕ
  pub run : Run old (event.Send p ∷ event.Turn ∷ []) (Ok (reply.Sent own) ∷ Ok (reply.Placed number) ∷ []) new

send_runs : KeepsWorlds → (back old : State) (p number : ℕ) (new : State) → IsWorld old
    → place_sends p back old ≡ (Ok number, new) → SendRuns old p number new
send_runs keeps back old p number new good is =
    let went = went_on back old (event.Send p) (place_turns back) number new is in
    let sent = send_went old p went.goes in
    record {
      own = sent.own;
      run = event_then_run old new (event.Send p) (reply.Sent sent.own) (event.Turn ∷ [])
          (Ok (reply.Placed number) ∷ []) sent.replies
          (turn_runs back (outcome old (event.Send p)).1 old.intake sent.item number new
          (world_after keeps old (event.Send p) good) sent.last went.more);
    }

pub placing_runs : KeepsWorlds → (old : State) (p : ℕ) (text : List ℕ) (number : ℕ) (new : State) → IsWorld old
    → placing old p text ≡ (Ok number, new) → RunsAs old p text number new
placing_runs keeps old p text number new good is =
    let went = went_on old old (event.Reset p) (place_fills p text) number new is in
    let back = (outcome old (event.Reset p)).1 in
    let good_back = world_after keeps old (event.Reset p) good in
    let feeding = went_without back (how_many_wait back) (place_feeds p text back) number new went.more in
    let went_fed = went_on back back (event.Feed p text) (place_ends p back) number new feeding in
    let fed = (outcome back (event.Feed p text)).1 in
    let good_fed = world_after keeps back (event.Feed p text) good_back in
    let went_ended = went_on back fed (event.End p) (place_sends p back) number new went_fed.more in
    let ended = (outcome fed (event.End p)).1 in
    let good_ended = world_after keeps fed (event.End p) good_fed in
    let sent = send_runs keeps back ended p number new good_ended went_ended.more in
    let last : List Event = event.Send p ∷ event.Turn ∷ [] in
    let answers : List Answer = Ok (reply.Sent sent.own) ∷ Ok (reply.Placed number) ∷ [] in (
      sent.own,
      event_then_run old new (event.Reset p) reply.Reset (event.Feed p text ∷ event.End p ∷ last)
          (Ok reply.Fed ∷ Ok reply.Staged ∷ answers) (reset_went old p went.goes)
          (event_then_run back new (event.Feed p text) reply.Fed (event.End p ∷ last) (Ok reply.Staged ∷ answers)
          (feed_went back p text went_fed.goes)
          (event_then_run fed new (event.End p) reply.Staged last answers (end_went fed p went_ended.goes) sent.run)),
    )
