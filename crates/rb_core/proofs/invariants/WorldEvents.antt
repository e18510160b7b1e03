-- Each event preserves the invariant of a world, by the cases of its outcome.
use Rattle.std.proofs.Common.{◌≡◌, ℕ, List, [], ◌∷◌, ◌++◌, Option, Some, None, Result, Ok}
use Rattle.std.proofs.Common.{Err, suc, length, nat_le, ◌≤◌, ◌+◌, slice_get, slice_set, refl, sym, ap, subst, ◌∙◌, arith}
use Rattle.std.specs.Prelude.{IfSome, not, ◌==◌, ◌-◌}
use Rattle.std.specs.List.{AllByRecursion}
use Rattle.std.proofs.lemmas.Bool.{leb-false}
use Rattle.std.proofs.lemmas.List.{length-append, length-set, map_push}
use Rattle.cs_apply.specs.State.{TableState}
use Rattle.cs_invert.specs.Inverse.{withdrawal_of}
use Rattle.cs_model.proofs.CallerLemmas.{all_push}
use Rattle.cs_model.specs.declared.schema.SectionFault.{SectionFault}
use Rattle.cs_model.specs.declared.shape.Shape.{Shape}
use Rattle.cs_model.specs.Schema.{refusal_of}
use Rattle.cs_model.specs.Section.{Section}
use Rattle.cs_parse.specs.declared.end.EndError.{EndError}
use Rattle.cs_parse.specs.declared.fault.ParseFault.{ParseFault}
use Rattle.cs_parse.specs.End.{admitted, admitted_answer}
use Rattle.cs_parse.specs.Progress as stream
use Rattle.rb_desk.specs.Calls as desk
use Rattle.rb_desk.specs.declared.delivery.Delivery.{Delivery}
use Rattle.rb_desk.specs.declared.refusal.DeskRefusal.{DeskRefusal}
use Rattle.rb_desk.specs.declared.step.Step.TheVariants as step
use Rattle.rb_desk.specs.Outline.{Member, Outline, outline_of}
use Rattle.rb_desk.specs.Outline as outline
use Rattle.rb_desk.specs.Picture.{Picture}
use Rattle.rb_desk.specs.Steps.{after_step}
use Rattle.rb_sequence.specs.Item.{Item}
use Rattle.rb_sequence.specs.Entry.{Entry}
use Rattle.rb_subscriber.specs.Accept.{IsAdmitted}
use Rattle.rb_subscriber.specs.Endpoint.{Endpoint, new_endpoint}
use Rattle.rb_core.specs.declared.event.Event.{Event}
use Rattle.rb_core.specs.declared.event.Event.TheVariants as event
use Rattle.rb_core.specs.declared.publisher.PublisherState.{PublisherState}
use Rattle.rb_core.specs.declared.publisher.Staged.{Staged}
use Rattle.rb_core.specs.Outcome.{fed_by, reset_by, staged_by, ended_by, ended_for, sent_while, sent_by, sent_for}
use Rattle.rb_core.specs.Outcome.{turned_with, subscribed_by, delivered_for, delivery_of, outcome, entry_of}
use Rattle.rb_core.specs.Outcome.{withdrawn_from, withdrawn_by, withdrawn_for}
use Rattle.rb_core.specs.Outcome as outcome
use Rattle.rb_core.specs.State.{State, bare_tables, empty_tables, member_of_end, is_withdrawn}
use Rattle.rb_core.specs.State.{AdmitsBody, AdmitsStaged, IsWorld}
use Rattle.rb_core.proofs.invariants.DeskLaws.{KeepsLimits, KeepsPictures, DeskShows, place_keeps}
use Rattle.rb_core.proofs.invariants.WorldDeliveries.{AcceptsBySteps, world_events_unless, accepted_as_keeps, crashed_for_keeps}
use Rattle.rb_core.proofs.invariants.WorldDeliveries.{acked_keeps, nacked_keeps, opened_keeps, world_events_expired_keeps}
use Rattle.rb_core.proofs.invariants.WorldDeliveries.{world_events_reconnected_keeps, resumed_keeps}
use Rattle.rb_core.proofs.invariants.WorldDeliveries.{world_events_unsubscribed_keeps}
use Rattle.rb_core.proofs.invariants.Worlds.{apart, worlds_changed, handed_over, placed_next}
use Rattle.rb_core.proofs.invariants.Worlds.{marks_changed, any_steps}
use Rattle.rb_desk.proofs.journals.KeepLaws.{call_after}
use Rattle.rb_desk.specs.Journaled.{answer_after, closing_steps}
use Rattle.rb_core.proofs.invariants.Marks.{marks_within}
use Rattle.rb_core.proofs.headline.Moving.{all_get, all_set}
use Rattle.rb_core.proofs.invariants.Numbers.{found_within}
use Rattle.rb_core.proofs.whole_runs.Pairs.{all_find}

-- one publisher becomes another, which staged what the schema admits
publisher_set : (old : State) (p : ℕ) (publisher : PublisherState) → IsWorld old → AdmitsStaged old.schema publisher
    → IsWorld (outcome.with_publisher old p publisher)
publisher_set old p publisher good admits =
    apart old (slice_set old.publishers p publisher) old.intake old.hand old.withdrawn old.steps good
    (omega (arith, good.few, length-set old.publishers p publisher)) good.waiting good.marks
    (record {
      staged = all_set (AdmitsStaged old.schema) old.publishers p publisher good.admitted.staged admits;
      intake = good.admitted.intake;
      hand = good.admitted.hand;
      sequence = good.admitted.sequence;
    })

-- what a publisher of the world staged is admitted
staged_admitted : (old : State) (p : ℕ) (publisher : PublisherState) → IsWorld old → slice_get old.publishers p
    ≡ Some publisher → AdmitsStaged old.schema publisher
staged_admitted old p publisher good is =
    all_get (AdmitsStaged old.schema) old.publishers p publisher good.admitted.staged is

-- ---- publishers

publisher_keeps : (old : State) → IsWorld old → IsWorld (outcome.publisher_added old).1
publisher_keeps old good =
    let new : PublisherState = record { stream = stream.nothing; staged = None; sent = 0 } in
    world_events_unless (nat_le 64 (length old.publishers)) _ _ good
    (λ room. apart old (old.publishers ++ new ∷ []) old.intake old.hand old.withdrawn old.steps good
    (omega (arith, leb-false _ _ room, length-append old.publishers (new ∷ []))) good.waiting good.marks
    (record {
      staged = all_push (AdmitsStaged old.schema) old.publishers new good.admitted.staged tt;
      intake = good.admitted.intake;
      hand = good.admitted.hand;
      sequence = good.admitted.sequence;
    }))

feed_keeps : (old : State) (p : ℕ) (bytes : List ℕ) (found : Option PublisherState) → slice_get old.publishers p ≡ found
    → IsWorld old → IsWorld (fed_by old p bytes found).1
feed_keeps old p bytes None is good = good
feed_keeps old p bytes (Some publisher) is good =
    publisher_set old p (record publisher { stream = stream.advanced publisher.stream bytes }) good
    (staged_admitted old p publisher good is)

reset_keeps : (old : State) (p : ℕ) (found : Option PublisherState) → slice_get old.publishers p ≡ found → IsWorld old
    → IsWorld (reset_by old p found).1
reset_keeps old p None is good = good
reset_keeps old p (Some publisher) is good =
    publisher_set old p (record publisher { stream = stream.nothing }) good (staged_admitted old p publisher good is)

-- a stream's end is admitted, or refused
admitted_end : (schema : List Shape) (found : List Section) (fault : Option SectionFault) (changeset : List Section)
    → refusal_of schema found ≡ fault → admitted found fault ≡ Ok changeset → AdmitsBody schema changeset
admitted_end schema found None changeset is e =
    let same : found ≡ changeset = cc e in
    subst (AdmitsBody schema) same is
admitted_end schema found (Some fault) changeset is e = absurd cc

ends_admitted : (schema : List Shape) (answer : Result (List Section) ParseFault) (changeset : List Section)
    → admitted_answer schema answer ≡ Ok changeset → AdmitsBody schema changeset
ends_admitted schema (Ok found) changeset e = admitted_end schema found (refusal_of schema found) changeset refl e
ends_admitted schema (Err fault) changeset e = absurd cc

staged_keeps : (old : State) (p : ℕ) (publisher : PublisherState) (r : Result (List Section) EndError)
    → ((changeset : List Section) → r ≡ Ok changeset → AdmitsBody old.schema changeset) → IsWorld old
    → IsWorld (staged_by old p publisher r).1
staged_keeps old p publisher (Ok changeset) admits good = publisher_set old p _ good (admits changeset refl)
staged_keeps old p publisher (Err error) admits good = good

ended_by_keeps : (old : State) (p : ℕ) (publisher : PublisherState) (kept : Option Staged) → IsWorld old
    → IsWorld (ended_by old p publisher kept).1
ended_by_keeps old p publisher None good =
    staged_keeps old p publisher (admitted_answer old.schema (stream.answer_at_end publisher.stream))
    (ends_admitted old.schema (stream.answer_at_end publisher.stream)) good
ended_by_keeps old p publisher (Some staged) good = good

end_keeps : (old : State) (p : ℕ) (found : Option PublisherState) → IsWorld old → IsWorld (ended_for old p found).1
end_keeps old p None good = good
end_keeps old p (Some publisher) good = ended_by_keeps old p publisher publisher.staged good

sent_while_keeps : (old : State) (p : ℕ) (publisher : PublisherState) (staged : Staged) (closing : Option ℕ)
    → AdmitsBody old.schema staged.body → IsWorld old → IsWorld (sent_while old p publisher staged closing).1
sent_while_keeps old p publisher staged (Some last) admits good = good
sent_while_keeps old p publisher staged None admits good =
    let left : PublisherState = record publisher { staged = None; sent = publisher.sent + 1 } in
    let item : Item =
    record { publisher = p; own = publisher.sent + 1; origin = staged.origin; body = staged.body } in
    world_events_unless (nat_le old.desk.limits.intake (length old.intake)) _ _ good
    (λ room. apart old (slice_set old.publishers p left) (old.intake ++ item ∷ []) old.hand old.withdrawn old.steps good
    (omega (arith, good.few, length-set old.publishers p left))
    (omega (arith, leb-false _ _ room, length-append old.intake (item ∷ []))) good.marks
    (record {
      staged = all_set (AdmitsStaged old.schema) old.publishers p left good.admitted.staged tt;
      intake = all_push (λ (i : Item). AdmitsBody old.schema i.body) old.intake item good.admitted.intake admits;
      hand = good.admitted.hand;
      sequence = good.admitted.sequence;
    }))

sent_by_keeps : (old : State) (p : ℕ) (publisher : PublisherState) (kept : Option Staged)
    → IfSome kept (λ staged. AdmitsBody old.schema staged.body) → IsWorld old
    → IsWorld (sent_by old p publisher kept).1
sent_by_keeps old p publisher None admits good = good
sent_by_keeps old p publisher (Some staged) admits good =
    sent_while_keeps old p publisher staged old.desk.closing admits good

send_keeps : (old : State) (p : ℕ) (found : Option PublisherState) → slice_get old.publishers p ≡ found → IsWorld old
    → IsWorld (sent_for old p found).1
send_keeps old p None is good = good
send_keeps old p (Some publisher) is good =
    sent_by_keeps old p publisher publisher.staged (staged_admitted old p publisher good is) good

-- a schema admits the withdrawal of what it admits
abbrev pub WithdrawalsAdmitted : Type 0
WithdrawalsAdmitted = (tables : List Shape) (sections : List Section) → refusal_of tables sections ≡ None
    → refusal_of tables (withdrawal_of sections) ≡ None

withdraw_from_keeps : WithdrawalsAdmitted → (old : State) (p n : ℕ) (publisher : PublisherState) (found : Option Entry)
    → entry_of old n ≡ found → IsWorld old → IsWorld (withdrawn_from old p publisher n found).1
withdraw_from_keeps law old p n publisher None is good = good
withdraw_from_keeps law old p n publisher (Some entry) is good =
    let within = found_within (λ (e : Entry). e.number) n old.sequence entry good.entries is in
    world_events_unless (not (entry.item.publisher == p)) _ _ good
    (λ mine. world_events_unless (is_withdrawn old n) _ _ good
    (λ fresh. marks_changed _ _ (publisher_set old p _ good (law old.schema entry.item.body
    (all_find (IsAdmitted old.schema) (λ (e : Entry). e.number == n) old.sequence entry good.admitted.sequence is)))
    (marks_within (n - 1) old.withdrawn (length old.sequence) within good.marks)))

withdraw_by_keeps : WithdrawalsAdmitted → (old : State) (p n : ℕ) (publisher : PublisherState) (kept : Option Staged)
    → IsWorld old → IsWorld (withdrawn_by old p publisher n kept).1
withdraw_by_keeps law old p n publisher None good =
    withdraw_from_keeps law old p n publisher (entry_of old n) refl good
withdraw_by_keeps law old p n publisher (Some staged) good = good

withdraw_keeps : WithdrawalsAdmitted → (old : State) (p n : ℕ) (found : Option PublisherState) → IsWorld old
    → IsWorld (withdrawn_for old p n found).1
withdraw_keeps law old p n None good = good
withdraw_keeps law old p n (Some publisher) good = withdraw_by_keeps law old p n publisher publisher.staged good

-- ---- the sequence

placed_keeps : KeepsPictures → DeskShows → (mid : State) (item : Item) (r : Result ℕ DeskRefusal)
    → ((number : ℕ) → r ≡ Ok number → desk.prepare mid.desk ≡ Ok number) → AdmitsBody mid.schema item.body → IsWorld mid
    → IsWorld (outcome.placed mid item r).1
placed_keeps keeps shows mid item (Ok number) is admits good =
    let ready = is number refl in
    any_steps _ (suc mid.steps)
    (placed_next mid (desk.place mid.desk) number item good (place_keeps keeps mid.desk number ready good.picture)
    (shows.places mid.desk number ready) admits)
placed_keeps keeps shows mid item (Err why) is admits good = good

turned_keeps : KeepsPictures → DeskShows → (mid : State) (hand : Option Item)
    → IfSome hand (λ item. AdmitsBody mid.schema item.body) → IsWorld mid → IsWorld (turned_with mid hand).1
turned_keeps keeps shows mid None admits good = good
turned_keeps keeps shows mid (Some item) admits good =
    placed_keeps keeps shows mid item (answer_after mid.steps (desk.prepare mid.desk))
    (λ number is. ap (λ (r : Result ℕ DeskRefusal × Picture). r.0)
    (call_after mid.steps (desk.prepare mid.desk, mid.desk) number is)) admits good

-- no more waits once an item was pulled
fewer_wait : (hand : Option Item) (intake : List Item) → length (outcome.rest_of hand intake) ≤ length intake
fewer_wait (Some item) intake = omega arith
fewer_wait None [] = omega arith
fewer_wait None (item ∷ rest) = omega arith

-- what is pulled was in the intake
hand_admitted : (schema : List Shape) (hand : Option Item) (intake : List Item)
    → IfSome hand (λ item. AdmitsBody schema item.body) → AllByRecursion (λ item. AdmitsBody schema item.body) intake
    → IfSome (outcome.hand_of hand intake) (λ item. AdmitsBody schema item.body)
hand_admitted schema (Some item) intake held waiting = held
hand_admitted schema None [] held waiting = tt
hand_admitted schema None (item ∷ rest) held waiting = waiting.0

rest_admitted : (schema : List Shape) (hand : Option Item) (intake : List Item)
    → AllByRecursion (λ item. AdmitsBody schema item.body) intake
    → AllByRecursion (λ item. AdmitsBody schema item.body) (outcome.rest_of hand intake)
rest_admitted schema (Some item) intake waiting = waiting
rest_admitted schema None [] waiting = tt
rest_admitted schema None (item ∷ rest) waiting = waiting.1

turn_keeps : KeepsPictures → DeskShows → (old : State) → IsWorld old
    → IsWorld (turned_with (outcome.pulled old) (outcome.pulled old).hand).1
turn_keeps keeps shows old good =
    let held = hand_admitted old.schema old.hand old.intake good.admitted.hand good.admitted.intake in
    turned_keeps keeps shows (outcome.pulled old) (outcome.pulled old).hand held
    (apart old old.publishers _ _ old.withdrawn old.steps good good.few
    (omega (arith, good.waiting, fewer_wait old.hand old.intake)) good.marks
    (record {
      staged = good.admitted.staged;
      intake = rest_admitted old.schema old.hand old.intake good.admitted.intake;
      hand = held;
      sequence = good.admitted.sequence;
    }))

end_sequence_keeps : KeepsPictures → DeskShows → (old : State) → IsWorld old → IsWorld (outcome.closed old).1
unfolding after_step
end_sequence_keeps keeps shows old good =
    let new = (desk.close old.desk).1 in
    let ends = shows.closes old.desk (desk.close old.desk).0 new good.picture refl in
    any_steps _ (old.steps + length (closing_steps old.desk.closing))
    (worlds_changed old new old.endpoints good (keeps old.desk step.Close good.picture)
    (ap (λ (o : Outline). o.front) ends.kept) (ap (λ (o : Outline). o.next_delivery) ends.kept)
    (good.members ∙ sym (ap (λ (o : Outline). o.members) ends.kept)) (omega arith))

-- ---- subscriptions

world_events_subscribed_keeps : (old : State) (start : ℕ) (begun : TableState) (r : Result (ℕ × ℕ) DeskRefusal)
    (new : Picture) → IsWorld old → KeepsLimits old.desk new
    → ((made : ℕ × ℕ) → r ≡ Ok made → outline.Subscribes (outline_of old.desk) (outline_of new) start made.0 made.1)
    → IsWorld (subscribed_by old start begun r new).1
world_events_subscribed_keeps old start begun (Ok made) new good picture joins =
    let join = joins made refl in
    let end : Endpoint = new_endpoint start made.1 begun in
    let members = map_push member_of_end old.endpoints end
    ∙ ap (λ (ms : List Member). ms ++ member_of_end end ∷ []) good.members
    ∙ sym (ap (λ (o : Outline). o.members) join.kept) in
    any_steps _ (suc old.steps)
    (worlds_changed old new (old.endpoints ++ end ∷ []) good picture (ap (λ (o : Outline). o.front) join.kept)
    (ap (λ (o : Outline). o.next_delivery) join.kept) members
    (omega (arith, length-append old.endpoints (end ∷ []))))
world_events_subscribed_keeps old start begun (Err why) new good picture joins = good

subscription_keeps : KeepsPictures → DeskShows → (old : State) (start : ℕ) (begun : TableState) → IsWorld old
    → IsWorld (subscribed_by old start begun (answer_after old.steps (desk.subscribe old.desk start).0)
    (desk.subscribe old.desk start).1).1
unfolding after_step
subscription_keeps keeps shows old start begun good =
    let call = desk.subscribe old.desk start in
    world_events_subscribed_keeps old start begun (answer_after old.steps call.0) call.1 good
    (keeps old.desk (step.Subscribe start) good.picture)
    (λ made is. shows.subscribes old.desk start made.0 made.1 call.1 (call_after old.steps call made is))

handed_keeps : (old : State) (r : Result Delivery DeskRefusal) (new : Picture) → IsWorld old → KeepsLimits old.desk new
    → ((delivery : Delivery) → r ≡ Ok delivery → outline.Delivers (outline_of old.desk) (outline_of new) delivery)
    → IsWorld (outcome.delivered_by old r new).1
handed_keeps old (Ok delivery) new good picture hands =
    any_steps _ (suc old.steps) (handed_over old new delivery good picture (hands delivery refl))
handed_keeps old (Err why) new good picture hands = good

taken_keeps : KeepsPictures → DeskShows → (old : State) (s now : ℕ) (found : Option Endpoint) → IsWorld old
    → IsWorld (delivered_for old s now found).1
unfolding after_step
taken_keeps keeps shows old s now None good = good
taken_keeps keeps shows old s now (Some end) good =
    let call = desk.take old.desk s end.link end.cursor now in
    handed_keeps old (answer_after old.steps call.0) call.1 good
    (keeps old.desk (step.Take s end.link end.cursor now) good.picture)
    (λ delivery is. (shows.takes old.desk s end.link end.cursor now delivery call.1 good.picture
    (call_after old.steps call delivery is)).1)

taken_any_keeps : KeepsPictures → DeskShows → (old : State) (now : ℕ) → IsWorld old
    → IsWorld (outcome.delivered_by old (answer_after old.steps (desk.take_any old.desk now).0)
    (desk.take_any old.desk now).1).1
unfolding after_step
taken_any_keeps keeps shows old now good =
    let call = desk.take_any old.desk now in
    handed_keeps old (answer_after old.steps call.0) call.1 good (keeps old.desk (step.TakeAny now) good.picture)
    (λ delivery is. shows.takes_any old.desk now delivery call.1 good.picture (call_after old.steps call delivery is))

-- ---- all of these

pub event_keeps : KeepsPictures → DeskShows → AcceptsBySteps → WithdrawalsAdmitted → (old : State) (event : Event)
    → IsWorld old → IsWorld (outcome old event).1
unfolding outcome
event_keeps keeps shows steps law old event.Publisher good = publisher_keeps old good
event_keeps keeps shows steps law old (event.Feed p bytes) good =
    feed_keeps old p bytes (slice_get old.publishers p) refl good
event_keeps keeps shows steps law old (event.Reset p) good = reset_keeps old p (slice_get old.publishers p) refl good
event_keeps keeps shows steps law old (event.End p) good = end_keeps old p (slice_get old.publishers p) good
event_keeps keeps shows steps law old (event.Send p) good = send_keeps old p (slice_get old.publishers p) refl good
event_keeps keeps shows steps law old (event.Withdraw p n) good =
    withdraw_keeps law old p n (slice_get old.publishers p) good
event_keeps keeps shows steps law old event.Turn good = turn_keeps keeps shows old good
event_keeps keeps shows steps law old event.Close good = end_sequence_keeps keeps shows old good
event_keeps keeps shows steps law old (event.Subscribe start) good =
    subscription_keeps keeps shows old start (empty_tables old.schema) good
event_keeps keeps shows steps law old (event.SubscribeBare start) good =
    subscription_keeps keeps shows old start (bare_tables old.schema) good
event_keeps keeps shows steps law old (event.Take s now) good =
    taken_keeps keeps shows old s now (slice_get old.endpoints s) good
event_keeps keeps shows steps law old (event.TakeAny now) good = taken_any_keeps keeps shows old now good
event_keeps keeps shows steps law old (event.Accept d) good = accepted_as_keeps steps old (delivery_of old d) good
event_keeps keeps shows steps law old (event.Crash d kept) good =
    crashed_for_keeps steps old kept (delivery_of old d) good
event_keeps keeps shows steps law old (event.Ack d) good = acked_keeps keeps shows old (delivery_of old d) good
event_keeps keeps shows steps law old (event.Nack d) good = nacked_keeps keeps shows old (delivery_of old d) good
event_keeps keeps shows steps law old (event.NackOpened d) good = opened_keeps keeps shows old (delivery_of old d) good
event_keeps keeps shows steps law old (event.Expire now) good = world_events_expired_keeps keeps shows old now good
event_keeps keeps shows steps law old (event.Reconnect s cursor) good =
    world_events_reconnected_keeps keeps shows old s cursor good
event_keeps keeps shows steps law old (event.Resume s) good = resumed_keeps keeps shows old s good
event_keeps keeps shows steps law old (event.Unsubscribe s) good =
    world_events_unsubscribed_keeps keeps shows old s good
