-- Each event of deliveries and links preserves the invariant of a world, by the cases of its outcome.
use Rattle.std.proofs.Common.{◌≡◌, ◌↔◌, ℕ, Bool, true, false, cond, List, Option, Some, None, Result, Ok}
use Rattle.std.proofs.Common.{Err, suc, slice_get, slice_set, refl, sym, ap, ◌∙◌, arith}
use Rattle.std.specs.Prelude.{not}
use Rattle.std.proofs.lemmas.List.{length-set}
use Rattle.rb_desk.specs.Calls as desk
use Rattle.rb_desk.specs.declared.delivery.Delivery.{Delivery}
use Rattle.rb_desk.specs.declared.refusal.DeskRefusal.{DeskRefusal}
use Rattle.rb_desk.specs.declared.step.Step.TheVariants as step
use Rattle.rb_desk.specs.Outline.{Member, Outline, outline_of}
use Rattle.rb_desk.specs.Outline as outline
use Rattle.rb_desk.specs.Picture.{Picture}
use Rattle.rb_desk.specs.Steps.{after_step}
use Rattle.rb_sequence.specs.Entry.{Entry}
use Rattle.rb_subscriber.specs.Accept.{accept, AcceptsDelivery, crashed_as, fallen_unless_refused}
use Rattle.rb_subscriber.specs.declared.refusal.AcceptRefusal.{AcceptRefusal}
use Rattle.rb_subscriber.specs.Endpoint.{Endpoint}
use Rattle.rb_core.specs.declared.reply.Reply.{Reply}
use Rattle.rb_core.specs.declared.reply.Reply.TheVariants as reply
use Rattle.rb_core.specs.Outcome.{accepted_by, accepted_at, accepted_as, crashed_by, crashed_at, crashed_for}
use Rattle.rb_core.specs.Outcome.{resumed_with, resumed_for, by_desk, acked_at, acked_for}
use Rattle.rb_core.specs.Outcome.{nacked_for, reconnected_with, reconnected_for, unsubscribed_with}
use Rattle.rb_core.specs.Outcome.{unsubscribed_for, with_endpoint, opened_for}
use Rattle.rb_core.specs.Outcome as outcome
use Rattle.rb_core.specs.State.{State, member_of_end, IsWorld}
use Rattle.rb_core.proofs.invariants.DeskLaws.{KeepsLimits, KeepsPictures, DeskShows}
use Rattle.rb_core.proofs.invariants.Worlds.{worlds_changed, same_outline, set_end, same_end}
use Rattle.rb_core.proofs.invariants.Worlds.{found_end, any_steps}
use Rattle.rb_desk.proofs.journals.KeepLaws.{call_after}
use Rattle.rb_desk.specs.Journaled.{answer_after}

-- an end accepts where it takes the step, and only there
abbrev pub AcceptsBySteps : Type 0
AcceptsBySteps = (old : Endpoint) (sequence : List Entry) (delivery : Delivery) (new : Endpoint)
    → (accept old sequence delivery ≡ Ok new) ↔ AcceptsDelivery old sequence delivery new

-- the world is one after either of two outcomes, of which the second comes where the test fails
pub world_events_unless : (b : Bool) (x y : Reply × State) → IsWorld x.1 → (b ≡ false → IsWorld y.1)
    → IsWorld (cond b x y).1
world_events_unless true x y h k = h
world_events_unless false x y h k = k refl

-- ---- deliveries

accepted_keeps : AcceptsBySteps
    → (old : State) (s : ℕ) (end : Endpoint) (delivery : Delivery) (r : Result Endpoint AcceptRefusal)
    → accept end old.sequence delivery ≡ r → slice_get old.endpoints s ≡ Some end → IsWorld old
    → IsWorld (accepted_by old s r).1
accepted_keeps steps old s end delivery (Ok new) is found good =
    let step = (steps end old.sequence delivery new).0 is in
    worlds_changed old old.desk (slice_set old.endpoints s new) good (good.picture, refl) refl refl
    (same_end old.endpoints s end new found (ap member_of_end step.kept) ∙ good.members)
    (omega (arith, length-set old.endpoints s new))
accepted_keeps steps old s end delivery (Err why) is found good = good

accepted_at_keeps : AcceptsBySteps → (old : State) (delivery : Delivery) (found : Option Endpoint)
    → slice_get old.endpoints delivery.sub ≡ found → IsWorld old → IsWorld (accepted_at old delivery found).1
accepted_at_keeps steps old delivery None is good = good
accepted_at_keeps steps old delivery (Some end) is good =
    accepted_keeps steps old delivery.sub end delivery (accept end old.sequence delivery) refl is good

pub accepted_as_keeps : AcceptsBySteps → (old : State) (found : Option Delivery) → IsWorld old
    → IsWorld (accepted_as old found).1
accepted_as_keeps steps old None good = good
accepted_as_keeps steps old (Some delivery) good =
    accepted_at_keeps steps old delivery (slice_get old.endpoints delivery.sub) refl good

-- an end that falls while it accepts is the same to the desk
crash_member : (kept : Bool) (old new : Endpoint) → member_of_end new ≡ member_of_end old
    → member_of_end (crashed_as kept old new) ≡ member_of_end old
crash_member true old new same = same
crash_member false old new same = refl

crashed_keeps : AcceptsBySteps
    → (old : State) (s : ℕ) (end : Endpoint) (delivery : Delivery) (kept : Bool) (r : Result Endpoint AcceptRefusal)
    → accept end old.sequence delivery ≡ r → slice_get old.endpoints s ≡ Some end → IsWorld old
    → IsWorld (crashed_by old s (fallen_unless_refused kept end r)).1
crashed_keeps steps old s end delivery kept (Ok new) is found good =
    let step = (steps end old.sequence delivery new).0 is in
    let next = crashed_as kept end new in
    worlds_changed old old.desk (slice_set old.endpoints s next) good (good.picture, refl) refl refl
    (same_end old.endpoints s end next found (crash_member kept end new (ap member_of_end step.kept)) ∙ good.members)
    (omega (arith, length-set old.endpoints s next))
crashed_keeps steps old s end delivery kept (Err why) is found good = good

crashed_at_keeps : AcceptsBySteps → (old : State) (delivery : Delivery) (kept : Bool) (found : Option Endpoint)
    → slice_get old.endpoints delivery.sub ≡ found → IsWorld old → IsWorld (crashed_at old delivery kept found).1
crashed_at_keeps steps old delivery kept None is good = good
crashed_at_keeps steps old delivery kept (Some end) is good =
    crashed_keeps steps old delivery.sub end delivery kept (accept end old.sequence delivery) refl is good

pub crashed_for_keeps : AcceptsBySteps → (old : State) (kept : Bool) (found : Option Delivery) → IsWorld old
    → IsWorld (crashed_for old kept found).1
crashed_for_keeps steps old kept None good = good
crashed_for_keeps steps old kept (Some delivery) good =
    crashed_at_keeps steps old delivery kept (slice_get old.endpoints delivery.sub) refl good

-- a call that the desk's outline doesn't show
by_desk_keeps : {A : Type 0} (given : A → Reply) (old : State) (r : Result A DeskRefusal) (new : Picture) → IsWorld old
    → KeepsLimits old.desk new → ((answer : A) → r ≡ Ok answer → outline_of new ≡ outline_of old.desk)
    → IsWorld (by_desk given old r new).1
by_desk_keeps given old (Ok answer) new good picture same =
    any_steps _ (suc old.steps) (same_outline old new good picture (same answer refl))
by_desk_keeps given old (Err why) new good picture same = good

-- the same of a call, as the desk answers it after so many steps
desk_call_keeps : {A : Type 0} (given : A → Reply) (old : State) (call : Result A DeskRefusal × Picture) → IsWorld old
    → KeepsLimits old.desk call.1
    → ((answer : A) → call ≡ (Ok answer, call.1) → outline_of call.1 ≡ outline_of old.desk)
    → IsWorld (by_desk given old (answer_after old.steps call.0) call.1).1
desk_call_keeps given old call good picture same =
    by_desk_keeps given old (answer_after old.steps call.0) call.1 good picture
    (λ answer is. same answer (call_after old.steps call answer is))

acked_at_keeps : KeepsPictures → DeskShows → (old : State) (delivery : Delivery) (found : Option Endpoint) → IsWorld old
    → IsWorld (acked_at old delivery found).1
unfolding after_step
acked_at_keeps keeps shows old delivery None good = good
acked_at_keeps keeps shows old delivery (Some end) good =
    desk_call_keeps reply.Floor old (desk.ack old.desk delivery.sub delivery.link delivery.number end.cursor) good
    (keeps old.desk (step.Ack delivery.sub delivery.link delivery.number end.cursor) good.picture)
    (λ floor is. shows.acks old.desk delivery.sub delivery.link delivery.number end.cursor floor _ is)

pub acked_keeps : KeepsPictures → DeskShows → (old : State) (found : Option Delivery) → IsWorld old
    → IsWorld (acked_for old found).1
acked_keeps keeps shows old None good = good
acked_keeps keeps shows old (Some delivery) good =
    acked_at_keeps keeps shows old delivery (slice_get old.endpoints delivery.sub) good

pub nacked_keeps : KeepsPictures → DeskShows → (old : State) (found : Option Delivery) → IsWorld old
    → IsWorld (nacked_for old found).1
unfolding after_step
nacked_keeps keeps shows old None good = good
nacked_keeps keeps shows old (Some delivery) good =
    desk_call_keeps (λ done. reply.Returned) old (desk.nack old.desk delivery.sub delivery.link delivery.number) good
    (keeps old.desk (step.Nack delivery.sub delivery.link delivery.number) good.picture)
    (λ done is. shows.nacks old.desk delivery.sub delivery.link delivery.number _ is)

pub opened_keeps : KeepsPictures → DeskShows → (old : State) (found : Option Delivery) → IsWorld old
    → IsWorld (opened_for old found).1
unfolding after_step
opened_keeps keeps shows old None good = good
opened_keeps keeps shows old (Some delivery) good =
    desk_call_keeps reply.Opened old (desk.nack_opened old.desk delivery.sub delivery.link delivery.number) good
    (keeps old.desk (step.NackOpened delivery.sub delivery.link delivery.number) good.picture)
    (λ count is. shows.opens old.desk delivery.sub delivery.link delivery.number count _ is)

pub world_events_expired_keeps : KeepsPictures → DeskShows → (old : State) (now : ℕ) → IsWorld old
    → IsWorld (outcome.expired old now).1
unfolding after_step
world_events_expired_keeps keeps shows old now good =
    let call = desk.expire old.desk now in
    by_desk_keeps reply.Expired old (answer_after old.steps (Ok call.0)) call.1 good
    (keeps old.desk (step.Expire now) good.picture) (λ many is. shows.expires old.desk now call.0 call.1 refl)

-- ---- links

-- what holds of a call on a subscription that isn't there, and of one on a subscription that is
for_end : (P : Option Endpoint → Type 0) (ends : List Endpoint) (s : ℕ) → P None
    → ((end : Endpoint) → slice_get ends s ≡ Some end → P (Some end)) → P (slice_get ends s)
for_end P ends s none some = by (slice_get ends s) refl
  where
    by : (found : Option Endpoint) → slice_get ends s ≡ found → P found
    by None is = none
    by (Some end) is = some end is

-- an end becomes another, and the desk's member changes with it
member_changed : (old : State) (s : ℕ) (end next : Endpoint) (member : Member) (change : Member → Member)
    (new : Picture) → slice_get old.endpoints s ≡ Some end → IsWorld old → KeepsLimits old.desk new
    → slice_get (outline_of old.desk).members s ≡ Some member
    → (outline_of new).front ≡ (outline_of old.desk).front
    → (outline_of new).next_delivery ≡ (outline_of old.desk).next_delivery
    → (outline_of new).members ≡ slice_set (outline_of old.desk).members s (change member)
    → member_of_end next ≡ change (member_of_end end)
    → IsWorld (record (with_endpoint old s next) { desk = new; steps = suc old.steps })
member_changed old s end next member change new here good picture found front delivery members same =
    let is = found_end old s end member good here found in
    let kept =
    set_end old.endpoints s next
    ∙ ap (λ (ms : List Member). slice_set ms s (member_of_end next)) good.members
    ∙ ap (slice_set (outline_of old.desk).members s) (same ∙ ap change (sym is))
    ∙ sym members
    in
    any_steps (record (with_endpoint old s next) { desk = new }) (suc old.steps)
    (worlds_changed old new (slice_set old.endpoints s next) good picture front delivery kept
    (omega (arith, length-set old.endpoints s next)))

-- it gets the link that the desk gives
under_new_link : (old : State) (s : ℕ) (end next : Endpoint) (link : ℕ) (new : Picture)
    → slice_get old.endpoints s ≡ Some end → IsWorld old → KeepsLimits old.desk new
    → outline.Reconnects (outline_of old.desk) (outline_of new) s link
    → member_of_end next ≡ record (member_of_end end) { link = link }
    → IsWorld (record (with_endpoint old s next) { desk = new; steps = suc old.steps })
under_new_link old s end next link new here good picture h same =
    member_changed old s end next h.member (λ m. record m { link = link }) new here good picture h.found
    (ap (λ (o : Outline). o.front) h.kept) (ap (λ (o : Outline). o.next_delivery) h.kept)
    (ap (λ (o : Outline). o.members) h.kept) same

-- what holds of a call that the desk answers, and of one that it refuses
for_answer : {A : Type 0} (P : Result A DeskRefusal → Type 0) (r : Result A DeskRefusal)
    → ((answer : A) → r ≡ Ok answer → P (Ok answer)) → ((why : DeskRefusal) → P (Err why)) → P r
for_answer P (Ok answer) done refused = done answer refl
for_answer P (Err why) done refused = refused why

pub world_events_reconnected_keeps : KeepsPictures → DeskShows → (old : State) (s cursor : ℕ) → IsWorld old
    → IsWorld (outcome.reconnected old s cursor).1
unfolding after_step
world_events_reconnected_keeps keeps shows old s cursor good =
    for_end (λ found. IsWorld (reconnected_for old s cursor found).1) old.endpoints s good (λ end is.
    let call = desk.reconnect old.desk s cursor in
    for_answer (λ r. IsWorld (reconnected_with old s end r call.1).1) (answer_after old.steps call.0)
    (λ link e. under_new_link old s end (record end { link = link }) link call.1 is good
    (keeps old.desk (step.Reconnect s cursor) good.picture)
    (shows.reconnects old.desk s cursor link call.1 (call_after old.steps call link e)) refl)
    (λ why. good))

pub resumed_keeps : KeepsPictures → DeskShows → (old : State) (s : ℕ) → IsWorld old → IsWorld (outcome.resumed old s).1
unfolding after_step
resumed_keeps keeps shows old s good =
    for_end (λ found. IsWorld (resumed_for old s found).1) old.endpoints s good (λ end is.
    let call = desk.reconnect old.desk s end.cursor in
    world_events_unless (not end.fallen) _ _ good
    (λ fell. for_answer (λ r. IsWorld (resumed_with old s end r call.1).1) (answer_after old.steps call.0)
    (λ link e. under_new_link old s end (record end { link = link; fallen = false }) link call.1 is good
    (keeps old.desk (step.Reconnect s end.cursor) good.picture)
    (shows.reconnects old.desk s end.cursor link call.1 (call_after old.steps call link e)) refl)
    (λ why. good)))

pub world_events_unsubscribed_keeps : KeepsPictures → DeskShows → (old : State) (s : ℕ) → IsWorld old
    → IsWorld (outcome.unsubscribed old s).1
unfolding after_step
world_events_unsubscribed_keeps keeps shows old s good =
    for_end (λ found. IsWorld (unsubscribed_for old s found).1) old.endpoints s good (λ end is.
    let call = desk.unsubscribe old.desk s end.link in
    for_answer (λ r. IsWorld (unsubscribed_with old s end r call.1).1) (answer_after old.steps call.0)
    (λ done e.
    let h = shows.unsubscribes old.desk s end.link call.1 (call_after old.steps call done e) in
    member_changed old s end (record end { closed = true }) h.member (λ m. record m { closed = true }) call.1 is good
    (keeps old.desk (step.Unsubscribe s end.link) good.picture) h.found (ap (λ (o : Outline). o.front) h.kept)
    (ap (λ (o : Outline). o.next_delivery) h.kept) (ap (λ (o : Outline). o.members) h.kept) refl)
    (λ why. good))
