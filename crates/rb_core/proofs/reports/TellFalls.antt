-- What is reported of subscriptions that fall while they accept a delivery, and that are resumed.
use Rattle.std.proofs.Common.{◌≡◌, ℕ, inl, inr, Bool, true, false, cond, not, List, [], ◌∷◌, ◌++◌, Option}
use Rattle.std.proofs.Common.{Some, None, Result, Ok, Err, refl, ap, subst, ◌∙◌}
use Rattle.std.specs.Prelude.{slice_get}
use Rattle.cs_model.specs.declared.shape.Shape.{Shape}
use Rattle.rb_desk.specs.Calls as desk
use Rattle.rb_desk.specs.declared.delivery.Delivery.{Delivery}
use Rattle.rb_desk.specs.declared.refusal.DeskRefusal.{DeskRefusal}
use Rattle.rb_desk.specs.declared.refusal.DeskRefusal.TheVariants.{NoSuch}
use Rattle.rb_desk.specs.Picture.{Picture}
use Rattle.rb_desk.proofs.journals.KeepLaws.{call_after}
use Rattle.rb_desk.specs.Journaled.{answer_after}
use Rattle.rb_subscriber.specs.Accept.{accept, brought, fallen_unless_refused}
use Rattle.rb_subscriber.specs.declared.refusal.AcceptRefusal.{AcceptRefusal}
use Rattle.rb_subscriber.specs.Endpoint.{Endpoint}
use Rattle.rb_core.specs.declared.event.Event.TheVariants as event
use Rattle.rb_core.specs.declared.reply.Reply.{Reply}
use Rattle.rb_core.specs.declared.reply.Reply.TheVariants as reply
use Rattle.rb_core.specs.declared.reply.BrokerRefusal.TheVariants as refusal
use Rattle.rb_core.specs.Moves.{with_subscriber, Crashes, Resumes}
use Rattle.rb_core.specs.Outcome as out
use Rattle.rb_core.specs.Outcome.{with_endpoint}
use Rattle.rb_core.specs.State.{State, IsWorld}
use Rattle.rb_core.specs.Told as say
use Rattle.rb_core.specs.Told.{told, delivery_told, IsToldBy}
use Rattle.rb_core.specs.World.{Subscriber, World}
use Rattle.rb_core.proofs.reports.TellDeliveries.{AcceptSteps, AcceptingSubscriber, accepting_subscriber, acceptance_of}
use Rattle.rb_core.proofs.reports.TellDeliveries.{KnownDelivery, known_delivery, end_behind}
use Rattle.rb_core.proofs.reports.TellSubscriptions.{ReconnectShows, under_link}
use Rattle.rb_core.proofs.reports.Telling.{TellingGoes, nothing_told, move_told, changed_is, subscriber_of_end}
use Rattle.rb_core.proofs.reports.Telling.{telling_with_both}

-- ---- one falls

abbrev fallen_end : Endpoint → Endpoint
fallen_end end = record end { fallen = true }

abbrev fallen_subscriber : Subscriber → Subscriber
fallen_subscriber q = record q { fallen = true }

-- as before the accept
fell_before : (schema : List Shape) (old : State) (world : World) (d : ℕ) (delivery : Delivery) (end after : Endpoint)
    → AcceptingSubscriber world delivery end after → IsToldBy schema old world
    → TellingGoes schema world (event.Crash d false)
    (out.crashed_by old delivery.sub (fallen_unless_refused false end (Ok after)))
fell_before schema old world d delivery end after at h =
    let s = delivery.sub in
    let q = at.subscriber in
    let r = fallen_subscriber q in
    let new = with_subscriber world s r in
    let crashes : Crashes world new = record { made = acceptance_of world delivery end after at; kept = inl refl } in
    move_told schema world new (event.Crash d false) (reply.Crashed s end.cursor)
    (with_endpoint old s (fallen_end end)) (changed_is world s (say.crashed world.sequence d false) q at.found)
    (inr (inr (inr (inr (inr (inr (inr (inr (inr (inr (inr (inr (inr (inl crashes))))))))))))))
    (telling_with_both schema old world s q r (fallen_end end) at.found refl refl (ap fallen_end at.is) h)

-- as after it
fell_after : (schema : List Shape) (old : State) (world : World) (d : ℕ) (delivery : Delivery) (end after : Endpoint)
    → AcceptingSubscriber world delivery end after → delivery.number ≡ d → IsToldBy schema old world
    → TellingGoes schema world (event.Crash d true)
    (out.crashed_by old delivery.sub (fallen_unless_refused true end (Ok after)))
fell_after schema old world d delivery end after at number h =
    let s = delivery.sub in
    let q = at.subscriber in
    let entries = brought world.sequence delivery in
    let full = say.with_accepted entries q in
    let r = fallen_subscriber full in
    let new = with_subscriber world s r in
    let rows = ap (say.if_applied q.tables) at.accepts.tables in
    let crashes : Crashes world new = record {
      made = acceptance_of world delivery end after at;
      kept = inr (ap (λ t. with_subscriber world s (record q {
        accepted = q.accepted ++ entries;
        batches = q.batches ++ entries ∷ [];
        tables = t;
        fallen = true;
      })) rows);
    } in
    let as_d : delivery_told d q ≡ Some delivery = subst (λ n. delivery_told n q ≡ Some delivery) number at.offered in
    let is_new : told schema world (event.Crash d true) (reply.Crashed s after.cursor) ≡ new =
    changed_is world s (say.crashed world.sequence d true) q at.found
    ∙ ap (λ f. with_subscriber world s (fallen_subscriber (say.accepted_told world.sequence f q))) as_d in
    move_told schema world new (event.Crash d true) (reply.Crashed s after.cursor)
    (with_endpoint old s (fallen_end after)) is_new
    (inr (inr (inr (inr (inr (inr (inr (inr (inr (inr (inr (inr (inr (inl crashes))))))))))))))
    (telling_with_both schema old world s q r (fallen_end after) at.found refl refl
    (ap fallen_end (end_behind world.sequence q delivery after at.placed at.accepts)) h)

fell_tells : AcceptSteps → (schema : List Shape) (old : State) (world : World) (d : ℕ) (kept : Bool)
    (delivery : Delivery) (end : Endpoint) (answer : Result Endpoint AcceptRefusal)
    → accept end old.sequence delivery ≡ answer → slice_get old.endpoints delivery.sub ≡ Some end
    → KnownDelivery old world d delivery → IsToldBy schema old world
    → TellingGoes schema world (event.Crash d kept)
    (out.crashed_by old delivery.sub (fallen_unless_refused kept end answer))
fell_tells steps schema old world d kept delivery end (Err why) is found known h =
    nothing_told schema world (event.Crash d kept) (reply.Refused (refusal.Accept why)) old refl h
fell_tells steps schema old world d true delivery end (Ok after) is found known h =
    fell_after schema old world d delivery end after
    (accepting_subscriber steps schema old world delivery end after is found known.of known.reported h)
    known.numbered h
fell_tells steps schema old world d false delivery end (Ok after) is found known h =
    fell_before schema old world d delivery end after
    (accepting_subscriber steps schema old world delivery end after is found known.of known.reported h) h

crashed_at_tells : AcceptSteps → (schema : List Shape) (old : State) (world : World) (d : ℕ) (kept : Bool)
    (delivery : Delivery) (found : Option Endpoint) → slice_get old.endpoints delivery.sub ≡ found
    → KnownDelivery old world d delivery → IsToldBy schema old world
    → TellingGoes schema world (event.Crash d kept) (out.crashed_at old delivery kept found)
crashed_at_tells steps schema old world d kept delivery None found known h =
    nothing_told schema world (event.Crash d kept) (reply.Refused refusal.NoDelivery) old refl h
crashed_at_tells steps schema old world d kept delivery (Some end) found known h =
    fell_tells steps schema old world d kept delivery end (accept end old.sequence delivery) refl found known h

crashed_for_tells : AcceptSteps → (schema : List Shape) (old : State) (world : World) (d : ℕ) (kept : Bool)
    (found : Option Delivery) → out.delivery_of old d ≡ found → IsWorld old → IsToldBy schema old world
    → TellingGoes schema world (event.Crash d kept) (out.crashed_for old kept found)
crashed_for_tells steps schema old world d kept None found good h =
    nothing_told schema world (event.Crash d kept) (reply.Refused refusal.NoDelivery) old refl h
crashed_for_tells steps schema old world d kept (Some delivery) found good h =
    crashed_at_tells steps schema old world d kept delivery (slice_get old.endpoints delivery.sub) refl
    (known_delivery schema old world d delivery found good h) h

pub crash_tells : AcceptSteps → (schema : List Shape) (old : State) (world : World) (d : ℕ) (kept : Bool)
    → IsWorld old → IsToldBy schema old world
    → TellingGoes schema world (event.Crash d kept) (out.crashed old d kept)
crash_tells steps schema old world d kept good h =
    crashed_for_tells steps schema old world d kept (out.delivery_of old d) refl good h

-- ---- one that has fallen goes on

abbrev end_resumed : ℕ → Endpoint → Endpoint
end_resumed link end = record end { link = link; fallen = false }

relinked_tells : ReconnectShows → (schema : List Shape) (old : State) (world : World) (s : ℕ) (end : Endpoint)
    (answer : Result ℕ DeskRefusal) (picture : Picture)
    → ((link : ℕ) → answer ≡ Ok link → desk.reconnect old.desk s end.cursor ≡ (Ok link, picture))
    → slice_get old.endpoints s ≡ Some end → end.fallen ≡ true → IsToldBy schema old world
    → TellingGoes schema world (event.Resume s) (out.resumed_with old s end answer picture)
relinked_tells shows schema old world s end (Err why) picture is found fell h =
    nothing_told schema world (event.Resume s) (reply.Refused (refusal.Desk why)) old refl h
relinked_tells shows schema old world s end (Ok link) picture is found fell h =
    let at = subscriber_of_end schema old world s end h found in
    let q = at.0 in
    let r : Subscriber = record q { link = link; fallen = false } in
    let linked = under_link schema old world s link q r (end_resumed link end) picture
    (shows old.desk s end.cursor link picture (is link refl)) at.1 refl refl (ap (end_resumed link) at.2) h in
    let new : World = record (with_subscriber world s r) { links = link ∷ world.links } in
    let resumes : Resumes world new = record {
      s = s;
      subscriber = q;
      link = link;
      found = at.1;
      fell = ap (λ (e : Endpoint). e.fallen) at.2 ∙ fell;
      new_link = linked.0;
      kept = refl;
    } in
    let is_new : told schema world (event.Resume s) (reply.Link link) ≡ new =
    ap (λ (w : World). record w { links = link ∷ world.links })
    (changed_is world s (say.resumed link) q at.1) in
    move_told schema world new (event.Resume s) (reply.Link link)
    (out.resumed_with old s end (Ok link) picture).1 is_new
    (inr (inr (inr (inr (inr (inr (inr (inr (inr (inr (inr (inr (inr (inr resumes)))))))))))))) linked.1

-- both ways of the test for the mark
unless_fallen : (P : Reply × State → Type 0) (mark : Bool) (x y : Reply × State) → P x → (mark ≡ true → P y)
    → P (cond (not mark) x y)
unless_fallen P true x y one other = other refl
unless_fallen P false x y one other = one

resumed_tells : ReconnectShows → (schema : List Shape) (old : State) (world : World) (s : ℕ) (found : Option Endpoint)
    → slice_get old.endpoints s ≡ found → IsToldBy schema old world
    → TellingGoes schema world (event.Resume s) (out.resumed_for old s found)
resumed_tells shows schema old world s None found h =
    nothing_told schema world (event.Resume s) (reply.Refused (refusal.Desk NoSuch)) old refl h
resumed_tells shows schema old world s (Some end) found h =
    let call = desk.reconnect old.desk s end.cursor in
    unless_fallen (TellingGoes schema world (event.Resume s)) end.fallen
    (out.refused old refusal.NotFallen)
    (out.resumed_with old s end (answer_after old.steps call.0) call.1)
    (nothing_told schema world (event.Resume s) (reply.Refused refusal.NotFallen) old refl h)
    (λ fell. relinked_tells shows schema old world s end (answer_after old.steps call.0) call.1
    (call_after old.steps call) found fell h)

pub resume_tells : ReconnectShows → (schema : List Shape) (old : State) (world : World) (s : ℕ)
    → IsToldBy schema old world → TellingGoes schema world (event.Resume s) (out.resumed old s)
resume_tells shows schema old world s h = resumed_tells shows schema old world s (slice_get old.endpoints s) refl h
