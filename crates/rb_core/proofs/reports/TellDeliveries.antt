-- What is reported of deliveries: which are made, and what is accepted of them.
use Rattle.std.proofs.Common.{◌≡◌, ℕ, suc, ◌+◌, ◌<◌, ◌≤◌, inl, inr, false, List, [], ◌∷◌, ◌++◌, length, map}
use Rattle.std.proofs.Common.{Option, Some, None}
use Rattle.std.proofs.Common.{Result, Ok, Err, refl, sym, ap, subst, ◌∙◌, arith}
use Rattle.std.specs.Prelude.{slice_get, slice_set, ◌↔◌, ◌==◌}
use Rattle.std.specs.List.{AllByRecursion}
use Rattle.std.proofs.lemmas.Bool.{eqb-true, eq-eqb, ne_eqb}
use Rattle.std.proofs.lemmas.List.{length-append}
use Rattle.cs_model.proofs.CallerLemmas.{all_push}
use Rattle.cs_model.specs.declared.shape.Shape.{Shape}
use Rattle.cs_apply.specs.State as tables
use Rattle.cs_apply.specs.Single.{single}
use Rattle.cs_group.specs.Group.{group_of}
use Rattle.rb_desk.specs.Calls as desk
use Rattle.rb_desk.specs.declared.delivery.Delivery.{Delivery}
use Rattle.rb_desk.specs.declared.refusal.DeskRefusal.{DeskRefusal}
use Rattle.rb_desk.specs.declared.refusal.DeskRefusal.TheVariants.{NoSuch}
use Rattle.rb_desk.specs.IsPicture.{IsPicture}
use Rattle.rb_desk.specs.Outline.{Member, Outline, outline_of}
use Rattle.rb_desk.specs.Outline as outline
use Rattle.rb_desk.specs.Picture.{Picture}
use Rattle.rb_desk.proofs.pictures.PictureLaws.{get_set}
use Rattle.rb_sequence.specs.Entry.{Entry}
use Rattle.rb_subscriber.proofs.runs.RunLaws.{brought_after}
use Rattle.rb_subscriber.specs.Accept.{brought, joined_bodies, accept, AcceptsDelivery}
use Rattle.rb_subscriber.specs.declared.refusal.AcceptRefusal.{AcceptRefusal}
use Rattle.rb_subscriber.specs.Endpoint.{Endpoint}
use Rattle.rb_core.specs.declared.event.Event.{Event}
use Rattle.rb_core.specs.declared.event.Event.TheVariants as event
use Rattle.rb_core.specs.declared.reply.Reply.{Reply}
use Rattle.rb_core.specs.declared.reply.Reply.TheVariants as reply
use Rattle.rb_core.specs.declared.reply.BrokerRefusal.TheVariants as refusal
use Rattle.rb_core.specs.Moves.{Acceptance, with_subscriber, Delivers, Accepts}
use Rattle.rb_core.specs.Outcome as out
use Rattle.rb_core.specs.Outcome.{with_endpoint}
use Rattle.rb_core.specs.State.{State, IsWorld, IsOf}
use Rattle.rb_core.specs.Told as say
use Rattle.rb_core.specs.Told.{told, delivery_told, IsDelivered, AreBelow, IsToldBy}
use Rattle.rb_core.specs.World.{Subscriber, World, cursor, endpoint_of}
use Rattle.rb_core.proofs.headline.Moving.{all_set, all_get, all_map}
use Rattle.rb_core.proofs.headline.Gapless.{part_length}
use Rattle.rb_core.proofs.whole_runs.Pairs.{map_set, set_same, all_find, found_in, find_passes, found_first, found_last}
use Rattle.rb_core.proofs.reports.Telling.{TellingGoes, nothing_told, move_told, all_unused, later_numbers}
use Rattle.rb_core.proofs.reports.Telling.{BeginsWithoutRows}
use Rattle.rb_core.proofs.reports.Telling.{changed_is, subscriber_of_end, subscriber_of_member, still_offered}
use Rattle.rb_core.proofs.reports.Telling.{telling_with_both, with_desk, with_subscriptions}
use Rattle.rb_desk.proofs.journals.KeepLaws.{call_after}
use Rattle.rb_desk.specs.Journaled.{answer_after}

-- what the desk shows of deliveries, and where it shows nothing
abbrev pub TakeShows : Type 0
TakeShows = (old : Picture) (s link cursor now : ℕ) (delivery : Delivery) (new : Picture) → IsPicture old
    → desk.take old s link cursor now ≡ (Ok delivery, new) → (delivery.sub ≡ s)
    × outline.Delivers (outline_of old) (outline_of new) delivery

abbrev pub TakeAnyShows : Type 0
TakeAnyShows = (old : Picture) (now : ℕ) (delivery : Delivery) (new : Picture) → IsPicture old → desk.take_any old now
    ≡ (Ok delivery, new) → outline.Delivers (outline_of old) (outline_of new) delivery

abbrev pub AckShows : Type 0
AckShows = (old : Picture) (s link number cursor floor : ℕ) (new : Picture) → desk.ack old s link number cursor
    ≡ (Ok floor, new) → outline_of new ≡ outline_of old

abbrev pub NackShows : Type 0
NackShows = (old : Picture) (s link number : ℕ) (new : Picture) → desk.nack old s link number ≡ (Ok tt, new)
    → outline_of new ≡ outline_of old

abbrev pub OpenShows : Type 0
OpenShows = (old : Picture) (s link number count : ℕ) (new : Picture) → desk.nack_opened old s link number
    ≡ (Ok count, new) → outline_of new ≡ outline_of old

abbrev pub ExpireShows : Type 0
ExpireShows = (old : Picture) (now many : ℕ) (new : Picture) → desk.expire old now ≡ (many, new) → outline_of new
    ≡ outline_of old

-- what an end accepts is a step
abbrev pub AcceptSteps : Type 0
AcceptSteps = (old : Endpoint) (sequence : List Entry) (delivery : Delivery) (new : Endpoint)
    → (accept old sequence delivery ≡ Ok new) ↔ AcceptsDelivery old sequence delivery new

-- ---- one is offered

-- the end of a subscription is the same behind an offer
offered_ends : (subs : List Subscriber) (s : ℕ) (q : Subscriber) (delivery : Delivery) → slice_get subs s ≡ Some q
    → map endpoint_of (slice_set subs s (say.delivered delivery q)) ≡ map endpoint_of subs
offered_ends subs s q delivery found = map_set endpoint_of subs s (say.delivered delivery q)
    ∙ sym (map_set endpoint_of subs s q) ∙ ap (map endpoint_of) (set_same subs s q found)

offered_tells : (schema : List Shape) (old : State) (world : World) (delivery : Delivery) (picture : Picture)
    (event : Event) → told schema world event (reply.Delivery delivery)
    ≡ say.subscriber_changed world delivery.sub (say.delivered delivery)
    → outline.Delivers (outline_of old.desk) (outline_of picture) delivery → IsWorld old → IsToldBy schema old world
    → TellingGoes schema world event (out.delivered_by old (Ok delivery) picture)
offered_tells schema old world delivery picture event is shown good h =
    let kept = shown.kept in
    let at = subscriber_of_member schema old world delivery.sub shown.member good h shown.found in
    let q = at.0 in
    let r = say.delivered delivery q in
    let new = with_subscriber world delivery.sub r in
    let next = old.desk.next_delivery in
    let far : old.desk.front ≡ length world.sequence =
    good.front ∙ ap (λ (entries : List Entry). length entries) (sym h.sequence) in
    let below : AllByRecursion (AreBelow delivery.number) world.subscribers =
    subst (λ n. AllByRecursion (AreBelow n) world.subscribers) (sym shown.given) h.subscriptions.numbers in
    let later : AllByRecursion (AreBelow (suc delivery.number)) world.subscribers =
    later_numbers delivery.number world.subscribers below in
    let of_one : AreBelow (suc delivery.number) r =
    all_push (λ (o : Delivery). o.number < suc delivery.number) q.deliveries delivery
    (all_get (AreBelow (suc delivery.number)) world.subscribers delivery.sub q later at.1) (omega arith) in
    let deliveries : Delivers world new = record {
      s = delivery.sub;
      subscriber = q;
      delivery = delivery;
      found = at.1;
      linked = shown.linked ∙ sym (ap (λ (m : Member). m.link) at.2);
      unused = all_unused delivery.number world.subscribers below;
      behind = subst (λ n. n < delivery.first) (sym (ap (λ (m : Member). m.start) at.2)) shown.behind;
      order = shown.order;
      placed = subst (λ n. delivery.last ≤ n) far shown.placed;
      kept = refl;
    } in
    let others : AllByRecursion (λ (x : Delivery). (x.number == delivery.number) ≡ false) q.deliveries =
    all_map (λ (x : Delivery). x.number < delivery.number) (λ (x : Delivery). (x.number == delivery.number) ≡ false)
    q.deliveries (λ x less. ne_eqb x.number delivery.number (λ same. omega (arith, less, same)))
    (all_get (AreBelow delivery.number) world.subscribers delivery.sub q below at.1) in
    let here : IsDelivered new.subscribers delivery = (
      r,
      get_set world.subscribers delivery.sub q r at.1,
      found_last (λ (x : Delivery). x.number == delivery.number) q.deliveries
          delivery others (eq-eqb delivery.number delivery.number refl),
    ) in
    move_told schema world new event (reply.Delivery delivery) (out.delivered_by old (Ok delivery) picture).1
    (is ∙ changed_is world delivery.sub (say.delivered delivery) q at.1)
    (inr (inr (inr (inr (inr (inr (inr (inr (inl deliveries)))))))))
    (with_subscriptions schema old (out.delivered_by old (Ok delivery) picture).1 world new
    (h.subscriptions.closing ∙ sym (ap (λ (o : Outline). o.closing) kept))
    (offered_ends world.subscribers delivery.sub q delivery at.1 ∙ h.subscriptions.ends)
    (all_push (IsDelivered new.subscribers) old.deliveries delivery
    (still_offered world.subscribers delivery.sub q r old.deliveries at.1
    (λ d there. found_first (λ (x : Delivery). x.number == d.number) q.deliveries (delivery ∷ []) d there)
    h.subscriptions.deliveries) here)
    (subst (λ n. AllByRecursion (λ (m : ℕ). m < n) world.links) (sym (ap (λ (o : Outline). o.next_link) kept))
    h.subscriptions.links)
    (subst (λ n. AllByRecursion (AreBelow n) new.subscribers) (sym (ap (λ (o : Outline). o.next_delivery) kept))
    (all_set (AreBelow (suc delivery.number)) world.subscribers delivery.sub r later of_one))
    (all_set (BeginsWithoutRows schema) world.subscribers delivery.sub r h.subscriptions.bases
    (all_get (BeginsWithoutRows schema) world.subscribers delivery.sub q h.subscriptions.bases at.1)) h)

took_tells : TakeShows → (schema : List Shape) (old : State) (world : World) (s now : ℕ) (end : Endpoint)
    (answer : Result Delivery DeskRefusal) (picture : Picture)
    → ((made : Delivery) → answer ≡ Ok made → desk.take old.desk s end.link end.cursor now ≡ (Ok made, picture))
    → IsWorld old
    → IsToldBy schema old world → TellingGoes schema world (event.Take s now) (out.delivered_by old answer picture)
took_tells shows schema old world s now end (Err why) picture is good h =
    nothing_told schema world (event.Take s now) (reply.Refused (refusal.Desk why)) old refl h
took_tells shows schema old world s now end (Ok delivery) picture is good h =
    offered_tells schema old world delivery picture (event.Take s now) refl
    (shows old.desk s end.link end.cursor now delivery picture good.picture (is delivery refl)).1 good h

taken_tells : TakeShows → (schema : List Shape) (old : State) (world : World) (s now : ℕ) (found : Option Endpoint)
    → IsWorld old → IsToldBy schema old world
    → TellingGoes schema world (event.Take s now) (out.delivered_for old s now found)
taken_tells shows schema old world s now None good h =
    nothing_told schema world (event.Take s now) (reply.Refused (refusal.Desk NoSuch)) old refl h
taken_tells shows schema old world s now (Some end) good h =
    let call = desk.take old.desk s end.link end.cursor now in
    took_tells shows schema old world s now end (answer_after old.steps call.0) call.1
    (call_after old.steps call) good h

pub take_tells : TakeShows → (schema : List Shape) (old : State) (world : World) (s now : ℕ) → IsWorld old
    → IsToldBy schema old world → TellingGoes schema world (event.Take s now) (out.delivered old s now)
take_tells shows schema old world s now good h =
    taken_tells shows schema old world s now (slice_get old.endpoints s) good h

any_tells : TakeAnyShows → (schema : List Shape) (old : State) (world : World) (now : ℕ)
    (answer : Result Delivery DeskRefusal) (picture : Picture)
    → ((made : Delivery) → answer ≡ Ok made → desk.take_any old.desk now ≡ (Ok made, picture))
    → IsWorld old → IsToldBy schema old world
    → TellingGoes schema world (event.TakeAny now) (out.delivered_by old answer picture)
any_tells shows schema old world now (Err why) picture is good h =
    nothing_told schema world (event.TakeAny now) (reply.Refused (refusal.Desk why)) old refl h
any_tells shows schema old world now (Ok delivery) picture is good h =
    offered_tells schema old world delivery picture (event.TakeAny now) refl
    (shows old.desk now delivery picture good.picture (is delivery refl)) good h

pub take_any_tells : TakeAnyShows → (schema : List Shape) (old : State) (world : World) (now : ℕ) → IsWorld old
    → IsToldBy schema old world → TellingGoes schema world (event.TakeAny now) (out.delivered_any old now)
take_any_tells shows schema old world now good h =
    let call = desk.take_any old.desk now in
    any_tells shows schema old world now (answer_after old.steps call.0) call.1 (call_after old.steps call) good h

-- ---- one is accepted

-- an end that has accepted so far, with these tables
abbrev as_end : Subscriber → ℕ → tables.TableState → Endpoint
as_end q far rows = record {
  start = q.start;
  cursor = far;
  link = q.link;
  closed = q.closed;
  fallen = q.fallen;
  tables = rows;
}

-- what an end accepts: how far it is behind it, and with which tables
pub end_behind : (sequence : List Entry) (q : Subscriber) (delivery : Delivery) (end : Endpoint) → delivery.last
    ≤ length sequence → AcceptsDelivery (endpoint_of q) sequence delivery end
    → endpoint_of (say.with_accepted (brought sequence delivery) q) ≡ end
end_behind sequence q delivery end placed accepts =
    let entries = brought sequence delivery in
    let long = ap length (brought_after sequence delivery (cursor q) accepts.next)
    ∙ part_length sequence (cursor q) delivery.last placed (omega (arith, accepts.some)) in
    let far : q.start + length (q.accepted ++ entries) ≡ delivery.last =
    omega (arith, long, length-append q.accepted entries, accepts.some) in
    let rows : say.if_applied q.tables (single q.tables (group_of (joined_bodies entries))) ≡ end.tables =
    ap (say.if_applied q.tables) accepts.tables in
    ap (λ n. as_end q n (say.if_applied q.tables (single q.tables (group_of (joined_bodies entries))))) far
    ∙ ap (as_end q delivery.last) rows ∙ sym accepts.kept

-- the subscription whose end accepts a delivery that was made to it
pub record AcceptingSubscriber (world : World) (delivery : Delivery) (end after : Endpoint) : Type 0 where
  pub subscriber : Subscriber
  pub found : slice_get world.subscribers delivery.sub ≡ Some subscriber
  pub is : endpoint_of subscriber ≡ end
  pub placed : delivery.last ≤ length world.sequence
  pub accepts : AcceptsDelivery (endpoint_of subscriber) world.sequence delivery after
  pub offered : delivery_told delivery.number subscriber ≡ Some delivery

pub accepting_subscriber : AcceptSteps → (schema : List Shape) (old : State) (world : World) (delivery : Delivery)
    (end after : Endpoint) → accept end old.sequence delivery ≡ Ok after → slice_get old.endpoints delivery.sub
    ≡ Some end
    → IsOf old.endpoints old.sequence delivery → IsDelivered world.subscribers delivery → IsToldBy schema old world
    → AcceptingSubscriber world delivery end after
accepting_subscriber steps schema old world delivery end after is found of offered h =
    let at = subscriber_of_end schema old world delivery.sub end h found in
    let q = at.0 in
    let step = (steps end old.sequence delivery after).0 is in
    let from_q : AcceptsDelivery (endpoint_of q) old.sequence delivery after =
    subst (λ e. AcceptsDelivery e old.sequence delivery after) (sym at.2) step in
    let same : offered.0 ≡ q = cc (sym offered.1 ∙ at.1) in
    record {
      subscriber = q;
      found = at.1;
      is = at.2;
      placed = subst (λ (entries : List Entry). delivery.last ≤ length entries) (sym h.sequence) of.1;
      accepts = subst (λ entries. AcceptsDelivery (endpoint_of q) entries delivery after) (sym h.sequence) from_q;
      offered = subst (λ (x : Subscriber). delivery_told delivery.number x ≡ Some delivery) same offered.2;
    }

-- as a move of the abstract world says it
abbrev pub acceptance_of : (world : World) (delivery : Delivery) (end after : Endpoint)
    → AcceptingSubscriber world delivery end after → Acceptance world
acceptance_of world delivery end after at = record {
  s = delivery.sub;
  subscriber = at.subscriber;
  delivery = delivery;
  end = after;
  found = at.found;
  offered = found_in (λ (x : Delivery). x.number == delivery.number) at.subscriber.deliveries delivery at.offered;
  accepts = at.accepts;
}

-- a delivery that the broker has under this number: it is of a subscription, and it was reported
pub record KnownDelivery (old : State) (world : World) (d : ℕ) (delivery : Delivery) : Type 0 where
  pub of : IsOf old.endpoints old.sequence delivery
  pub reported : IsDelivered world.subscribers delivery
  pub numbered : delivery.number ≡ d

pub known_delivery : (schema : List Shape) (old : State) (world : World) (d : ℕ) (delivery : Delivery)
    → out.delivery_of old d ≡ Some delivery → IsWorld old → IsToldBy schema old world
    → KnownDelivery old world d delivery
known_delivery schema old world d delivery found good h =
    let test = λ (x : Delivery). x.number == d in
    record {
      of = all_find (IsOf old.endpoints old.sequence) test old.deliveries delivery good.are_of found;
      reported = all_find (IsDelivered world.subscribers) test old.deliveries delivery h.subscriptions.deliveries found;
      numbered = eqb-true delivery.number d (find_passes test old.deliveries delivery found);
    }

accepted_tells : AcceptSteps → (schema : List Shape) (old : State) (world : World) (d : ℕ) (delivery : Delivery)
    (end : Endpoint) (answer : Result Endpoint AcceptRefusal) → accept end old.sequence delivery ≡ answer
    → slice_get old.endpoints delivery.sub ≡ Some end → KnownDelivery old world d delivery → IsToldBy schema old world
    → TellingGoes schema world (event.Accept d) (out.accepted_by old delivery.sub answer)
accepted_tells steps schema old world d delivery end (Err why) is found known h =
    nothing_told schema world (event.Accept d) (reply.Refused (refusal.Accept why)) old refl h
accepted_tells steps schema old world d delivery end (Ok after) is found known h =
    let s = delivery.sub in
    let at = accepting_subscriber steps schema old world delivery end after is found known.of known.reported h in
    let q = at.subscriber in
    let entries = brought world.sequence delivery in
    let r = say.with_accepted entries q in
    let new = with_subscriber world s r in
    let rows : r.tables ≡ after.tables = ap (say.if_applied q.tables) at.accepts.tables in
    let takes : Accepts world new = record {
      made = acceptance_of world delivery end after at;
      kept = ap (λ t. with_subscriber world s (record q {
        accepted = q.accepted ++ entries;
        batches = q.batches ++ entries ∷ [];
        tables = t;
      })) rows;
    } in
    let as_d : delivery_told d q ≡ Some delivery =
    subst (λ n. delivery_told n q ≡ Some delivery) known.numbered at.offered in
    let is_new : told schema world (event.Accept d) (reply.Accepted s after.cursor) ≡ new =
    changed_is world s (say.accepted world.sequence d) q at.found
    ∙ ap (λ f. with_subscriber world s (say.accepted_told world.sequence f q)) as_d in
    move_told schema world new (event.Accept d) (reply.Accepted s after.cursor) (with_endpoint old s after) is_new
    (inr (inr (inr (inr (inr (inr (inr (inr (inr (inl takes))))))))))
    (telling_with_both schema old world s q r after at.found refl refl
    (end_behind world.sequence q delivery after at.placed at.accepts) h)

accepted_at_tells : AcceptSteps → (schema : List Shape) (old : State) (world : World) (d : ℕ) (delivery : Delivery)
    (found : Option Endpoint) → slice_get old.endpoints delivery.sub ≡ found → KnownDelivery old world d delivery
    → IsToldBy schema old world → TellingGoes schema world (event.Accept d) (out.accepted_at old delivery found)
accepted_at_tells steps schema old world d delivery None found known h =
    nothing_told schema world (event.Accept d) (reply.Refused refusal.NoDelivery) old refl h
accepted_at_tells steps schema old world d delivery (Some end) found known h =
    accepted_tells steps schema old world d delivery end (accept end old.sequence delivery) refl found known h

accepted_as_tells : AcceptSteps → (schema : List Shape) (old : State) (world : World) (d : ℕ) (found : Option Delivery)
    → out.delivery_of old d ≡ found → IsWorld old → IsToldBy schema old world
    → TellingGoes schema world (event.Accept d) (out.accepted_as old found)
accepted_as_tells steps schema old world d None found good h =
    nothing_told schema world (event.Accept d) (reply.Refused refusal.NoDelivery) old refl h
accepted_as_tells steps schema old world d (Some delivery) found good h =
    accepted_at_tells steps schema old world d delivery (slice_get old.endpoints delivery.sub) refl
    (known_delivery schema old world d delivery found good h) h

pub accept_tells : AcceptSteps → (schema : List Shape) (old : State) (world : World) (d : ℕ) → IsWorld old
    → IsToldBy schema old world → TellingGoes schema world (event.Accept d) (out.accepted old d)
accept_tells steps schema old world d good h =
    accepted_as_tells steps schema old world d (out.delivery_of old d) refl good h

-- ---- what the desk alone knows

-- its outline shows nothing of the call, and nothing is told
by_desk_tells : {A : Type 0} (schema : List Shape) (old : State) (world : World) (event : Event) (given : A → Reply)
    (answer : Result A DeskRefusal) (picture : Picture) → ((a : A) → told schema world event (given a) ≡ world)
    → ((why : DeskRefusal) → told schema world event (reply.Refused (refusal.Desk why)) ≡ world)
    → ((a : A) → answer ≡ Ok a → outline_of picture ≡ outline_of old.desk) → IsToldBy schema old world
    → TellingGoes schema world event (out.by_desk given old answer picture)
by_desk_tells schema old world event given (Err why) picture done refused shown h =
    nothing_told schema world event (reply.Refused (refusal.Desk why)) old (refused why) h
by_desk_tells schema old world event given (Ok a) picture done refused shown h =
    let same = shown a refl in
    nothing_told schema world event (given a) (record old { desk = picture; steps = suc old.steps }) (done a)
    (with_desk schema old world picture (suc old.steps) (ap (λ (o : Outline). o.closing) same)
    (ap (λ (o : Outline). o.next_link) same) (ap (λ (o : Outline). o.next_delivery) same) h)

acked_at_tells : AckShows → (schema : List Shape) (old : State) (world : World) (d : ℕ) (delivery : Delivery)
    (found : Option Endpoint) → IsToldBy schema old world
    → TellingGoes schema world (event.Ack d) (out.acked_at old delivery found)
acked_at_tells shows schema old world d delivery None h =
    nothing_told schema world (event.Ack d) (reply.Refused refusal.NoDelivery) old refl h
acked_at_tells shows schema old world d delivery (Some end) h =
    let call = desk.ack old.desk delivery.sub delivery.link delivery.number end.cursor in
    by_desk_tells schema old world (event.Ack d) reply.Floor (answer_after old.steps call.0) call.1 (λ floor. refl)
    (λ why. refl)
    (λ floor ok. shows old.desk delivery.sub delivery.link delivery.number end.cursor floor call.1
    (call_after old.steps call floor ok)) h

-- what holds of a call about no delivery, and of one about this delivery
for_delivery : (P : Option Delivery → Type 0) (found : Option Delivery) → P None
    → ((delivery : Delivery) → P (Some delivery)) → P found
for_delivery P None none some = none
for_delivery P (Some delivery) none some = some delivery

pub ack_tells : AckShows → (schema : List Shape) (old : State) (world : World) (d : ℕ) → IsToldBy schema old world
    → TellingGoes schema world (event.Ack d) (out.acked old d)
ack_tells shows schema old world d h =
    for_delivery (λ found. TellingGoes schema world (event.Ack d) (out.acked_for old found)) (out.delivery_of old d)
    (nothing_told schema world (event.Ack d) (reply.Refused refusal.NoDelivery) old refl h)
    (λ delivery. acked_at_tells shows schema old world d delivery (slice_get old.endpoints delivery.sub) h)

pub nack_tells : NackShows → (schema : List Shape) (old : State) (world : World) (d : ℕ) → IsToldBy schema old world
    → TellingGoes schema world (event.Nack d) (out.nacked old d)
nack_tells shows schema old world d h =
    for_delivery (λ found. TellingGoes schema world (event.Nack d) (out.nacked_for old found)) (out.delivery_of old d)
    (nothing_told schema world (event.Nack d) (reply.Refused refusal.NoDelivery) old refl h) (λ delivery.
    let call = desk.nack old.desk delivery.sub delivery.link delivery.number in
    by_desk_tells schema old world (event.Nack d) (λ done. reply.Returned) (answer_after old.steps call.0) call.1
    (λ done. refl) (λ why. refl)
    (λ done ok. shows old.desk delivery.sub delivery.link delivery.number call.1 (call_after old.steps call done ok)) h)

pub nack_opened_tells : OpenShows → (schema : List Shape) (old : State) (world : World) (d : ℕ)
    → IsToldBy schema old world → TellingGoes schema world (event.NackOpened d) (out.nacked_opened old d)
nack_opened_tells shows schema old world d h =
    for_delivery (λ found. TellingGoes schema world (event.NackOpened d) (out.opened_for old found))
    (out.delivery_of old d)
    (nothing_told schema world (event.NackOpened d) (reply.Refused refusal.NoDelivery) old refl h) (λ delivery.
    let call = desk.nack_opened old.desk delivery.sub delivery.link delivery.number in
    by_desk_tells schema old world (event.NackOpened d) reply.Opened (answer_after old.steps call.0) call.1
    (λ count. refl) (λ why. refl)
    (λ count ok. shows old.desk delivery.sub delivery.link delivery.number count call.1
    (call_after old.steps call count ok)) h)

pub expire_tells : ExpireShows → (schema : List Shape) (old : State) (world : World) (now : ℕ)
    → IsToldBy schema old world → TellingGoes schema world (event.Expire now) (out.expired old now)
expire_tells shows schema old world now h =
    let call = desk.expire old.desk now in
    by_desk_tells schema old world (event.Expire now) reply.Expired (answer_after old.steps (Ok call.0)) call.1
    (λ many. refl) (λ why. refl) (λ many ok. shows old.desk now call.0 call.1 refl) h
