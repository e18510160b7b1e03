-- What is reported of subscriptions that begin, continue under another link, and are closed.
use Rattle.std.proofs.Common.{◌≡◌, ℕ, suc, ◌+◌, ◌<◌, ◌≤◌, inl, inr, Bool, true, false, List, [], ◌∷◌, ◌++◌, length, map}
use Rattle.std.proofs.Common.{Option, Some, None, Result, Ok, Err, refl, sym, ap, subst, ◌∙◌, arith}
use Rattle.std.specs.Prelude.{⊤, slice_get}
use Rattle.std.specs.List.{AllByRecursion}
use Rattle.std.proofs.lemmas.List.{map-append}
use Rattle.cs_model.proofs.CallerLemmas.{all_push}
use Rattle.cs_model.specs.declared.shape.Shape.{Shape}
use Rattle.rb_desk.specs.Calls as desk
use Rattle.rb_desk.specs.declared.delivery.Delivery.{Delivery}
use Rattle.rb_desk.specs.declared.refusal.DeskRefusal.{DeskRefusal}
use Rattle.rb_desk.specs.declared.refusal.DeskRefusal.TheVariants.{NoSuch}
use Rattle.rb_desk.specs.Outline.{Outline, outline_of, Unsubscribes as LeavesDesk}
use Rattle.rb_desk.specs.Outline as outline
use Rattle.rb_desk.specs.Picture.{Picture}
use Rattle.rb_sequence.specs.Entry.{Entry}
use Rattle.rb_subscriber.specs.Endpoint.{Endpoint, new_endpoint}
use Rattle.rb_core.specs.declared.event.Event.{Event}
use Rattle.rb_core.specs.declared.event.Event.TheVariants as event
use Rattle.rb_core.specs.declared.reply.Reply.TheVariants as reply
use Rattle.rb_core.specs.declared.reply.BrokerRefusal.{BrokerRefusal}
use Rattle.rb_core.specs.declared.reply.BrokerRefusal.TheVariants as refusal
use Rattle.rb_core.specs.Moves.{with_subscriber, IsNew, Subscribes, Reconnects, Unsubscribes}
use Rattle.rb_core.specs.Outcome as out
use Rattle.rb_core.specs.Outcome.{with_endpoint}
use Rattle.rb_core.specs.State.{State, AreTablesBegun, IsWorld, tables_begun}
use Rattle.rb_core.specs.Told as say
use Rattle.rb_core.specs.Told.{told, IsDelivered, AreBelow, IsToldBy}
use Rattle.rb_core.specs.World.{Subscriber, World, endpoint_of, subscriber_begun}
use Rattle.rb_core.proofs.headline.Moving.{all_map, get_push}
use Rattle.rb_core.proofs.reports.Telling.{TellingGoes, nothing_told, move_told, all_new, BeginsWithoutRows, changed_is}
use Rattle.rb_core.proofs.reports.Telling.{with_subscriptions}
use Rattle.rb_desk.proofs.journals.KeepLaws.{call_after}
use Rattle.rb_desk.specs.Journaled.{answer_after}
use Rattle.rb_core.proofs.reports.Telling.{subscriber_of_end, telling_with_both, with_desk, with_link}

-- what the desk shows of one that begins, goes on and ends
abbrev pub SubscribeShows : Type 0
SubscribeShows = (old : Picture) (start s link : ℕ) (new : Picture) → desk.subscribe old start ≡ (Ok (s, link), new)
    → outline.Subscribes (outline_of old) (outline_of new) start s link

abbrev pub ReconnectShows : Type 0
ReconnectShows = (old : Picture) (s cursor link : ℕ) (new : Picture) → desk.reconnect old s cursor ≡ (Ok link, new)
    → outline.Reconnects (outline_of old) (outline_of new) s link

abbrev pub UnsubscribeShows : Type 0
UnsubscribeShows = (old : Picture) (s link : ℕ) (new : Picture) → desk.unsubscribe old s link ≡ (Ok tt, new)
    → LeavesDesk (outline_of old) (outline_of new) s

-- ---- one begins

-- its end
one_end : (keeps : Bool) (schema served : List Shape) (start link : ℕ) → served ≡ schema
    → endpoint_of (subscriber_begun start link (tables_begun keeps schema))
    ≡ new_endpoint start link (tables_begun keeps served)
one_end keeps schema served start link same =
    let nothing : start + 0 ≡ start = omega arith in
    ap (λ n. record (new_endpoint start link (tables_begun keeps schema)) { cursor = n }) nothing
    ∙ ap (λ shapes. new_endpoint start link (tables_begun keeps shapes)) (sym same)

-- its tables
tables_are_begun : (keeps : Bool) (schema : List Shape) → AreTablesBegun schema (tables_begun keeps schema)
tables_are_begun true schema = inl refl
tables_are_begun false schema = inr refl

push_ends : (subs : List Subscriber) (q : Subscriber) (ends : List Endpoint) (end : Endpoint) → map endpoint_of subs
    ≡ ends → endpoint_of q ≡ end → map endpoint_of (subs ++ q ∷ []) ≡ ends ++ end ∷ []
push_ends subs q ends end all is = map-append endpoint_of subs (q ∷ []) ∙ ap (λ es. es ++ endpoint_of q ∷ []) all
    ∙ ap (λ e. ends ++ e ∷ []) is

pushed_offers : (subs : List Subscriber) (q : Subscriber) (deliveries : List Delivery)
    → AllByRecursion (IsDelivered subs) deliveries → AllByRecursion (IsDelivered (subs ++ q ∷ [])) deliveries
pushed_offers subs q deliveries all =
    all_map (IsDelivered subs) (IsDelivered (subs ++ q ∷ [])) deliveries
    (λ d h. (h.0, get_push subs q h.0 d.sub h.1, h.2)) all

-- the event tells of one that begins so, or nothing where it is refused
record TellsBegun (keeps : Bool) (schema : List Shape) (world : World) (event : Event) (start : ℕ) : Type 0 where
  begins : (s link : ℕ) → told schema world event (reply.Subscriber s link)
      ≡ say.subscribed world start link (tables_begun keeps schema)
  refused : (why : BrokerRefusal) → told schema world event (reply.Refused why) ≡ world

subscribed_tells : SubscribeShows → (keeps : Bool) (schema : List Shape) (old : State) (world : World) (event : Event)
    (start : ℕ) (answer : Result (ℕ × ℕ) DeskRefusal) (picture : Picture)
    → TellsBegun keeps schema world event start
    → ((made : ℕ × ℕ) → answer ≡ Ok made → desk.subscribe old.desk start ≡ (Ok made, picture)) → IsWorld old
    → IsToldBy schema old world
    → TellingGoes schema world event (out.subscribed_by old start (tables_begun keeps old.schema) answer picture)
subscribed_tells shows keeps schema old world event start (Err why) picture tells is good h =
    nothing_told schema world event (reply.Refused (refusal.Desk why)) old (tells.refused (refusal.Desk why)) h
subscribed_tells shows keeps schema old world event start (Ok made) picture tells is good h =
    let link = made.1 in
    let shown = shows old.desk start made.0 link picture (is made refl) in
    let kept = shown.kept in
    let base = tables_begun keeps schema in
    let q = subscriber_begun start link base in
    let end = new_endpoint start link (tables_begun keeps old.schema) in
    let new = say.subscribed world start link base in
    let after = (out.subscribed_by old start (tables_begun keeps old.schema) (Ok made) picture).1 in
    let linked =
    (with_link schema old world picture (suc old.steps) link (ap (λ (o : Outline). o.closing) kept) shown.given
    (ap (λ (o : Outline). o.next_link) kept) (ap (λ (o : Outline). o.next_delivery) kept) h).subscriptions in
    let far : old.desk.front ≡ length world.sequence =
    good.front ∙ ap (λ (entries : List Entry). length entries) (sym h.sequence) in
    let fresh : IsNew world.links link =
    all_new link world.links
    (subst (λ n. AllByRecursion (λ (m : ℕ). m < n) world.links) (sym shown.given) h.subscriptions.links) in
    let begins : Subscribes world new =
    record {
      start = start;
      link = link;
      base = base;
      placed = subst (λ n. start ≤ n) far shown.placed;
      new_link = fresh;
      kept = refl;
    } in
    move_told schema world new event (reply.Subscriber made.0 link) after (tells.begins made.0 link)
    (inr (inr (inr (inr (inr (inr (inr (inl begins))))))))
    (with_subscriptions schema old after world new linked.closing
    (push_ends world.subscribers q old.endpoints end h.subscriptions.ends
    (one_end keeps schema old.schema start link h.served))
    (pushed_offers world.subscribers q old.deliveries h.subscriptions.deliveries) linked.links
    (all_push (AreBelow picture.next_delivery) world.subscribers q linked.numbers tt)
    (all_push (BeginsWithoutRows schema) world.subscribers q h.subscriptions.bases (tables_are_begun keeps schema)) h)

pub subscribe_tells : SubscribeShows → (schema : List Shape) (old : State) (world : World) (start : ℕ) → IsWorld old
    → IsToldBy schema old world
    → TellingGoes schema world (event.Subscribe start) (out.subscribed old start (tables_begun true old.schema))
subscribe_tells shows schema old world start good h =
    let call = desk.subscribe old.desk start in
    subscribed_tells shows true schema old world (event.Subscribe start) start (answer_after old.steps call.0) call.1
    (record { begins = λ s link. refl; refused = λ why. refl }) (call_after old.steps call) good h

pub subscribe_bare_tells : SubscribeShows → (schema : List Shape) (old : State) (world : World) (start : ℕ)
    → IsWorld old → IsToldBy schema old world
    → TellingGoes schema world (event.SubscribeBare start) (out.subscribed old start (tables_begun false old.schema))
subscribe_bare_tells shows schema old world start good h =
    let call = desk.subscribe old.desk start in
    subscribed_tells shows false schema old world (event.SubscribeBare start) start (answer_after old.steps call.0)
    call.1 (record { begins = λ s link. refl; refused = λ why. refl }) (call_after old.steps call) good h

-- ---- one goes on under another link

-- a subscription and its end become others under a link that the desk gives: the link is new, and all is as told
pub under_link : (schema : List Shape) (old : State) (world : World) (s link : ℕ) (q r : Subscriber) (end : Endpoint)
    (picture : Picture) → outline.Reconnects (outline_of old.desk) (outline_of picture) s link
    → slice_get world.subscribers s ≡ Some q → r.base ≡ q.base → r.deliveries ≡ q.deliveries → endpoint_of r ≡ end
    → IsToldBy schema old world → IsNew world.links link
    × IsToldBy schema (record (with_endpoint old s end) { desk = picture; steps = suc old.steps })
    (record (with_subscriber world s r) { links = link ∷ world.links })
under_link schema old world s link q r end picture shown found base deliveries is h =
    let kept = shown.kept in (
      all_new link world.links
          (subst (λ n. AllByRecursion (λ (m : ℕ). m < n) world.links) (sym shown.given) h.subscriptions.links),
      with_link schema (with_endpoint old s end) (with_subscriber world s r) picture (suc old.steps) link
          (ap (λ (o : Outline). o.closing) kept) shown.given (ap (λ (o : Outline). o.next_link) kept)
          (ap (λ (o : Outline). o.next_delivery) kept)
          (telling_with_both schema old world s q r end found base deliveries is h),
    )

abbrev tell_subscriptions_under : ℕ → Endpoint → Endpoint
tell_subscriptions_under link end = record end { link = link }

linked_tells : ReconnectShows → (schema : List Shape) (old : State) (world : World) (s cursor : ℕ) (end : Endpoint)
    (answer : Result ℕ DeskRefusal) (picture : Picture)
    → ((link : ℕ) → answer ≡ Ok link → desk.reconnect old.desk s cursor ≡ (Ok link, picture))
    → slice_get old.endpoints s ≡ Some end → IsWorld old → IsToldBy schema old world
    → TellingGoes schema world (event.Reconnect s cursor) (out.reconnected_with old s end answer picture)
linked_tells shows schema old world s cursor end (Err why) picture is found good h =
    nothing_told schema world (event.Reconnect s cursor) (reply.Refused (refusal.Desk why)) old refl h
linked_tells shows schema old world s cursor end (Ok link) picture is found good h =
    let at = subscriber_of_end schema old world s end h found in
    let q = at.0 in
    let r : Subscriber = record q { link = link } in
    let linked = under_link schema old world s link q r (tell_subscriptions_under link end) picture
    (shows old.desk s cursor link picture (is link refl)) at.1 refl refl (ap (tell_subscriptions_under link) at.2) h
    in
    let new : World = record (with_subscriber world s r) { links = link ∷ world.links } in
    let reconnects : Reconnects world new =
    record { s = s; subscriber = q; link = link; found = at.1; new_link = linked.0; kept = refl } in
    let is_new : told schema world (event.Reconnect s cursor) (reply.Link link) ≡ new =
    ap (λ (w : World). record w { links = link ∷ world.links })
    (changed_is world s (say.reconnected link) q at.1) in
    move_told schema world new (event.Reconnect s cursor) (reply.Link link)
    (out.reconnected_with old s end (Ok link) picture).1 is_new
    (inr (inr (inr (inr (inr (inr (inr (inr (inr (inr (inl reconnects))))))))))) linked.1

reconnected_tells : ReconnectShows → (schema : List Shape) (old : State) (world : World) (s cursor : ℕ)
    (found : Option Endpoint) → slice_get old.endpoints s ≡ found → IsWorld old → IsToldBy schema old world
    → TellingGoes schema world (event.Reconnect s cursor) (out.reconnected_for old s cursor found)
reconnected_tells shows schema old world s cursor None found good h =
    nothing_told schema world (event.Reconnect s cursor) (reply.Refused (refusal.Desk NoSuch)) old refl h
reconnected_tells shows schema old world s cursor (Some end) found good h =
    let call = desk.reconnect old.desk s cursor in
    linked_tells shows schema old world s cursor end (answer_after old.steps call.0) call.1
    (call_after old.steps call) found good h

pub reconnect_tells : ReconnectShows → (schema : List Shape) (old : State) (world : World) (s cursor : ℕ) → IsWorld old
    → IsToldBy schema old world → TellingGoes schema world (event.Reconnect s cursor) (out.reconnected old s cursor)
reconnect_tells shows schema old world s cursor good h =
    reconnected_tells shows schema old world s cursor (slice_get old.endpoints s) refl good h

-- ---- one ends

abbrev tell_subscriptions_ended : Endpoint → Endpoint
tell_subscriptions_ended end = record end { closed = true }

left_tells : UnsubscribeShows → (schema : List Shape) (old : State) (world : World) (s : ℕ) (end : Endpoint)
    (answer : Result ⊤ DeskRefusal) (picture : Picture)
    → ((done : ⊤) → answer ≡ Ok done → desk.unsubscribe old.desk s end.link ≡ (Ok done, picture))
    → slice_get old.endpoints s ≡ Some end → IsToldBy schema old world
    → TellingGoes schema world (event.Unsubscribe s) (out.unsubscribed_with old s end answer picture)
left_tells shows schema old world s end (Err why) picture is found h =
    nothing_told schema world (event.Unsubscribe s) (reply.Refused (refusal.Desk why)) old refl h
left_tells shows schema old world s end (Ok done) picture is found h =
    let shown = shows old.desk s end.link picture (is done refl) in
    let kept = shown.kept in
    let at = subscriber_of_end schema old world s end h found in
    let q = at.0 in
    let r : Subscriber = record q { closed = true } in
    let other : Endpoint = record end { closed = true } in
    let set = telling_with_both schema old world s q r other at.1 refl refl (ap tell_subscriptions_ended at.2) h in
    let new = with_subscriber world s r in
    let tells = with_desk schema (with_endpoint old s other) new picture (suc old.steps)
    (ap (λ (o : Outline). o.closing) kept) (ap (λ (o : Outline). o.next_link) kept)
    (ap (λ (o : Outline). o.next_delivery) kept) set in
    let leaves : Unsubscribes world new = record { s = s; subscriber = q; found = at.1; kept = refl } in
    move_told schema world new (event.Unsubscribe s) reply.Unsubscribed
    (out.unsubscribed_with old s end (Ok done) picture).1 (changed_is world s say.unsubscribed q at.1)
    (inr (inr (inr (inr (inr (inr (inr (inr (inr (inr (inr (inl leaves)))))))))))) tells

unsubscribed_tells : UnsubscribeShows
    → (schema : List Shape) (old : State) (world : World) (s : ℕ) (found : Option Endpoint) → slice_get old.endpoints s
    ≡ found → IsToldBy schema old world
    → TellingGoes schema world (event.Unsubscribe s) (out.unsubscribed_for old s found)
unsubscribed_tells shows schema old world s None found h =
    nothing_told schema world (event.Unsubscribe s) (reply.Refused (refusal.Desk NoSuch)) old refl h
unsubscribed_tells shows schema old world s (Some end) found h =
    let call = desk.unsubscribe old.desk s end.link in
    left_tells shows schema old world s end (answer_after old.steps call.0) call.1 (call_after old.steps call) found h

pub unsubscribe_tells : UnsubscribeShows → (schema : List Shape) (old : State) (world : World) (s : ℕ)
    → IsToldBy schema old world → TellingGoes schema world (event.Unsubscribe s) (out.unsubscribed old s)
unsubscribe_tells shows schema old world s h =
    unsubscribed_tells shows schema old world s (slice_get old.endpoints s) refl h
