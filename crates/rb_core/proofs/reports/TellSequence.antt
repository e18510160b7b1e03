-- What a turn reports, and what a close reports.
use Rattle.std.proofs.Common.{◌≡◌, ℕ, suc, ◌<◌, inl, inr, List, [], ◌∷◌, ◌++◌, length, Option, Some, None, Result, Ok}
use Rattle.std.proofs.Common.{Err, refl, sym, ap, subst, ◌∙◌}
use Rattle.std.specs.Prelude.{IfSome}
use Rattle.std.specs.List.{AllByRecursion}
use Rattle.cs_model.specs.declared.shape.Shape.{Shape}
use Rattle.rb_desk.specs.Calls as desk
use Rattle.rb_desk.specs.declared.refusal.DeskRefusal.{DeskRefusal}
use Rattle.rb_desk.specs.IsPicture.{IsPicture}
use Rattle.rb_desk.specs.Outline.{Outline, outline_of, Places as PlacesOne, Closes as EndsAll}
use Rattle.rb_desk.specs.Picture.{Picture}
use Rattle.rb_sequence.specs.Item.{Item}
use Rattle.rb_sequence.specs.Entry.{Entry}
use Rattle.rb_core.specs.declared.event.Event.TheVariants as event
use Rattle.rb_core.specs.declared.reply.Reply.TheVariants as reply
use Rattle.rb_core.specs.Moves.{Pulls, Places, Closes, Moves}
use Rattle.rb_core.specs.Outcome as out
use Rattle.rb_core.specs.State.{State, IsWorld}
use Rattle.rb_core.specs.Told as say
use Rattle.rb_core.specs.Told.{told, AreBelow, IsToldBy}
use Rattle.rb_core.specs.World.{World}
use Rattle.rb_core.proofs.reports.Telling.{Course, IsTold, no_move, one_move, both_courses, TellingGoes, nothing_told}
use Rattle.rb_desk.proofs.journals.KeepLaws.{call_after}
use Rattle.rb_desk.specs.Journaled.{answer_after}
use Rattle.rb_core.proofs.reports.Telling.{move_told, with_sendings, with_subscriptions, with_desk}

-- what the desk shows of a placement, and of the end
abbrev pub PlaceShows : Type 0
PlaceShows = (old : Picture) (number : ℕ) → desk.prepare old ≡ Ok number
    → PlacesOne (outline_of old) (outline_of (desk.place old)) number

abbrev pub CloseShows : Type 0
CloseShows = (old : Picture) (last : ℕ) (new : Picture) → IsPicture old → desk.close old ≡ (last, new)
    → EndsAll (outline_of old) (outline_of new) last

-- ---- an empty hand

-- what the broker has once an empty hand took the first item that waits
abbrev with_taken : State → Option Item → List Item → State
with_taken old hand intake = record old { hand = hand; intake = intake }

still_tells : (schema : List Shape) (old : State) (world : World) (hand : Option Item) (intake : List Item) → old.hand
    ≡ hand → old.intake ≡ intake → IsToldBy schema old world → IsToldBy schema (with_taken old hand intake) world
still_tells schema old world hand intake in_hand waits h =
    with_sendings schema old (with_taken old hand intake) world world h.senders (h.intake ∙ waits) (h.hand ∙ in_hand)
    h.sequence h.withdrawn h

-- what is pulled is told, by what is in hand and what waits
pulled_by_tells : (schema : List Shape) (old : State) (world : World) (hand : Option Item) (intake : List Item)
    → old.hand ≡ hand → old.intake ≡ intake → IsToldBy schema old world
    → IsTold schema world (with_taken old (out.hand_of hand intake) (out.rest_of hand intake))
    (say.pulled_by world hand intake)
pulled_by_tells schema old world (Some item) intake in_hand waits h =
    (no_move world world refl, still_tells schema old world (Some item) intake in_hand waits h)
pulled_by_tells schema old world None [] in_hand waits h =
    (no_move world world refl, still_tells schema old world None [] in_hand waits h)
pulled_by_tells schema old world None (item ∷ rest) in_hand waits h =
    let pulls : Pulls world (say.pulled_by world None (item ∷ rest)) =
    record { item = item; rest = rest; empty = h.hand ∙ in_hand; first = h.intake ∙ waits; kept = refl } in
    let tells : IsToldBy schema (with_taken old (Some item) rest) (say.pulled_by world None (item ∷ rest)) =
    with_sendings schema old (with_taken old (Some item) rest) world (say.pulled_by world None (item ∷ rest)) h.senders
    refl refl h.sequence h.withdrawn h in
    (one_move world (say.pulled_by world None (item ∷ rest)) (inr (inr (inr (inr (inl pulls))))), tells)

-- what was told and the broker have the same in hand, and the same waits
pulled_tells : (schema : List Shape) (old : State) (world : World) → IsToldBy schema old world
    → IsTold schema world (out.pulled old) (say.pulled world)
pulled_tells schema old world h =
    let in_hand : say.pulled_by world old.hand old.intake ≡ say.pulled_by world world.hand old.intake =
    ap (λ hand. say.pulled_by world hand old.intake) (sym h.hand) in
    let waits : say.pulled_by world world.hand old.intake ≡ say.pulled world =
    ap (say.pulled_by world world.hand) (sym h.intake) in
    subst (IsTold schema world (out.pulled old)) (in_hand ∙ waits)
    (pulled_by_tells schema old world old.hand old.intake refl refl h)

-- where nothing is in hand behind it nothing was pulled
idle : (world : World) (hand : Option Item) (intake : List Item) → world.hand ≡ hand
    → (say.pulled_by world hand intake).hand ≡ None → world ≡ say.pulled_by world hand intake
idle world (Some item) intake in_hand none = refl
idle world None [] in_hand none = refl
idle world None (item ∷ rest) in_hand none = absurd (let some : Some item ≡ None = none in cc)

-- ---- a turn

placed_tells : PlaceShows → (schema : List Shape) (world : World) (mid : State) (item : Item)
    (answer : Result ℕ DeskRefusal) → mid.desk.front ≡ length mid.sequence → mid.hand ≡ Some item
    → ((number : ℕ) → answer ≡ Ok number → desk.prepare mid.desk ≡ Ok number)
    → Course world (say.pulled world) → IsToldBy schema mid (say.pulled world)
    → TellingGoes schema world event.Turn (out.placed mid item answer)
placed_tells shows schema world mid item (Err why) front in_hand is course h = (course, h)
placed_tells shows schema world mid item (Ok number) front in_hand is course h =
    let pulled = say.pulled world in
    let shown = shows mid.desk number (is number refl) in
    let kept = shown.kept in
    let holds : pulled.hand ≡ Some item = h.hand ∙ in_hand in
    let new = say.placed_from pulled number (Some item) in
    let next : number ≡ suc (length pulled.sequence) =
    shown.next ∙ ap suc (front ∙ ap (λ (entries : List Entry). length entries) (sym h.sequence)) in
    let entry : ℕ → Entry = λ n. record { number = n; item = item } in
    let places : Places pulled new =
    record {
      item = item;
      held = holds;
      not_closed = h.subscriptions.closing
          ∙ shown.not_closed;
      kept = ap (λ n. say.placed_from pulled n (Some item)) next;
    } in
    let is_new : say.placed pulled number ≡ new = ap (say.placed_from pulled number) holds in
    let after = (out.placed mid item (Ok number)).1 in
    let sent = with_sendings schema mid after pulled new h.senders h.intake refl
    (ap (λ entries. entries ++ entry number ∷ []) h.sequence) h.withdrawn h in
    let tells : IsToldBy schema after new =
    with_desk schema _ new after.desk after.steps (ap (λ (o : Outline). o.closing) kept)
    (ap (λ (o : Outline). o.next_link) kept) (ap (λ (o : Outline). o.next_delivery) kept) sent in (
      subst (Course world) (sym is_new)
          (both_courses world pulled new course (one_move pulled new (inr (inr (inr (inr (inr (inl places)))))))),
      subst (IsToldBy schema after) (sym is_new) tells,
    )

turned_tells : PlaceShows → (schema : List Shape) (world : World) (mid : State) (hand : Option Item) → mid.desk.front
    ≡ length mid.sequence → mid.hand ≡ hand → Course world (say.pulled world) → IsToldBy schema mid (say.pulled world)
    → TellingGoes schema world event.Turn (out.turned_with mid hand)
turned_tells shows schema world mid None front in_hand course h =
    let same = idle world world.hand world.intake refl (h.hand ∙ in_hand) in
    nothing_told schema world event.Turn reply.Idle mid refl (subst (IsToldBy schema mid) (sym same) h)
turned_tells shows schema world mid (Some item) front in_hand course h =
    placed_tells shows schema world mid item (answer_after mid.steps (desk.prepare mid.desk)) front in_hand
    (λ number is. ap (λ (r : Result ℕ DeskRefusal × Picture). r.0)
    (call_after mid.steps (desk.prepare mid.desk, mid.desk) number is)) course h

pub turn_tells : PlaceShows → (schema : List Shape) (old : State) (world : World) → IsWorld old
    → IsToldBy schema old world → TellingGoes schema world event.Turn (out.turned old)
turn_tells shows schema old world good h =
    let pulled = pulled_tells schema old world h in
    turned_tells shows schema world (out.pulled old) (out.pulled old).hand good.front refl pulled.0 pulled.1

-- ---- the end

abbrev ended_with : World → Option ℕ → World
ended_with world closing = record world { closing = closing }

-- the sequence ends with its last number, or ended so before
ends_told : (world : World) (front last : ℕ) (closing : Option ℕ) → world.closing ≡ closing
    → IfSome closing (λ n. n ≡ front) → last ≡ front → front ≡ length world.sequence
    → Moves world (ended_with world (Some last))
ends_told world front last None is so far all =
    let ends : Closes world (ended_with world (Some last)) =
    record { not_closed = is; kept = ap (λ n. ended_with world (Some n)) (far ∙ all) } in
    inr (inr (inr (inr (inr (inr (inl ends))))))
ends_told world front last (Some before) is so far all = inl (ap (ended_with world) (ap Some (far ∙ sym so) ∙ sym is))

pub close_tells : CloseShows → (schema : List Shape) (old : State) (world : World) → IsWorld old
    → IsToldBy schema old world → TellingGoes schema world event.Close (out.closed old)
close_tells shows schema old world good h =
    let last = (desk.close old.desk).0 in
    let new = (desk.close old.desk).1 in
    let shown = shows old.desk last new good.picture refl in
    let kept = shown.kept in
    let moves = ends_told world old.desk.front last old.desk.closing h.subscriptions.closing good.picture.closed
    shown.front (good.front ∙ ap (λ (entries : List Entry). length entries) (sym h.sequence)) in
    let closed = (out.closed old).1 in
    move_told schema world (ended_with world (Some last)) event.Close (reply.Closed last) closed refl moves
    (with_subscriptions schema old closed world (ended_with world (Some last))
    (sym (ap (λ (o : Outline). o.closing) kept)) h.subscriptions.ends h.subscriptions.deliveries
    (subst (λ n. AllByRecursion (λ (m : ℕ). m < n) world.links) (sym (ap (λ (o : Outline). o.next_link) kept))
    h.subscriptions.links)
    (subst (λ n. AllByRecursion (AreBelow n) world.subscribers) (sym (ap (λ (o : Outline). o.next_delivery) kept))
    h.subscriptions.numbers) h.subscriptions.bases h)
