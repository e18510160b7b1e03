-- The tables that subscriptions begin with are those asked for, in order.
use Rattle.std.proofs.Common.{◌≡◌, ℕ, zero, suc, Bool, true, false, List, [], ◌∷◌, ◌++◌, map}
use Rattle.std.proofs.Common.{Option, Some, None, Ok, Err, option_map, refl, sym, ap, ◌∙◌}
use Rattle.std.proofs.lemmas.List.{append_assoc, append-nil, map-append}
use Rattle.std.proofs.lemmas.Option.{slice_get-map}
use Rattle.std.specs.Prelude.{slice_get, slice_set, ◌-◌}
use Rattle.cs_apply.specs.State.{TableState}
use Rattle.cs_model.specs.declared.shape.Shape.{Shape}
use Rattle.rb_desk.specs.declared.delivery.Delivery.{Delivery}
use Rattle.rb_sequence.specs.Entry.{Entry}
use Rattle.rb_sequence.specs.Item.{Item}
use Rattle.rb_core.specs.declared.event.Event.{Event}
use Rattle.rb_core.specs.declared.event.Event.TheVariants as event
use Rattle.rb_core.specs.declared.publisher.Staged.{Staged}
use Rattle.rb_core.specs.declared.reply.Reply.{Reply}
use Rattle.rb_core.specs.declared.reply.Reply.TheVariants as reply
use Rattle.rb_core.specs.Run.{Answer}
use Rattle.rb_core.specs.State.{bare_tables, empty_tables}
use Rattle.rb_core.specs.Told as say
use Rattle.rb_core.specs.Told.{all_tables_asked, tables_asked, told, told_by, told_from, world_told}
use Rattle.rb_core.specs.World.{Sender, Subscriber, World, subscriber_begun, world_begun}

abbrev base_of : Subscriber → TableState
base_of q = q.base

abbrev bases : World → List TableState
bases world = map base_of world.subscribers

-- ---- publishers and the sequence

sender_bases : (old : World) (p : ℕ) (change : Sender → Sender) (found : Option Sender)
    → bases (say.sender_set old p change found) ≡ bases old
sender_bases old p change None = refl
sender_bases old p change (Some sender) = refl

staged_bases : (old : World) (p own : ℕ) (sender : Sender) (staged : Option Staged)
    → bases (say.sent_staged old p own sender staged) ≡ bases old
staged_bases old p own sender None = refl
staged_bases old p own sender (Some staged) = refl

sent_bases : (old : World) (p own : ℕ) (found : Option Sender)
    → bases (say.sent_of old p own found) ≡ bases old
sent_bases old p own None = refl
sent_bases old p own (Some sender) = staged_bases old p own sender sender.staged

entry_bases : (old : World) (p n : ℕ) (sender : Sender) (entry : Option Entry)
    → bases (say.withdrawn_entry old p n sender entry) ≡ bases old
entry_bases old p n sender None = refl
entry_bases old p n sender (Some entry) = refl

withdrawn_bases : (old : World) (p n : ℕ) (found : Option Sender)
    → bases (say.withdrawn_of old p n found) ≡ bases old
withdrawn_bases old p n None = refl
withdrawn_bases old p n (Some sender) =
    entry_bases old p n sender (slice_get old.sequence (n - 1))

pulled_bases : (old : World) (hand : Option Item) (intake : List Item)
    → bases (say.pulled_by old hand intake) ≡ bases old
pulled_bases old (Some item) intake = refl
pulled_bases old None [] = refl
pulled_bases old None (item ∷ rest) = refl

placed_bases : (old : World) (n : ℕ) (hand : Option Item)
    → bases (say.placed_from old n hand) ≡ bases old
placed_bases old n None = refl
placed_bases old n (Some item) = refl

-- ---- subscriptions

set_bases : (subscribers : List Subscriber) (s : ℕ) (q new : Subscriber)
    → slice_get subscribers s ≡ Some q → new.base ≡ q.base
    → map base_of (slice_set subscribers s new) ≡ map base_of subscribers
set_bases [] s q new found same = refl
set_bases (x ∷ subscribers) zero q new found same =
    let here : x ≡ q = cc found in
    ap (λ base. base ∷ map base_of subscribers) (same ∙ ap base_of (sym here))
set_bases (x ∷ subscribers) (suc s) q new found same =
    ap (λ others. x.base ∷ others) (set_bases subscribers s q new found same)

changed_bases : (old : World) (s : ℕ) (change : Subscriber → Subscriber) (found : Option Subscriber)
    → slice_get old.subscribers s ≡ found → ((q : Subscriber) → (change q).base ≡ q.base)
    → bases (say.subscriber_set old s change found) ≡ bases old
changed_bases old s change None is same = refl
changed_bases old s change (Some q) is same = set_bases old.subscribers s q (change q) is (same q)

accepted_base : (sequence : List Entry) (found : Option Delivery) (q : Subscriber)
    → (say.accepted_told sequence found q).base ≡ q.base
accepted_base sequence None q = refl
accepted_base sequence (Some delivery) q = refl

crashed_base : (sequence : List Entry) (d : ℕ) (kept : Bool) (q : Subscriber)
    → (say.crashed sequence d kept q).base ≡ q.base
crashed_base sequence d true q = accepted_base sequence (say.delivery_told d q) q
crashed_base sequence d false q = refl

-- ---- all of these

-- where none are asked for, nothing comes behind
none_asked : (old new : List TableState) → new ≡ old → new ≡ old ++ []
none_asked old new same = same ∙ sym (append-nil old)

told_bases : (schema : List Shape) (old : World) (event : Event) (given : Reply)
    → bases (told schema old event given) ≡ bases old ++ tables_asked schema event (Ok given)
told_bases schema old event.Publisher (reply.Publisher p) = none_asked (bases old) (bases old) refl
told_bases schema old (event.Feed p bytes) reply.Fed =
    none_asked (bases old) _ (sender_bases old p (say.fed bytes) (slice_get old.senders p))
told_bases schema old (event.Feed p bytes) (reply.Fault fault) =
    none_asked (bases old) _ (sender_bases old p (say.fed bytes) (slice_get old.senders p))
told_bases schema old (event.Reset p) reply.Reset =
    none_asked (bases old) _ (sender_bases old p say.reset (slice_get old.senders p))
told_bases schema old (event.End p) reply.Staged =
    none_asked (bases old) _ (sender_bases old p say.ended (slice_get old.senders p))
told_bases schema old (event.Send p) (reply.Sent own) =
    none_asked (bases old) _ (sent_bases old p own (slice_get old.senders p))
told_bases schema old (event.Withdraw p n) reply.Staged =
    none_asked (bases old) _ (withdrawn_bases old p n (slice_get old.senders p))
told_bases schema old event.Turn (reply.Placed n) =
    none_asked (bases old) _
    (placed_bases (say.pulled old) n (say.pulled old).hand ∙ pulled_bases old old.hand old.intake)
told_bases schema old event.Turn (reply.Refused why) =
    none_asked (bases old) _ (pulled_bases old old.hand old.intake)
told_bases schema old event.Close (reply.Closed last) = none_asked (bases old) (bases old) refl
told_bases schema old (event.Subscribe start) (reply.Subscriber s link) =
    map-append base_of old.subscribers (subscriber_begun start link (empty_tables schema) ∷ [])
told_bases schema old (event.SubscribeBare start) (reply.Subscriber s link) =
    map-append base_of old.subscribers (subscriber_begun start link (bare_tables schema) ∷ [])
told_bases schema old (event.Take s now) (reply.Delivery delivery) =
    none_asked (bases old) _
    (changed_bases old delivery.sub (say.delivered delivery)
    (slice_get old.subscribers delivery.sub) refl (λ q. refl))
told_bases schema old (event.TakeAny now) (reply.Delivery delivery) =
    none_asked (bases old) _
    (changed_bases old delivery.sub (say.delivered delivery)
    (slice_get old.subscribers delivery.sub) refl (λ q. refl))
told_bases schema old (event.Accept d) (reply.Accepted s last) =
    none_asked (bases old) _
    (changed_bases old s (say.accepted old.sequence d) (slice_get old.subscribers s) refl
    (λ q. accepted_base old.sequence (say.delivery_told d q) q))
told_bases schema old (event.Reconnect s cursor) (reply.Link link) =
    none_asked (bases old) _
    (changed_bases old s (say.reconnected link) (slice_get old.subscribers s) refl (λ q. refl))
told_bases schema old (event.Unsubscribe s) reply.Unsubscribed =
    none_asked (bases old) _
    (changed_bases old s say.unsubscribed (slice_get old.subscribers s) refl (λ q. refl))
told_bases schema old (event.Crash d kept) (reply.Crashed s last) =
    none_asked (bases old) _
    (changed_bases old s (say.crashed old.sequence d kept) (slice_get old.subscribers s) refl
    (crashed_base old.sequence d kept))
told_bases schema old (event.Resume s) (reply.Link link) =
    none_asked (bases old) _
    (changed_bases old s (say.resumed link) (slice_get old.subscribers s) refl (λ q. refl))
told_bases schema old event given = none_asked (bases old) (bases old) refl

answer_bases : (schema : List Shape) (old : World) (event : Event) (answer : Answer)
    → bases (told_by schema old event answer) ≡ bases old ++ tables_asked schema event answer
answer_bases schema old event (Ok given) = told_bases schema old event given
answer_bases schema old (event.Subscribe start) (Err e) = none_asked (bases old) (bases old) refl
answer_bases schema old (event.SubscribeBare start) (Err e) =
    none_asked (bases old) (bases old) refl
answer_bases schema old event (Err e) = none_asked (bases old) (bases old) refl

from_bases : (schema : List Shape) (old : World) (events : List Event) (answers : List Answer)
    → bases (told_from schema old events answers)
    ≡ bases old ++ all_tables_asked schema events answers
from_bases schema old [] answers = none_asked (bases old) (bases old) refl
from_bases schema old (event ∷ events) [] = none_asked (bases old) (bases old) refl
from_bases schema old (event ∷ events) (answer ∷ answers) =
    from_bases schema (told_by schema old event answer) events answers
    ∙ (ap (λ begun. begun ++ all_tables_asked schema events answers)
    (answer_bases schema old event answer)
    ∙ append_assoc (bases old) (tables_asked schema event answer)
    (all_tables_asked schema events answers))

pub bases_are_asked : (schema : List Shape) (events : List Event) (answers : List Answer)
    → map (λ q. q.base) (world_told schema events answers).subscribers
    ≡ all_tables_asked schema events answers
bases_are_asked schema events answers = from_bases schema world_begun events answers

-- the tables that one subscription began with
pub asked_at : (subscribers : List Subscriber) (asked : List TableState) (s : ℕ) (subscriber : Subscriber)
    → map (λ (q : Subscriber). q.base) subscribers ≡ asked → slice_get subscribers s ≡ Some subscriber
    → slice_get asked s ≡ Some subscriber.base
asked_at subscribers asked s subscriber all found =
    ap (λ tables. slice_get tables s) (sym all) ∙ (slice_get-map base_of subscribers s ∙ ap (option_map base_of) found)
