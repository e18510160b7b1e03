-- Whatever is answered: where events feed bytes, what they report as staged, sent and placed are changesets.
use Rattle.std.proofs.Common.{◌≡◌, ◌↔◌, ℕ, zero, suc, ◌-◌, List, [], ◌∷◌, Option, Some, None, Result, Ok, Err, refl}
use Rattle.std.specs.Prelude.{IfSome, slice_get}
use Rattle.std.specs.List.{AllByRecursion}
use Rattle.cs_model.proofs.CallerLemmas.{all_push}
use Rattle.cs_model.specs.Bytes.{AreBytes}
use Rattle.cs_model.specs.Changeset.{IsChangeset}
use Rattle.cs_model.specs.declared.shape.Shape.{Shape}
use Rattle.cs_model.specs.Section.{Section}
use Rattle.cs_model.specs.Text.{Spells}
use Rattle.cs_parse.specs.declared.fault.ParseFault.{ParseFault}
use Rattle.cs_parse.specs.Reading.{answer_of}
use Rattle.rb_sequence.specs.Item.{Item}
use Rattle.rb_sequence.specs.Entry.{Entry}
use Rattle.rb_subscriber.specs.Accept.{AreChangesets}
use Rattle.cs_group.proofs.all_tables.Fitting.{group_fits}
use Rattle.cs_group.specs.Group.{group_of}
use Rattle.cs_invert.proofs.inverses.Inverting.{inverse_is_changeset}
use Rattle.cs_invert.specs.Inverse.{withdrawal_of}
use Rattle.rb_core.specs.declared.event.Event.{Event}
use Rattle.rb_core.specs.declared.event.Event.TheVariants as event
use Rattle.rb_core.specs.declared.publisher.Staged.{Staged}
use Rattle.rb_core.specs.declared.reply.Reply.{Reply}
use Rattle.rb_core.specs.declared.reply.Reply.TheVariants as reply
use Rattle.rb_core.specs.Bodies.{HasChangesets, IsBody, IsSound, IsStagedBody}
use Rattle.rb_core.specs.Run.{Answer, FeedsBytes}
use Rattle.rb_core.specs.Told as say
use Rattle.rb_core.specs.Told.{told, told_by, told_from, world_told, staged_by_text}
use Rattle.rb_core.specs.World.{Sender, Subscriber, World, world_begun}
use Rattle.rb_core.proofs.headline.Moving.{all_set, all_get}
use Rattle.rb_core.proofs.reports.TellPublishers.{tell_publishers_no_bytes, more_bytes}

-- ---- publishers

-- what a text spells is a changeset
abbrev pub ReadingSpells : Type 0
ReadingSpells = (text : List ℕ) (changeset : List Section) → AreBytes text
    → (answer_of text ≡ Ok changeset) ↔ Spells text changeset

staged_valid : ReadingSpells → (text : List ℕ) (answer : Result (List Section) ParseFault) → AreBytes text
    → answer_of text ≡ answer → IfSome (staged_by_text answer) IsStagedBody
staged_valid spells text (Ok changeset) bytes is = ((spells text changeset bytes).0 is).is_changeset
staged_valid spells text (Err fault) bytes is = tt

sender_sound : (old : World) (p : ℕ) (change : Sender → Sender) (found : Option Sender) → slice_get old.senders p
    ≡ found → ((sender : Sender) → IsSound sender → IsSound (change sender)) → HasChangesets old
    → HasChangesets (say.sender_set old p change found)
sender_sound old p change None e sound h = h
sender_sound old p change (Some sender) e sound h = record {
  senders = all_set IsSound old.senders p (change sender) h.senders
      (sound sender (all_get IsSound old.senders p sender h.senders e));
  intake = h.intake;
  hand = h.hand;
  sequence = h.sequence;
}

staged_sent : (old : World) (p own : ℕ) (sender : Sender) (staged : Option Staged) → IsSound sender
    → IfSome staged IsStagedBody → HasChangesets old → HasChangesets (say.sent_staged old p own sender staged)
staged_sent old p own sender None sound valid h = h
staged_sent old p own sender (Some staged) sound valid h = record {
  senders = all_set IsSound old.senders p _ h.senders
      (record { bytes = sound.bytes; staged = tt; sent = all_push IsBody sender.sent _ sound.sent valid });
  intake = all_push IsBody old.intake _ h.intake valid;
  hand = h.hand;
  sequence = h.sequence;
}

sent_sound : (old : World) (p own : ℕ) (found : Option Sender) → slice_get old.senders p ≡ found → HasChangesets old
    → HasChangesets (say.sent_of old p own found)
sent_sound old p own None e h = h
sent_sound old p own (Some sender) e h =
    let sound = all_get IsSound old.senders p sender h.senders e in
    staged_sent old p own sender sender.staged sound sound.staged h

-- the withdrawal of a changeset is one
withdrawal_is_changeset : (body : List Section) → IsChangeset body → IsChangeset (withdrawal_of body)
withdrawal_is_changeset body is = inverse_is_changeset (group_of body) (group_fits body is)

entry_withdrawn : (old : World) (p number : ℕ) (sender : Sender) (entry : Option Entry) → IsSound sender
    → IfSome entry (λ (e : Entry). IsChangeset e.item.body) → HasChangesets old
    → HasChangesets (say.withdrawn_entry old p number sender entry)
entry_withdrawn old p number sender None sound body h = h
entry_withdrawn old p number sender (Some entry) sound body h = record {
  senders = all_set IsSound old.senders p _ h.senders
      (record {
        bytes = sound.bytes;
        staged = withdrawal_is_changeset entry.item.body body;
        sent = sound.sent;
      });
  intake = h.intake;
  hand = h.hand;
  sequence = h.sequence;
}

placed_body : (sequence : List Entry) (place : ℕ) → AreChangesets sequence
    → IfSome (slice_get sequence place) (λ (e : Entry). IsChangeset e.item.body)
placed_body [] place bodies = tt
placed_body (entry ∷ sequence) zero bodies = bodies.0
placed_body (entry ∷ sequence) (suc place) bodies = placed_body sequence place bodies.1

withdrawn_sound : (old : World) (p number : ℕ) (found : Option Sender) → slice_get old.senders p ≡ found
    → HasChangesets old → HasChangesets (say.withdrawn_of old p number found)
withdrawn_sound old p number None e h = h
withdrawn_sound old p number (Some sender) e h =
    entry_withdrawn old p number sender (slice_get old.sequence (number - 1))
    (all_get IsSound old.senders p sender h.senders e) (placed_body old.sequence (number - 1) h.sequence) h

-- ---- the sequence

pulled_sound : (old : World) (hand : Option Item) (intake : List Item) → AllByRecursion IsBody intake
    → HasChangesets old → HasChangesets (say.pulled_by old hand intake)
pulled_sound old (Some item) intake bodies h = h
pulled_sound old None [] bodies h = h
pulled_sound old None (item ∷ rest) bodies h =
    record { senders = h.senders; intake = bodies.1; hand = bodies.0; sequence = h.sequence }

placed_sound : (old : World) (number : ℕ) (hand : Option Item) → IfSome hand IsBody → HasChangesets old
    → HasChangesets (say.placed_from old number hand)
placed_sound old number None body h = h
placed_sound old number (Some item) body h = record {
  senders = h.senders;
  intake = h.intake;
  hand = tt;
  sequence = all_push (λ (entry : Entry). IsChangeset entry.item.body) old.sequence _ h.sequence body;
}

-- ---- subscriptions

subscriber_sound : (old : World) (s : ℕ) (change : Subscriber → Subscriber) (found : Option Subscriber)
    → HasChangesets old → HasChangesets (say.subscriber_set old s change found)
subscriber_sound old s change None h = h
subscriber_sound old s change (Some subscriber) h = h

-- ---- all of these

told_sound : ReadingSpells → (schema : List Shape) (old : World) (event : Event) (given : Reply) → FeedsBytes event
    → HasChangesets old → HasChangesets (told schema old event given)
told_sound spells schema old event.Publisher (reply.Publisher p) feeds h = record {
  senders = all_push IsSound old.senders _ h.senders (record { bytes = tell_publishers_no_bytes; staged = tt; sent = tt });
  intake = h.intake;
  hand = h.hand;
  sequence = h.sequence;
}
told_sound spells schema old (event.Feed p bytes) reply.Fed feeds h =
    sender_sound old p (say.fed bytes) (slice_get old.senders p) refl
    (λ sender is. record {
      bytes = more_bytes sender.text bytes is.bytes feeds;
      staged = is.staged;
      sent = is.sent;
    }) h
told_sound spells schema old (event.Feed p bytes) (reply.Fault fault) feeds h =
    sender_sound old p (say.fed bytes) (slice_get old.senders p) refl
    (λ sender is. record {
      bytes = more_bytes sender.text bytes is.bytes feeds;
      staged = is.staged;
      sent = is.sent;
    }) h
told_sound spells schema old (event.Reset p) reply.Reset feeds h =
    sender_sound old p say.reset (slice_get old.senders p) refl
    (λ sender is. record { bytes = tell_publishers_no_bytes; staged = is.staged; sent = is.sent }) h
told_sound spells schema old (event.End p) reply.Staged feeds h =
    sender_sound old p say.ended (slice_get old.senders p) refl (λ sender is. record {
      bytes = tell_publishers_no_bytes;
      staged = staged_valid spells sender.text (answer_of sender.text) is.bytes refl;
      sent = is.sent;
    }) h
told_sound spells schema old (event.Send p) (reply.Sent own) feeds h =
    sent_sound old p own (slice_get old.senders p) refl h
told_sound spells schema old (event.Withdraw p n) reply.Staged feeds h =
    withdrawn_sound old p n (slice_get old.senders p) refl h
told_sound spells schema old event.Turn (reply.Placed number) feeds h =
    let pulled = pulled_sound old old.hand old.intake h.intake h in
    placed_sound (say.pulled old) number (say.pulled old).hand pulled.hand pulled
told_sound spells schema old event.Turn (reply.Refused why) feeds h =
    pulled_sound old old.hand old.intake h.intake h
told_sound spells schema old event.Close (reply.Closed last) feeds h = h
told_sound spells schema old (event.Subscribe start) (reply.Subscriber s link) feeds h = h
told_sound spells schema old (event.SubscribeBare start) (reply.Subscriber s link) feeds h = h
told_sound spells schema old (event.Take s now) (reply.Delivery delivery) feeds h =
    subscriber_sound old delivery.sub (say.delivered delivery) (slice_get old.subscribers delivery.sub) h
told_sound spells schema old (event.TakeAny now) (reply.Delivery delivery) feeds h =
    subscriber_sound old delivery.sub (say.delivered delivery) (slice_get old.subscribers delivery.sub) h
told_sound spells schema old (event.Accept d) (reply.Accepted s last) feeds h =
    subscriber_sound old s (say.accepted old.sequence d) (slice_get old.subscribers s) h
told_sound spells schema old (event.Reconnect s cursor) (reply.Link link) feeds h =
    subscriber_sound old s (say.reconnected link) (slice_get old.subscribers s) h
told_sound spells schema old (event.Unsubscribe s) reply.Unsubscribed feeds h =
    subscriber_sound old s say.unsubscribed (slice_get old.subscribers s) h
told_sound spells schema old (event.Crash d kept) (reply.Crashed s last) feeds h =
    subscriber_sound old s (say.crashed old.sequence d kept) (slice_get old.subscribers s) h
told_sound spells schema old (event.Resume s) (reply.Link link) feeds h =
    subscriber_sound old s (say.resumed link) (slice_get old.subscribers s) h
told_sound spells schema old event given feeds h = h

answer_sound : ReadingSpells → (schema : List Shape) (old : World) (event : Event) (answer : Answer)
    → FeedsBytes event → HasChangesets old → HasChangesets (told_by schema old event answer)
answer_sound spells schema old event (Ok given) feeds h = told_sound spells schema old event given feeds h
answer_sound spells schema old event (Err e) feeds h = h

from_sound : ReadingSpells → (schema : List Shape) (old : World) (events : List Event) (answers : List Answer)
    → AllByRecursion FeedsBytes events → HasChangesets old → HasChangesets (told_from schema old events answers)
from_sound spells schema old [] answers feeds h = h
from_sound spells schema old (event ∷ events) [] feeds h = h
from_sound spells schema old (event ∷ events) (answer ∷ answers) feeds h =
    from_sound spells schema (told_by schema old event answer) events answers feeds.1
    (answer_sound spells schema old event answer feeds.0 h)

pub told_are_changesets : ReadingSpells → (schema : List Shape) (events : List Event) (answers : List Answer)
    → AllByRecursion FeedsBytes events → HasChangesets (world_told schema events answers)
told_are_changesets spells schema events answers feeds =
    from_sound spells schema world_begun events answers feeds
    (record { senders = tt; intake = tt; hand = tt; sequence = tt })
