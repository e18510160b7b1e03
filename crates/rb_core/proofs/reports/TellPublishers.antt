-- What the events of publishers report.
use Rattle.std.proofs.Common.{◌≡◌, ℕ, zero, suc, ◌+◌, inl, inr, List, [], ◌∷◌, ◌++◌, length}
use Rattle.std.proofs.Common.{Option, Some, None, Result, Ok, Err, refl, sym, ap, ◌∙◌, arith}
use Rattle.std.specs.Prelude.{slice_get, nat_le}
use Rattle.std.proofs.lemmas.List.{length-append}
use Rattle.cs_model.specs.Bytes.{AreBytes}
use Rattle.cs_model.specs.Section.{Section}
use Rattle.cs_model.specs.Schema.{refusal_of}
use Rattle.cs_model.specs.declared.origin.Origin.TheVariants.{Sent}
use Rattle.cs_model.specs.declared.schema.SectionFault.{SectionFault}
use Rattle.cs_model.specs.declared.shape.Shape.{Shape}
use Rattle.cs_parse.specs.End as end
use Rattle.cs_parse.specs.declared.fault.ParseFault.{ParseFault}
use Rattle.cs_parse.specs.Progress as stream
use Rattle.cs_parse.specs.Progress.{Progress, Took, nothing, advanced, progress_of}
use Rattle.cs_parse.specs.Reading.{answer_of}
use Rattle.rb_sequence.specs.Item.{Item}
use Rattle.rb_core.specs.declared.event.Event.{Event}
use Rattle.rb_core.specs.declared.event.Event.TheVariants as event
use Rattle.rb_core.specs.declared.publisher.PublisherState.{PublisherState}
use Rattle.rb_core.specs.declared.publisher.Staged.{Staged}
use Rattle.rb_core.specs.declared.reply.Reply.{Reply}
use Rattle.rb_core.specs.declared.reply.Reply.TheVariants as reply
use Rattle.rb_core.specs.declared.reply.BrokerRefusal.TheVariants as refusal
use Rattle.rb_core.specs.Moves.{with_sender, Streams, Sends}
use Rattle.rb_core.specs.Outcome as out
use Rattle.rb_core.specs.Outcome.{with_publisher, fed_reply}
use Rattle.rb_core.specs.State.{State}
use Rattle.rb_core.specs.Told as say
use Rattle.rb_core.specs.Told.{told, IsSender, IsToldBy}
use Rattle.rb_core.specs.World.{Sender, World}
use Rattle.rb_core.proofs.whole_runs.Pairs.{paired_get, paired_set, paired_push}
use Rattle.rb_core.proofs.reports.Telling.{TellingGoes, nothing_told, move_told, either, with_sendings}

-- ---- streams

-- no bytes are read as far as nothing
abbrev pub BeginsWithNothing : Type 0
BeginsWithNothing = progress_of [] ≡ nothing

-- a text with a piece behind it is read as far as the progress leads that was made of the text
abbrev pub ProgressGoesOn : Type 0
ProgressGoesOn = (text piece : List ℕ) → AreBytes (text ++ piece) → progress_of (text ++ piece)
    ≡ advanced (progress_of text) piece

-- how far a text is read tells what reading it answers
abbrev pub ProgressTells : Type 0
ProgressTells = (text : List ℕ) → AreBytes text → stream.answer_at_end (progress_of text) ≡ answer_of text

pub tell_publishers_no_bytes : AreBytes []
tell_publishers_no_bytes i = omega arith

pub more_bytes : (stream bytes : List ℕ) → AreBytes stream → AreBytes bytes → AreBytes (stream ++ bytes)
more_bytes [] bytes h more i = more i
more_bytes (byte ∷ stream) bytes h more zero = h zero
more_bytes (byte ∷ stream) bytes h more (suc i) = more_bytes stream bytes (λ j. h (suc j)) more i

no_text : BeginsWithNothing → Took nothing []
no_text begins = record { bytes = tell_publishers_no_bytes; read = sym begins }

-- a stream that took a text takes the bytes behind it
pub takes_more : (old : Progress) (text bytes : List ℕ) → ProgressGoesOn → Took old text → AreBytes bytes
    → Took (advanced old bytes) (text ++ bytes)
takes_more old text bytes goes took more =
    let both : AreBytes (text ++ bytes) = more_bytes text bytes took.bytes more in
    record { bytes = both; read = ap (λ p. advanced p bytes) took.read ∙ sym (goes text bytes both) }

-- ---- a publisher comes

pub publisher_tells : BeginsWithNothing → (schema : List Shape) (old : State) (world : World)
    → IsToldBy schema old world → TellingGoes schema world event.Publisher (out.publisher_added old)
publisher_tells begins schema old world h =
    let one : PublisherState = record { stream = nothing; staged = None; sent = 0 } in
    let sender : Sender = record { text = []; staged = None; sent = [] } in
    let pair : IsSender one sender = record { stream = no_text begins; staged = refl; sent = refl } in
    let came : State = record old { publishers = old.publishers ++ one ∷ [] } in
    let tells : IsToldBy schema came (say.publisher_added world) =
    with_sendings schema old came world (say.publisher_added world)
    (paired_push IsSender old.publishers world.senders one sender h.senders pair) h.intake h.hand h.sequence h.withdrawn
    h in
    either (TellingGoes schema world event.Publisher) (nat_le 64 (length old.publishers))
    (out.refused old refusal.TooMany) (reply.Publisher (length old.publishers), came)
    (nothing_told schema world event.Publisher (reply.Refused refusal.TooMany) old refl h)
    (move_told schema world (say.publisher_added world) event.Publisher (reply.Publisher (length old.publishers)) came
    refl (inr (inl refl)) tells)

-- ---- a publisher changes

-- it becomes another, and so does what is told of it
pub with_pair : (schema : List Shape) (old : State) (world : World) (p : ℕ) (publisher : PublisherState)
    (sender : Sender) → IsSender publisher sender → IsToldBy schema old world
    → IsToldBy schema (with_publisher old p publisher) (with_sender world p sender)
with_pair schema old world p publisher sender pair h =
    with_sendings schema old (with_publisher old p publisher) world (with_sender world p sender)
    (paired_set IsSender old.publishers world.senders p publisher sender h.senders pair) h.intake h.hand h.sequence
    h.withdrawn h

-- what it sent stays as it was
stages_told : (schema : List Shape) (old : State) (world : World) (event : Event) (given : Reply) (p : ℕ)
    (before after : PublisherState) (change : Sender → Sender)
    → told schema world event given ≡ say.sender_changed world p change → slice_get old.publishers p ≡ Some before
    → ((sender : Sender) → IsSender before sender → IsSender after (change sender))
    → ((sender : Sender) → (change sender).sent ≡ sender.sent) → IsToldBy schema old world
    → TellingGoes schema world event (given, with_publisher old p after)
stages_told schema old world event given p before after change is found pairs same h =
    let at = paired_get IsSender old.publishers world.senders p before h.senders found in
    let sender = at.0 in
    let stages : Streams world (with_sender world p (change sender)) =
    record {
      p = p;
      sender = sender;
      text = (change sender).text;
      staged = (change sender).staged;
      found = at.1;
      kept = ap (λ (items : List Item). with_sender world p (record (change sender) { sent = items })) (same sender);
    } in
    move_told schema world (with_sender world p (change sender)) event given (with_publisher old p after)
    (is ∙ ap (say.sender_set world p change) at.1) (inr (inr (inl stages)))
    (with_pair schema old world p after (change sender) (pairs sender at.2) h)

fed_told : (schema : List Shape) (world : World) (p : ℕ) (bytes : List ℕ) (fault : Option ParseFault)
    → told schema world (event.Feed p bytes) (fed_reply fault) ≡ say.sender_changed world p (say.fed bytes)
fed_told schema world p bytes None = refl
fed_told schema world p bytes (Some fault) = refl

pub feed_tells : ProgressGoesOn → (schema : List Shape) (old : State) (world : World) (p : ℕ) (bytes : List ℕ)
    (found : Option PublisherState) → slice_get old.publishers p ≡ found → AreBytes bytes → IsToldBy schema old world
    → TellingGoes schema world (event.Feed p bytes) (out.fed_by old p bytes found)
feed_tells goes schema old world p bytes None e more h =
    nothing_told schema world (event.Feed p bytes) (reply.Refused refusal.NoPublisher) old refl h
feed_tells goes schema old world p bytes (Some publisher) e more h =
    let next = advanced publisher.stream bytes in
    stages_told schema old world (event.Feed p bytes) (fed_reply next.fault) p publisher
    (record publisher { stream = next }) (say.fed bytes) (fed_told schema world p bytes next.fault) e
    (λ sender pair. record {
      stream = takes_more publisher.stream sender.text bytes goes pair.stream more;
      staged = pair.staged;
      sent = pair.sent;
    }) (λ sender. refl) h

pub reset_tells : BeginsWithNothing
    → (schema : List Shape) (old : State) (world : World) (p : ℕ) (found : Option PublisherState)
    → slice_get old.publishers p ≡ found → IsToldBy schema old world
    → TellingGoes schema world (event.Reset p) (out.reset_by old p found)
reset_tells begins schema old world p None e h =
    nothing_told schema world (event.Reset p) (reply.Refused refusal.NoPublisher) old refl h
reset_tells begins schema old world p (Some publisher) e h =
    stages_told schema old world (event.Reset p) reply.Reset p publisher (record publisher { stream = nothing })
    say.reset refl e
    (λ sender pair. record { stream = no_text begins; staged = pair.staged; sent = pair.sent }) (λ sender. refl) h

-- ---- a stream ends

-- what a text spells is what is staged of it
staged_spells : ProgressTells → (progress : Progress) (text : List ℕ) (changeset : List Section) → Took progress text
    → stream.answer_at_end progress ≡ Ok changeset
    → say.staged_by_text (answer_of text) ≡ Some (record { origin = Sent; body = changeset })
staged_spells tells progress text changeset took ok =
    ap say.staged_by_text (sym (tells text took.bytes) ∙ ap stream.answer_at_end (sym took.read) ∙ ok)

admitted_ends : BeginsWithNothing → ProgressTells
    → (schema : List Shape) (old : State) (world : World) (p : ℕ) (publisher : PublisherState)
    (changeset : List Section) (fault : Option SectionFault)
    → stream.answer_at_end publisher.stream ≡ Ok changeset → slice_get old.publishers p ≡ Some publisher
    → IsToldBy schema old world
    → TellingGoes schema world (event.End p) (out.staged_by old p publisher (end.admitted changeset fault))
admitted_ends begins tells schema old world p publisher changeset None ok e h =
    stages_told schema old world (event.End p) reply.Staged p publisher
    (record publisher { stream = nothing; staged = Some (record { origin = Sent; body = changeset }) }) say.ended refl e
    (λ sender pair. record {
      stream = no_text begins;
      staged = staged_spells tells publisher.stream sender.text
          changeset pair.stream ok;
      sent = pair.sent;
    }) (λ sender. refl) h
admitted_ends begins tells schema old world p publisher changeset (Some fault) ok e h =
    nothing_told schema world (event.End p) (reply.Refused (out.fault_refusal fault)) old refl h

answered_ends : BeginsWithNothing → ProgressTells
    → (schema : List Shape) (old : State) (world : World) (p : ℕ) (publisher : PublisherState)
    (answer : Result (List Section) ParseFault)
    → stream.answer_at_end publisher.stream ≡ answer → slice_get old.publishers p ≡ Some publisher
    → IsToldBy schema old world
    → TellingGoes schema world (event.End p) (out.staged_by old p publisher (end.admitted_answer old.schema answer))
answered_ends begins tells schema old world p publisher (Ok changeset) is e h =
    admitted_ends begins tells schema old world p publisher changeset (refusal_of old.schema changeset) is e h
answered_ends begins tells schema old world p publisher (Err fault) is e h =
    nothing_told schema world (event.End p) (reply.Fault fault) old refl h

holding_ends : BeginsWithNothing → ProgressTells
    → (schema : List Shape) (old : State) (world : World) (p : ℕ) (publisher : PublisherState)
    (staged : Option Staged) → slice_get old.publishers p ≡ Some publisher → IsToldBy schema old world
    → TellingGoes schema world (event.End p) (out.ended_by old p publisher staged)
holding_ends begins tells schema old world p publisher None e h =
    answered_ends begins tells schema old world p publisher (stream.answer_at_end publisher.stream) refl e h
holding_ends begins tells schema old world p publisher (Some staged) e h =
    nothing_told schema world (event.End p) (reply.Refused refusal.Holding) old refl h

pub end_tells : BeginsWithNothing → ProgressTells
    → (schema : List Shape) (old : State) (world : World) (p : ℕ) (found : Option PublisherState)
    → slice_get old.publishers p ≡ found → IsToldBy schema old world
    → TellingGoes schema world (event.End p) (out.ended_for old p found)
end_tells begins tells schema old world p None e h =
    nothing_told schema world (event.End p) (reply.Refused refusal.NoPublisher) old refl h
end_tells begins tells schema old world p (Some publisher) e h =
    holding_ends begins tells schema old world p publisher publisher.staged e h

-- ---- a publisher sends

abbrev sending : ℕ → ℕ → Staged → Item
sending p own staged = record { publisher = p; own = own; origin = staged.origin; body = staged.body }

queued_tells : (schema : List Shape) (old : State) (world : World) (p : ℕ) (publisher : PublisherState)
    (some : Staged) → slice_get old.publishers p ≡ Some publisher → publisher.staged ≡ Some some
    → IsToldBy schema old world
    → TellingGoes schema world (event.Send p) (out.sent_item old p publisher some)
queued_tells schema old world p publisher some e holds h =
    let at = paired_get IsSender old.publishers world.senders p publisher h.senders e in
    let sender = at.0 in
    let own = publisher.sent + 1 in
    let item = sending p own some in
    let staged : sender.staged ≡ Some some = at.2.staged ∙ holds in
    let after : Sender = record sender { staged = None; sent = sender.sent ++ item ∷ [] } in
    let left : PublisherState = record publisher { staged = None; sent = own } in
    let pair : IsSender left after =
    record {
      stream = at.2.stream;
      staged = refl;
      sent = omega (arith, at.2.sent, length-append sender.sent (item ∷ []));
    } in
    let set = with_pair schema old world p left after pair h in
    let number : own ≡ suc (length sender.sent) = omega (arith, at.2.sent) in
    let sends : Sends world (say.with_sent world p sender item) =
    record {
      p = p;
      sender = sender;
      origin = some.origin;
      body = some.body;
      found = at.1;
      staged = staged;
      item = item;
      is = ap (λ n. sending p n some) number;
      kept = refl;
    } in
    let is : say.sent world p own ≡ say.with_sent world p sender item = ap (say.sent_of world p own) at.1
    ∙ ap (say.sent_staged world p own sender) staged in
    move_told schema world (say.with_sent world p sender item) (event.Send p) (reply.Sent own)
    (out.sent_item old p publisher some).1 is (inr (inr (inr (inl sends))))
    (with_sendings schema old (out.sent_item old p publisher some).1 world (say.with_sent world p sender item)
    set.senders (ap (λ items. items ++ item ∷ []) h.intake) h.hand h.sequence h.withdrawn h)

open_tells : (schema : List Shape) (old : State) (world : World) (p : ℕ) (publisher : PublisherState)
    (some : Staged) (closing : Option ℕ) → slice_get old.publishers p ≡ Some publisher → publisher.staged
    ≡ Some some
    → IsToldBy schema old world
    → TellingGoes schema world (event.Send p) (out.sent_while old p publisher some closing)
open_tells schema old world p publisher some (Some last) e holds h =
    nothing_told schema world (event.Send p) (reply.Refused refusal.Closed) old refl h
open_tells schema old world p publisher some None e holds h =
    either (TellingGoes schema world (event.Send p)) (nat_le old.desk.limits.intake (length old.intake))
    (out.refused old refusal.Full) (out.sent_item old p publisher some)
    (nothing_told schema world (event.Send p) (reply.Refused refusal.Full) old refl h)
    (queued_tells schema old world p publisher some e holds h)

holding_tells : (schema : List Shape) (old : State) (world : World) (p : ℕ) (publisher : PublisherState)
    (staged : Option Staged) → slice_get old.publishers p ≡ Some publisher → publisher.staged ≡ staged
    → IsToldBy schema old world
    → TellingGoes schema world (event.Send p) (out.sent_by old p publisher staged)
holding_tells schema old world p publisher None e holds h =
    nothing_told schema world (event.Send p) (reply.Refused refusal.NothingStaged) old refl h
holding_tells schema old world p publisher (Some some) e holds h =
    open_tells schema old world p publisher some old.desk.closing e holds h

pub send_tells : (schema : List Shape) (old : State) (world : World) (p : ℕ) (found : Option PublisherState)
    → slice_get old.publishers p ≡ found → IsToldBy schema old world
    → TellingGoes schema world (event.Send p) (out.sent_for old p found)
send_tells schema old world p None e h =
    nothing_told schema world (event.Send p) (reply.Refused refusal.NoPublisher) old refl h
send_tells schema old world p (Some publisher) e h =
    holding_tells schema old world p publisher publisher.staged e refl h
