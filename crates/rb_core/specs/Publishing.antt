-- What an event of a publisher does: the reply, and the world after it.
use Rattle.std.specs.Prelude.{ℕ, ◌+◌, List, [], ◌∷◌, ◌++◌, length}
use Rattle.std.specs.Prelude.{Option, Some, None, Result, Ok, Err, ◌==◌, slice_get, slice_set}
use Rattle.std.specs.Prelude.{if◌then◌else◌, nat_le, ◌-◌, not}
use Rattle.std.specs.List.{find}
use Rattle.cs_model.specs.Section.{Section}
use Rattle.cs_invert.specs.Inverse.{withdrawal_of}
use Rattle.cs_model.specs.declared.origin.Origin.TheVariants.{Sent, Withdraws}
use Rattle.cs_model.specs.declared.schema.SectionFault.{SectionFault}
use Rattle.cs_model.specs.declared.schema.SectionFault.TheVariants.{UnknownTable as Unknown}
use Rattle.cs_model.specs.declared.schema.SectionFault.TheVariants.{ShapeDiffers as Differs}
use Rattle.cs_parse.specs.declared.end.EndError.{EndError}
use Rattle.cs_parse.specs.declared.end.EndError.TheVariants as end_error
use Rattle.cs_parse.specs.declared.fault.ParseFault.{ParseFault}
use Rattle.cs_parse.specs.End.{admitted_answer}
use Rattle.cs_parse.specs.Progress as stream
use Rattle.cs_parse.specs.Progress.{Progress}
use Rattle.rb_desk.specs.declared.delivery.Delivery.{Delivery}
use Rattle.rb_sequence.specs.Entry.{Entry}
use Rattle.rb_subscriber.specs.Endpoint.{Endpoint}
use Rattle.rb_core.specs.declared.publisher.PublisherState.{PublisherState}
use Rattle.rb_core.specs.declared.publisher.Staged.{Staged}
use Rattle.rb_core.specs.declared.reply.Reply.{Reply}
use Rattle.rb_core.specs.declared.reply.Reply.TheVariants as reply
use Rattle.rb_core.specs.declared.reply.BrokerRefusal.{BrokerRefusal}
use Rattle.rb_core.specs.declared.reply.BrokerRefusal.TheVariants as refusal
use Rattle.rb_core.specs.State.{State, is_withdrawn, with_mark}

abbrev pub refused : State → BrokerRefusal → Reply × State
refused old why = (reply.Refused why, old)

-- replaces the publisher, or the endpoint, with this number
abbrev pub with_publisher : State → ℕ → PublisherState → State
with_publisher old p publisher = record old { publishers = slice_set old.publishers p publisher }

abbrev pub with_endpoint : State → ℕ → Endpoint → State
with_endpoint old s endpoint = record old { endpoints = slice_set old.endpoints s endpoint }

-- the entry, and the delivery, with this number
abbrev pub entry_of : State → ℕ → Option Entry
entry_of w n = find (λ entry. entry.number == n) w.sequence

abbrev pub delivery_of : State → ℕ → Option Delivery
delivery_of w d = find (λ delivery. delivery.number == d) w.deliveries

-- Publisher: adds one whose parts are all empty. There are at most 64.
abbrev pub publisher_added : State → Reply × State
publisher_added old =
    if nat_le 64 (length old.publishers) then refused old refusal.TooMany
    else (
      reply.Publisher (length old.publishers),
      record old {
        publishers = old.publishers
            ++ record { stream = stream.nothing; staged = None; sent = 0 } ∷ [];
      },
    )

-- Feed: the stream reads the bytes, unless it has a fault. A permanent fault is reported at once.
abbrev pub fed_reply : Option ParseFault → Reply
fed_reply None = reply.Fed
fed_reply (Some fault) = reply.Fault fault

abbrev pub fed_stream : State → ℕ → PublisherState → Progress → Reply × State
fed_stream old p publisher progress =
    (fed_reply progress.fault, with_publisher old p (record publisher { stream = progress }))

abbrev pub fed_by : State → ℕ → List ℕ → Option PublisherState → Reply × State
fed_by old p bytes None = refused old refusal.NoPublisher
fed_by old p bytes (Some publisher) =
    fed_stream old p publisher (stream.advanced publisher.stream bytes)

abbrev pub fed : State → ℕ → List ℕ → Reply × State
fed old p bytes = fed_by old p bytes (slice_get old.publishers p)

-- Reset: the stream becomes empty; what is staged stays.
abbrev pub reset_by : State → ℕ → Option PublisherState → Reply × State
reset_by old p None = refused old refusal.NoPublisher
reset_by old p (Some publisher) =
    (reply.Reset, with_publisher old p (record publisher { stream = stream.nothing }))

abbrev pub reset : State → ℕ → Reply × State
reset old p = reset_by old p (slice_get old.publishers p)

-- End: if the schema admits what the stream spells, it is staged and a new stream begins. Else the
-- stream stays.
abbrev pub fault_refusal : SectionFault → BrokerRefusal
fault_refusal (Unknown i) = refusal.UnknownTable i
fault_refusal (Differs i) = refusal.ShapeDiffers i

abbrev pub end_reply : EndError → Reply
end_reply (end_error.Fault fault) = reply.Fault fault
end_reply (end_error.Refused fault) = reply.Refused (fault_refusal fault)

abbrev pub staged_by : State → ℕ → PublisherState → Result (List Section) EndError → Reply × State
staged_by old p publisher (Ok changeset) = (
  reply.Staged,
  with_publisher old p
      (record publisher {
        stream = stream.nothing;
        staged = Some (record { origin = Sent; body = changeset });
      }),
)
staged_by old p publisher (Err error) = (end_reply error, old)

abbrev pub ended_by : State → ℕ → PublisherState → Option Staged → Reply × State
ended_by old p publisher None =
    staged_by old p publisher (admitted_answer old.schema (stream.answer_at_end publisher.stream))
ended_by old p publisher (Some staged) = refused old refusal.Holding

abbrev pub ended_for : State → ℕ → Option PublisherState → Reply × State
ended_for old p None = refused old refusal.NoPublisher
ended_for old p (Some publisher) = ended_by old p publisher publisher.staged

abbrev pub ended : State → ℕ → Reply × State
ended old p = ended_for old p (slice_get old.publishers p)

-- Send: what is staged goes to the end of the intake, as the publisher's next sending. It is
-- refused if the sequence is closed or the intake full.
abbrev pub sent_item : State → ℕ → PublisherState → Staged → Reply × State
sent_item old p publisher staged = (
  reply.Sent (publisher.sent + 1),
  record (with_publisher old p (record publisher { staged = None; sent = publisher.sent + 1 })) {
    intake = old.intake ++ record {
      publisher = p;
      own = publisher.sent + 1;
      origin = staged.origin;
      body = staged.body;
    } ∷ [];
  },
)

abbrev pub sent_while : State → ℕ → PublisherState → Staged → Option ℕ → Reply × State
sent_while old p publisher staged (Some last) = refused old refusal.Closed
sent_while old p publisher staged None =
    if nat_le old.desk.limits.intake (length old.intake) then refused old refusal.Full else
    sent_item old p publisher staged

abbrev pub sent_by : State → ℕ → PublisherState → Option Staged → Reply × State
sent_by old p publisher None = refused old refusal.NothingStaged
sent_by old p publisher (Some staged) = sent_while old p publisher staged old.desk.closing

abbrev pub sent_for : State → ℕ → Option PublisherState → Reply × State
sent_for old p None = refused old refusal.NoPublisher
sent_for old p (Some publisher) = sent_by old p publisher publisher.staged

abbrev pub sent : State → ℕ → Reply × State
sent old p = sent_for old p (slice_get old.publishers p)

-- Withdraw: the withdrawal of an entry that the publisher sent is staged. The entry is withdrawn
-- from then on, whether or not the withdrawal is sent. It is refused if something is staged, or if
-- the entry isn't placed, is another publisher's, or is withdrawn already.
abbrev pub withdrawn_entry : State → ℕ → PublisherState → ℕ → Entry → Reply × State
withdrawn_entry old p publisher n entry = (
  reply.Staged,
  record (with_publisher old p (record publisher {
    staged = Some (record { origin = Withdraws n; body = withdrawal_of entry.item.body });
  })) { withdrawn = with_mark (n - 1) old.withdrawn },
)

abbrev pub withdrawn_from : State → ℕ → PublisherState → ℕ → Option Entry → Reply × State
withdrawn_from old p publisher n None = refused old refusal.NotPlaced
withdrawn_from old p publisher n (Some entry) =
    if not (entry.item.publisher == p) then refused old refusal.NotYours
    else if is_withdrawn old n then refused old refusal.AlreadyWithdrawn
    else withdrawn_entry old p publisher n entry

abbrev pub withdrawn_by : State → ℕ → PublisherState → ℕ → Option Staged → Reply × State
withdrawn_by old p publisher n None = withdrawn_from old p publisher n (entry_of old n)
withdrawn_by old p publisher n (Some staged) = refused old refusal.Holding

abbrev pub withdrawn_for : State → ℕ → ℕ → Option PublisherState → Reply × State
withdrawn_for old p n None = refused old refusal.NoPublisher
withdrawn_for old p n (Some publisher) = withdrawn_by old p publisher n publisher.staged

abbrev pub withdrawn : State → ℕ → ℕ → Reply × State
withdrawn old p n = withdrawn_for old p n (slice_get old.publishers p)
