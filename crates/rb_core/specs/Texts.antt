-- What `Feed` and `End` reply, in terms of the text that a publisher's stream has taken.
use Rattle.std.specs.Prelude.{◌≡◌, ℕ, List, ◌++◌, Some, None}
use Rattle.cs_model.specs.declared.origin.Origin.TheVariants.{Sent}
use Rattle.cs_model.specs.declared.schema.SectionFault.{SectionFault}
use Rattle.cs_model.specs.Schema.{refusal_of}
use Rattle.cs_model.specs.Section.{Section}
use Rattle.cs_model.specs.Text.{Spells}
use Rattle.cs_parse.specs.declared.fault.ParseFault.{ParseFault}
use Rattle.cs_parse.specs.Fault.{IsFault}
use Rattle.cs_parse.specs.Pieces.{IsLasting}
use Rattle.cs_parse.specs.Progress.{Progress, Took, nothing}
use Rattle.rb_core.specs.declared.publisher.PublisherState.{PublisherState}
use Rattle.rb_core.specs.declared.reply.Reply.{Reply}
use Rattle.rb_core.specs.declared.reply.Reply.TheVariants as reply
use Rattle.rb_core.specs.Outcome.{with_publisher, fault_refusal}
use Rattle.rb_core.specs.State.{State}

-- `Feed` after a text that the stream has taken. The stream then has taken the text and the bytes,
-- and nothing else changes. The reply is the permanent fault of the two together, or `Fed` if there
-- is none. After a permanent fault of the text, the reply is that fault, and nothing changes.
pub record FeedsByText (old : State) (p : ℕ) (publisher : PublisherState) (text bytes : List ℕ)
    (given : Reply) (new : State) : Type 0 where
  pub stream : Progress
  pub takes : Took stream (text ++ bytes)
  pub kept : new ≡ with_publisher old p (record publisher { stream = stream })
  pub told : (fault : ParseFault) → IsLasting (text ++ bytes) fault → given ≡ reply.Fault fault
  pub untold : ((fault : ParseFault) → IsLasting (text ++ bytes) fault → ⊥) → given ≡ reply.Fed
  pub stays : (fault : ParseFault) → IsLasting text fault → (given ≡ reply.Fault fault)
      × (new ≡ old)

-- `End` after a text that the stream has taken, with nothing staged. If the schema admits what the
-- text spells, that is staged, a new stream begins, and nothing else changes. Else the reply
-- refuses the first section that isn't admitted. If the text has a fault, the reply is that fault.
-- A refusal and a fault change nothing.
pub record EndsByText (old : State) (p : ℕ) (publisher : PublisherState) (text : List ℕ)
    (given : Reply) (new : State) : Type 0 where
  pub stages : (changeset : List Section) → Spells text changeset → refusal_of old.schema changeset
      ≡ None
      → (given ≡ reply.Staged)
      × (new ≡ with_publisher old p
      (record publisher {
        stream = nothing;
        staged = Some (record { origin = Sent; body = changeset });
      }))
  pub refuses : (changeset : List Section) (fault : SectionFault) → Spells text changeset
      → refusal_of old.schema changeset ≡ Some fault
      → (given ≡ reply.Refused (fault_refusal fault)) × (new ≡ old)
  pub faults : (fault : ParseFault) → IsFault text fault → (given ≡ reply.Fault fault) × (new ≡ old)
