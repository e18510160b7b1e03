-- What a drive comes to.
use Rattle.std.specs.Prelude.{◌≡◌, ℕ, ◌≤◌, List, length, map}
use Rattle.std.specs.List.{AllByRecursion}
use Rattle.cs_model.specs.declared.shape.Shape.{Shape}
use Rattle.rb_core.specs.State.{empty_tables}
use Rattle.rb_sequence.specs.Cells.{Cells, LastToken}
use Rattle.rb_sequence.specs.Item.{Item}
use Rattle.rb_broker.specs.Publishers.{PublisherView}
use Rattle.rb_sequencer.specs.Turns.{SequencerState}
use Rattle.rb_subscriber.specs.Accept.{HasSingleTables}
use Rattle.rb_subscriber.specs.Shown.{entries_told, tokens_shown}
use Rattle.rb_subscriber.specs.Subscription.{SubscriptionState, cursor_of}
use Rattle.rb_close.specs.Finishing.{Finishes}
use Rattle.rb_close.specs.Headline.{KeepsRunningHeadline}
use Rattle.rb_close.specs.Meeting.{HasMet}
use Rattle.rb_drive.specs.declared.ending.SubscriberEnd.{SubscriberEnd}
use Rattle.rb_drive.specs.declared.ending.SubscriberEnd.TheVariants.{Drained, Conflict, Stopped}
use Rattle.rb_drive.specs.declared.accepting.EndedSubscriber.{EndedSubscriber}
use Rattle.rb_drive.specs.declared.drive.Outcome.{Outcome}
use Rattle.rb_drive.specs.declared.input.Given.{Given}
use Rattle.rb_drive.specs.declared.publishing.FaultyLine.{FaultyLine}
use Rattle.rb_drive.specs.Ending.{ShowsConflict}
use Rattle.rb_drive.specs.Published.{AreByNumber, HaveSentLines, faulty_done, unsent_lines}

-- ---- subscribers

-- a subscription, and how it ended
pub record DrivenSubscriber : Type 0 where
  pub subscription : SubscriptionState
  pub ending : SubscriberEnd

-- the subscription begins before the first number, with empty tables
abbrev pub StartsEmpty : List Shape → SubscriptionState → Type 0
StartsEmpty schema s = (s.start ≡ 0) × (s.base ≡ empty_tables schema)

-- How a subscription ended, where so many entries were placed over these cells. A drained one has
-- accepted all of them. One that met a conflict shows it, by the entry after its cursor. None was
-- stopped.
abbrev pub IsEndAt : Cells → ℕ → SubscriptionState → SubscriberEnd → Type 0
IsEndAt cells placed s Drained = cursor_of s ≡ placed
IsEndAt cells placed s (Conflict conflict shown) =
    ShowsConflict cells s conflict (tokens_shown shown)
IsEndAt cells placed s Stopped = ⊥

abbrev pub IsEnded : Cells → ℕ → DrivenSubscriber → Type 0
IsEnded cells placed one = IsEndAt cells placed one.subscription one.ending

-- a subscription that has met the sequencer up to its cursor, and shows its tables
abbrev pub HasMetAll : SequencerState → SubscriptionState → Type 0
HasMetAll sequencer s = HasMet sequencer s × HasSingleTables s.base (entries_told s.told) s.tables

-- the same, and it has ended as it should
abbrev pub HasMetAndEnded : Cells → SequencerState → SubscriptionState → SubscriberEnd → Type 0
HasMetAndEnded cells sequencer s ending =
    HasMetAll sequencer s × IsEndAt cells (length sequencer.placed) s ending

-- ---- the whole

-- what is reported: how many changesets were placed, how many were sent and not placed, how many
-- lines were neither sent nor found faulty, the faulty lines, and the subscribers
pub record DriveOutcome : Type 0 where
  pub placed : ℕ
  pub left : ℕ
  pub unsent : ℕ
  pub faulty : List FaultyLine
  pub subscribers : List DrivenSubscriber

-- what an outcome of the code says
abbrev pub subscriber_of : {L : Type 0} → EndedSubscriber L → DrivenSubscriber
subscriber_of one = record { subscription = one.subscription; ending = one.ending }

abbrev pub reported : {L : Type 0} → Outcome L → DriveOutcome
reported o = record {
  placed = o.placed;
  left = o.left;
  unsent = o.unsent;
  faulty = o.faulty.items;
  subscribers = map subscriber_of o.accepting.items;
}

-- A drive of a broker with these cells and tables, whose publishers had these lines. There are
-- publishers, a sequencer and a token of the closing cell with which the broker was finished. Each
-- publisher has sent the changesets of its lines, in order, up to those that are unsent. The faulty
-- lines come by rising number. Each subscription began empty, and keeps the headline of a running
-- broker; if it is drained, it has accepted all that was placed, and if it met a conflict, it shows
-- it.
pub record IsDriven (cells : Cells) (schema : List Shape) (lines : List (List Given))
    (outcome : DriveOutcome) : Type 0 where
  pub publishers : List PublisherView
  pub sequencer : SequencerState
  pub closing : LastToken
  pub items : List Item
  pub dones : List ℕ
  pub finished : Finishes cells publishers sequencer outcome.placed items closing
  pub count : outcome.left ≡ length items
  pub few : outcome.placed ≤ cells.capacity
  pub sent : HaveSentLines schema 0 lines dones publishers
  pub unsent : outcome.unsent ≡ unsent_lines lines dones
  pub faulty : AreByNumber (faulty_done schema lines dones) outcome.faulty
  pub begun : AllByRecursion (λ one. StartsEmpty schema one.subscription) outcome.subscribers
  pub headline : AllByRecursion (KeepsRunningHeadline cells publishers sequencer closing)
      (map (λ one. one.subscription) outcome.subscribers)
  pub ended : AllByRecursion (IsEnded cells outcome.placed) outcome.subscribers
