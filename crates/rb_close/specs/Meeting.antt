-- What two owners show of the numbers that both have.
use Rattle.std.specs.Prelude.{◌≡◌, ℕ, ◌-◌, Option, Some}
use Rattle.rb_sequence.specs.Cells.{CellToken}
use Rattle.rb_sequencer.specs.Turns.{SequencerState}
use Rattle.rb_subscriber.specs.Accept.{part}
use Rattle.rb_subscriber.specs.Shown.{entries_told}
use Rattle.rb_subscriber.specs.Subscription.{SubscriptionState, accepted_token, cursor_of}

-- both tokens are there, and show the same entry
pub record ShareEntry (one other : Option CellToken) : Type 0 where
  pub token : CellToken
  pub twin : CellToken
  pub here : one ≡ Some token
  pub there : other ≡ Some twin
  pub same : token.entry ≡ twin.entry

-- the token of the entry with this number, if the subscription accepted it
abbrev pub token_accepted : SubscriptionState → ℕ → Option CellToken
token_accepted s n = accepted_token s.start s.told n

-- A subscription has met the sequencer up to its cursor: what it accepted is what was placed under
-- the numbers after its start, up to its cursor.
abbrev pub HasMet : SequencerState → SubscriptionState → Type 0
HasMet sequencer subscription = entries_told subscription.told
    ≡ part (entries_told sequencer.placed) subscription.start
    (cursor_of subscription - subscription.start)
