-- The headline of a running broker: what a subscription has accepted, once the broker is finished.
use Rattle.std.specs.Prelude.{◌≡◌, ℕ, ◌≤◌, List, ◌++◌, length, map, Some, slice_get}
use Rattle.std.specs.List.{AllByRecursion}
use Rattle.rb_sequence.specs.Cells.{AreInCells, Cells, IsLastToken, LastToken}
use Rattle.rb_sequence.specs.Entry.{Entry}
use Rattle.rb_sequence.specs.Items.{AreNumbered, CountsUp, own_of}
use Rattle.rb_sequence.specs.Item.{Item}
use Rattle.rb_broker.specs.Publishers.{PublisherView}
use Rattle.rb_sequencer.specs.Turns.{SequencerState, in_hand, items_placed}
use Rattle.rb_subscriber.specs.Accept.{HasSingleTables}
use Rattle.rb_subscriber.specs.Shown.{entries_told}
use Rattle.rb_subscriber.specs.Subscription.{SubscriptionState}
use Rattle.rb_close.specs.Finishing.{AreTheirs}
use Rattle.rb_close.specs.Meeting.{HasMet}

-- What every sequencer shows of itself: what it placed stands in the cells of the numbers from 1
-- on, what it pulled is what it placed and then the item in hand, and each publisher's own numbers
-- count from 1 in that.
pub record ShowsPlaced (cells : Cells) (sequencer : SequencerState) : Type 0 where
  pub shown : AreInCells cells 1 sequencer.placed
  pub pulled : sequencer.pulled ≡ items_placed sequencer.placed ++ in_hand sequencer.hand
  pub numbered : (p : ℕ) → CountsUp p sequencer.pulled

-- the items of entries
abbrev pub items_in : List Entry → List Item
items_in entries = map (λ entry. entry.item) entries

-- items that follow one another among these, without a gap
abbrev pub IsStretchOf : List Item → List Item → Type 0
IsStretchOf run items = (before after : List Item) × (before ++ (run ++ after) ≡ items)

-- What a subscription accepted is a gapless run of what was placed. The entries have the numbers
-- from 1 on, and each item stands in it once. Of each publisher it is a run of what that publisher
-- sent, in its order; each item is of one of the publishers. The sequence is closed after what was
-- placed, and nothing later was accepted. Where what was accepted applies singly, without conflict,
-- to the tables that the subscription began with, its tables are what one thread gets that applies
-- it so.
pub record KeepsRunningHeadline (cells : Cells) (publishers : List PublisherView)
    (sequencer : SequencerState) (closing : LastToken) (subscription : SubscriptionState)
    : Type 0 where
  pub gapless : HasMet sequencer subscription
  pub numbers : AreNumbered (λ (entry : Entry). entry.number) 1 (entries_told sequencer.placed)
  pub once : (i j : ℕ) (a b : Entry) → slice_get (entries_told sequencer.placed) i ≡ Some a
      → slice_get (entries_told sequencer.placed) j ≡ Some b
      → a.item.publisher ≡ b.item.publisher → a.item.own ≡ b.item.own → i ≡ j
  pub in_order : AllByRecursion (λ p. IsStretchOf
      (own_of p.number (items_in (entries_told subscription.told))) p.sent) publishers
  pub sent : AreTheirs publishers (items_placed sequencer.placed)
  pub closed : IsLastToken cells closing × (closing.last ≡ length sequencer.placed)
  pub last : AllByRecursion (λ (entry : Entry). entry.number ≤ closing.last)
      (entries_told subscription.told)
  pub tables : HasSingleTables subscription.base (entries_told subscription.told)
      subscription.tables

-- A subscription has accepted all that was placed after its start: the entries with the numbers up
-- to its start, then what it accepted, are the whole sequence.
abbrev pub HasAcceptedAll : SequencerState → SubscriptionState → Type 0
HasAcceptedAll sequencer subscription = (before : List Entry)
    × (length before ≡ subscription.start)
    × (before ++ entries_told subscription.told ≡ entries_told sequencer.placed)
