-- The sequencer's state, and what a turn does to it.
use Rattle.std.specs.Prelude.{◌≡◌, ℕ, zero, suc, List, [], ◌∷◌, ◌++◌, length, map, Option, Some}
use Rattle.std.specs.Prelude.{IsSome, None, Result, Ok, Err, slice_get}
use Rattle.atomic_table.specs.Seated.{TableId}
use Rattle.rb_desk.specs.Limits.{Limits}
use Rattle.rb_sequence.specs.Cells.{Cells, CellToken, IsTokenOf}
use Rattle.rb_sequence.specs.Item.{Item}
use Rattle.rb_intake.specs.declared.waiting.NothingWaits.{NothingWaits}
use Rattle.rb_subscriber.specs.Owner.{Owner}
use Rattle.rb_broker.specs.Placing.{DeskPlaces, DeskRefuses, ShowsWhy}
use Rattle.rb_sequencer.specs.declared.turn.Turn.{Turn}
use Rattle.rb_sequencer.specs.declared.turn.Turn.TheVariants.{Placed, Idle, Refused}

-- A sequencer: the items that it pulled, in order; the tokens of what it placed, in order; the item
-- in hand, which it pulled and hasn't placed; and what it has seen of its broker's history.
pub record SequencerState : Type 0 where
  pub pulled : List Item
  pub placed : List CellToken
  pub hand : Option Item
  pub owner : Owner

-- the items of the entries that were placed
abbrev pub items_placed : List CellToken → List Item
items_placed tokens = map (λ t. t.entry.item) tokens

-- the item in hand as a list: itself, or none
abbrev pub in_hand : Option Item → List Item
in_hand None = []
in_hand (Some item) = item ∷ []

-- the token of the entry with this number, if it is placed
abbrev pub token_of : List CellToken → ℕ → Option CellToken
token_of tokens zero = None
token_of tokens (suc place) = slice_get tokens place

-- An empty hand takes the next item of the intake; a full one stays.
abbrev pub TakesUp : Option Item → SequencerState → SequencerState → Type 0
TakesUp (Some x) old new = new ≡ old
TakesUp None old new = (x : Item)
    × (new ≡ record old { pulled = old.pulled ++ x ∷ []; hand = Some x })

-- Shows that nothing waited in this queue at a moment, when the sequencer had pulled these items.
abbrev pub IsEmptyAfter : TableId → List Item → NothingWaits → Type 0
IsEmptyAfter queue pulled nothing = (nothing.seen.queue ≡ queue) × (nothing.seen.pulled ≡ pulled)

-- What a turn does. The item in hand, which it may have taken up, becomes an entry, whose number is
-- one more than that of the entry before, and the desk places that number: the turn's one step
-- (*DeskPlaces*). Or the hand is empty, and nothing waits after what was pulled. Or the item stays
-- in hand. Then the desk refuses to place that number so (*DeskRefuses*), and the refusal shows
-- what stands in its way (*ShowsWhy*).
abbrev pub IsTurn : Limits → Cells → TableId → SequencerState → SequencerState → Turn → Type 0
IsTurn limits cells queue old new (Placed told) = (mid : SequencerState) × TakesUp old.hand old mid
    × (mid.hand ≡ Some told.entry.item) × IsTokenOf cells told
    × (told.number ≡ suc (length old.placed)) × (told.entry.number ≡ told.number)
    × (new ≡ record mid {
      placed = old.placed ++ told ∷ [];
      hand = None;
      owner = new.owner;
    }) × DeskPlaces limits told.number old.owner new.owner
IsTurn limits cells queue old new (Idle nothing) = (old.hand ≡ None) × (new ≡ old)
    × IsEmptyAfter queue old.pulled nothing
IsTurn limits cells queue old new (Refused why) = (mid : SequencerState)
    × TakesUp old.hand old mid × (new ≡ record mid { owner = new.owner })
    × ShowsWhy cells (suc (length old.placed)) why
    × DeskRefuses limits cells (suc (length old.placed)) why old.owner new.owner

-- ---- the two halves of a turn

-- an empty hand takes up the next item, or stays empty because nothing waits
abbrev pub FillsHand : TableId → SequencerState → SequencerState → Result (Unit {0}) NothingWaits
    → Type 0
FillsHand queue old new (Ok done) = TakesUp old.hand old new × IsSome new.hand
FillsHand queue old new (Err nothing) = (old.hand ≡ None) × (new ≡ old)
    × IsEmptyAfter queue old.pulled nothing

-- the item in hand becomes the next entry, or stays
abbrev pub PlacesHand : Limits → Cells → SequencerState → SequencerState → Turn → Type 0
PlacesHand limits cells old new (Placed told) = (old.hand ≡ Some told.entry.item)
    × IsTokenOf cells told × (told.number ≡ suc (length old.placed))
    × (told.entry.number ≡ told.number)
    × (new ≡ record old {
      placed = old.placed ++ told ∷ [];
      hand = None;
      owner = new.owner;
    }) × DeskPlaces limits told.number old.owner new.owner
PlacesHand limits cells old new (Idle nothing) = ⊥
PlacesHand limits cells old new (Refused why) = (new ≡ record old { owner = new.owner })
    × ShowsWhy cells (suc (length old.placed)) why
    × DeskRefuses limits cells (suc (length old.placed)) why old.owner new.owner
