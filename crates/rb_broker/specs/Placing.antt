-- What one hold of the broker's lock does that places an item, and one that closes.
use Rattle.std.specs.Prelude.{◌≡◌, ◌++◌, ◌∷◌, [], ℕ, List, length, map, Option, Some, None}
use Rattle.std.specs.Prelude.{IfSome}
use Rattle.std.specs.Prelude.{Result, Ok, Err}
use Rattle.std.specs.Option.{option_map}
use Rattle.rb_desk.specs.declared.refusal.DeskRefusal.{DeskRefusal}
use Rattle.rb_desk.specs.declared.refusal.DeskRefusal.TheVariants as desk
use Rattle.rb_desk.specs.declared.step.Step.{Step}
use Rattle.rb_desk.specs.declared.step.Step.TheVariants.{Place}
use Rattle.rb_desk.specs.Calls.{prepare, place, close}
use Rattle.rb_desk.specs.Journaled.{JournaledPicture, answer_after, closing_steps, journaled}
use Rattle.rb_desk.specs.Limits.{Limits}
use Rattle.rb_history.specs.Kept.{count_under}
use Rattle.rb_intake.specs.Passes.{SequencerKnows}
use Rattle.rb_sequence.specs.Cells.{Cells, CellToken, IsLastToken, IsOccupantOf, IsTokenOf}
use Rattle.rb_sequence.specs.Cells.{LastToken}
use Rattle.rb_sequence.specs.Entry.{Entry}
use Rattle.rb_sequence.specs.Item.{Item}
use Rattle.rb_subscriber.specs.Owner.{OthersSince, Owner, desk_after, has_seen}
use Rattle.rb_broker.specs.declared.refusal.Occupied.{Occupied}
use Rattle.rb_broker.specs.declared.refusal.Occupied.TheVariants.{Next, Set}
use Rattle.rb_broker.specs.declared.refusal.PlaceError.{PlaceError}
use Rattle.rb_broker.specs.declared.refusal.PlaceError.TheVariants as placing
use Rattle.rb_broker.specs.declared.refusal.RefusedItem.{RefusedItem}

-- the token shows that the cell of the entry's number holds the entry
pub record ShowsEntry (cells : Cells) (told : CellToken) (e : Entry) : Type 0 where
  pub here : IsTokenOf cells told
  pub number : told.number ≡ e.number
  pub entry : told.entry ≡ e

-- The token shows the desk's closing number in the closing cell; there is none before the closing.
abbrev pub ShowsClosing : Cells → Option ℕ → Option LastToken → Type 0
ShowsClosing cells closing told = (option_map (λ t. t.last) told ≡ closing)
    × IfSome told (λ t. IsLastToken cells t)

-- The item is the last one that the pass pulled, and the number is how many it pulled.
abbrev pub IsLastPulled : SequencerKnows → Item → ℕ → Type 0
IsLastPulled pass item number = (before : List Item) × (pass.pulled ≡ before ++ item ∷ [])
    × (number ≡ length pass.pulled)

-- What a refusal to place this number shows: the last number of a closed sequence; which other
-- number is placed next; or which entry the cell of this one holds.
abbrev pub ShowsWhy : Cells → ℕ → PlaceError → Type 0
ShowsWhy cells number placing.JournalFull = Unit {0}
ShowsWhy cells number (placing.Closed told) = IsLastToken cells told
ShowsWhy cells number placing.SequenceFull = Unit {0}
ShowsWhy cells number (placing.Occupied (Next next)) = next ≡ number → ⊥
ShowsWhy cells number (placing.Occupied (Set token)) =
    IsOccupantOf cells token × (token.number ≡ number)
ShowsWhy cells number placing.Memory = Unit {0}

-- Why this number isn't placed where the desk places `next`: that is another one; or it is this
-- one, and its cell is set.
abbrev pub IsOccupied : Cells → ℕ → ℕ → Occupied → Type 0
IsOccupied cells number next (Next other) = (other ≡ next) × (next ≡ number → ⊥)
IsOccupied cells number next (Set token) = IsOccupantOf cells token × (token.number ≡ number)
    × (next ≡ number)

-- why an item isn't placed under this number, by what the desk's `prepare` returns
abbrev pub IsWhy : Cells → Option ℕ → ℕ → Result ℕ DeskRefusal → PlaceError → Type 0
IsWhy cells closing number prepared placing.JournalFull = prepared ≡ Err desk.JournalFull
IsWhy cells closing number prepared (placing.Closed told) = (prepared ≡ Err desk.Closed)
    × ShowsClosing cells closing (Some told)
IsWhy cells closing number prepared placing.SequenceFull = prepared ≡ Err desk.SequenceFull
IsWhy cells closing number prepared (placing.Occupied why) = (next : ℕ) × (prepared ≡ Ok next)
    × IsOccupied cells number next why
IsWhy cells closing number prepared placing.Memory = ⊥

-- the number that the desk would place, or why none
abbrev pub number_to_place : JournaledPicture → Result ℕ DeskRefusal
number_to_place desk = answer_after (length desk.steps) (prepare desk.picture)

-- why the desk doesn't place this number
abbrev pub RefusesPlace : Cells → ℕ → JournaledPicture → PlaceError → Type 0
RefusesPlace cells number desk why =
    IsWhy cells desk.picture.closing number (number_to_place desk) why

-- What the hold returns and leaves. The entry is in its cell, and the desk has placed its number;
-- or the item comes back, and the desk is as before.
abbrev pub PlacesEntry : Result CellToken RefusedItem → Cells → Entry → JournaledPicture
    → JournaledPicture → Type 0
PlacesEntry (Ok told) cells entry old new = ShowsEntry cells told entry
    × (number_to_place old ≡ Ok entry.number) × (new ≡ journaled old Place (place old.picture))
PlacesEntry (Err refused) cells entry old new = (refused.item ≡ entry.item)
    × RefusesPlace cells entry.number old refused.why × (new ≡ old)

-- The desk refuses to place this number so, after the history that the owner had seen and the steps
-- that others made since. The owner makes no step. Where memory runs out, the desk isn't asked.
abbrev pub DeskRefuses : Limits → Cells → ℕ → PlaceError → Owner → Owner → Type 0
DeskRefuses limits cells number placing.Memory old new = new ≡ old
DeskRefuses limits cells number why old new = OthersSince old new.seen
    × RefusesPlace cells number (desk_after limits new.seen) why × (new.number ≡ old.number)

-- The desk places this number, after the history that the owner had seen and the steps that others
-- made since. That is the owner's one step.
pub record PlacesAfter (limits : Limits) (number : ℕ) (old new : Owner) (others : List (ℕ × Step))
    : Type 0 where
  pub apart : count_under old.number others ≡ 0
  pub next : number_to_place (desk_after limits (old.seen ++ others)) ≡ Ok number
  pub seen : new ≡ has_seen old ((old.seen ++ others) ++ (old.number, Place) ∷ [])

abbrev pub DeskPlaces : Limits → ℕ → Owner → Owner → Type 0
DeskPlaces limits number old new = (others : List (ℕ × Step))
    × PlacesAfter limits number old new others

-- What the hold returns and leaves that closes. The desk is closed, and the token shows its closing
-- number in the closing cell; or, if that cell is set and the desk isn't closed, the desk is as
-- before.
abbrev pub ClosesBoth : Option LastToken → Cells → JournaledPicture → JournaledPicture
    → Type 0
ClosesBoth (Some told) cells old new = IsLastToken cells told
    × (told.last ≡ (close old.picture).0)
    × (new.picture ≡ (close old.picture).1)
    × (new.steps ≡ old.steps ++ closing_steps old.picture.closing)
ClosesBoth None cells old new = (old.picture.closing ≡ None) × (new ≡ old)

-- the step of a close under its owner's number: a second close is none, nor is one that fails
abbrev pub closing_step : Option LastToken → ℕ → Option ℕ → List (ℕ × Step)
closing_step (Some told) number closing = map (λ step. (number, step)) (closing_steps closing)
closing_step None number closing = []

-- The desk closes after the history that the owner had seen and the steps that others made since,
-- and this is its last number: its front, or the closing number that it has. The close is the
-- owner's one step; a second one is none.
pub record ClosesAfter (limits : Limits) (told : LastToken) (old new : Owner)
    (others : List (ℕ × Step)) : Type 0 where
  pub apart : count_under old.number others ≡ 0
  pub last : told.last ≡ (close (desk_after limits (old.seen ++ others)).picture).0
  pub seen : new ≡ has_seen old ((old.seen ++ others) ++ closing_step (Some told) old.number
      (desk_after limits (old.seen ++ others)).picture.closing)

abbrev pub DeskCloses : Limits → Option LastToken → Owner → Owner → Type 0
DeskCloses limits (Some told) old new = (others : List (ℕ × Step))
    × ClosesAfter limits told old new others
DeskCloses limits None old new = OthersSince old new.seen × (new.number ≡ old.number)
