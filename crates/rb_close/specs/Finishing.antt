-- What a finished broker leaves: what each publisher sent, of what was placed and of what is left.
use Rattle.std.specs.Prelude.{◌≡◌, ℕ, ◌+◌, ◌<◌, ◌⊎◌, List, [], ◌∷◌, ◌++◌, length, map, Option, Some}
use Rattle.std.specs.Prelude.{option_map}
use Rattle.std.specs.List.{AllByRecursion}
use Rattle.atomic_table.specs.Seated.{TableId}
use Rattle.rb_sequence.specs.Cells.{CellToken, Cells, IsLastToken, LastToken}
use Rattle.rb_sequence.specs.Items.{own_of}
use Rattle.rb_sequence.specs.Item.{Item}
use Rattle.rb_intake.specs.Passes.{LastKnows, SequencerKnows}
use Rattle.rb_broker.specs.Publishers.{PublisherView}
use Rattle.rb_sequencer.specs.Turns.{SequencerState, in_hand, items_placed}
use Rattle.rb_close.specs.declared.refusal.FinishError.{FinishError}
use Rattle.rb_close.specs.declared.refusal.FinishError.TheVariants as refusal

-- what each publisher sent is what was placed of it, then what is left of it
abbrev pub AreAllThere : List PublisherView → List Item → List Item → Type 0
AreAllThere publishers placed left =
    AllByRecursion (λ p. p.sent ≡ own_of p.number placed ++ own_of p.number left) publishers

-- these items come first
abbrev pub BeginsWith : List Item → List Item → Type 0
BeginsWith front items = (more : List Item) × (items ≡ front ++ more)

-- a publisher of this number is given
abbrev pub IsPresent : ℕ → List PublisherView → Type 0
IsPresent n [] = ⊥
IsPresent n (p ∷ rest) = (p.number ≡ n) ⊎ IsPresent n rest

-- all publishers of which so many were made are given
abbrev pub AreAllPresent : ℕ → List PublisherView → Type 0
AreAllPresent made publishers = (n : ℕ) → n < made → IsPresent n publishers

-- each item is of a publisher that is given
abbrev pub AreTheirs : List PublisherView → List Item → Type 0
AreTheirs publishers items = AllByRecursion (λ item. IsPresent item.publisher publishers) items

-- how many items these publishers sent
abbrev pub all_sent : List PublisherView → ℕ
all_sent [] = 0
all_sent (p ∷ rest) = length p.sent + all_sent rest

-- A broker is finished, with these publishers and its sequencer: so many items were placed, these
-- are left, and this token shows where the sequence is closed. What is left begins with the item in
-- hand. What each publisher sent is there, nothing else is, and no item is there twice.
pub record Finishes (cells : Cells) (publishers : List PublisherView) (sequencer : SequencerState)
    (placed : ℕ) (left : List Item) (closing : LastToken) : Type 0 where
  pub hand : BeginsWith (in_hand sequencer.hand) left
  pub sent : AreAllThere publishers (items_placed sequencer.placed) left
  pub theirs : AreTheirs publishers (items_placed sequencer.placed ++ left)
  pub counted : placed + length left ≡ all_sent publishers
  pub many : placed ≡ length sequencer.placed
  pub closed : IsLastToken cells closing
  pub last : closing.last ≡ placed

-- The last pass of this queue pulled, in this order, what was placed and then what is left.
abbrev pub PullsInOrder : TableId → List CellToken → List Item → LastKnows → Type 0
PullsInOrder queue placed left pass = (pass.queue ≡ queue)
    × (pass.pulled ≡ items_placed placed ++ left)

-- the number that a token of the closing cell shows, if there is one
abbrev pub closing_shown : Option LastToken → Option ℕ
closing_shown closing = option_map (λ token. token.last) closing

-- Why a broker isn't finished of which so many publishers were made and so many items placed, with
-- what the closing cell shows. It isn't closed where that isn't the number of items placed. Else a
-- publisher is missing where one isn't given. Else memory runs out.
abbrev pub RefusesFinish : ℕ → ℕ → Option ℕ → List PublisherView → FinishError → Type 0
RefusesFinish made placed shown publishers refusal.NotClosed = shown ≡ Some placed → ⊥
RefusesFinish made placed shown publishers refusal.Missing = (shown ≡ Some placed)
    × (n : ℕ) × (n < made) × (IsPresent n publishers → ⊥)
RefusesFinish made placed shown publishers refusal.Memory = (shown ≡ Some placed)
    × AreAllPresent made publishers

-- the publishers' numbers, each with what it sent
abbrev pub sendings_of : List PublisherView → List (ℕ × List Item)
sendings_of publishers = map (λ p. (p.number, p.sent)) publishers

-- their passes are joined
abbrev pub JoinsPasses : List PublisherView → SequencerKnows → SequencerKnows → Type 0
JoinsPasses publishers old new = new ≡ record old { ended = old.ended ++ sendings_of publishers }
