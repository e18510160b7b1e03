-- The passes of an intake as contracts see them.
use Rattle.std.specs.Prelude.{◌≡◌, ℕ, ◌+◌, List, [], ◌∷◌, ◌++◌, length}
use Rattle.std.specs.List.{AllByRecursion}
use Rattle.atomic_table.specs.Seated.{TableId}
use Rattle.rb_sequence.specs.Item.{Item}
use Rattle.rb_sequence.specs.Items.{own_of}
use Rattle.rb_intake.specs.Joined.{HasEndedAs}

-- an intake: its queue, and how many items may wait
pub record IntakeSeen : Type 0 where
  pub queue : TableId
  pub capacity : ℕ

-- the maker's pass: of which queue it is, and how many publishers' passes it made
pub record MakerKnows : Type 0 where
  pub queue : TableId
  pub made : ℕ

-- a publisher's pass: its queue, the publisher's number, and what it sent, in order
pub record PublisherKnows : Type 0 where
  pub queue : TableId
  pub publisher : ℕ
  pub sent : List Item

-- the sequencer's pass: its queue, what it pulled, in order, and the publishers whose passes it
-- joined, each with what it sent
pub record SequencerKnows : Type 0 where
  pub queue : TableId
  pub pulled : List Item
  pub ended : List (ℕ × List Item)

-- the last pass: its queue, what was pulled, in order, the publishers whose passes were joined,
-- each with what it sent, and how many publishers were made
pub record LastKnows : Type 0 where
  pub queue : TableId
  pub pulled : List Item
  pub ended : List (ℕ × List Item)
  pub made : ℕ

-- how many items the joined publishers sent
abbrev pub total_sent : List (ℕ × List Item) → ℕ
total_sent [] = 0
total_sent (e ∷ rest) = length e.1 + total_sent rest

-- what each joined publisher sent is what was pulled and these items
abbrev pub IsAllPulledAnd : LastKnows → List Item → Type 0
IsAllPulledAnd p more = AllByRecursion (λ e. e.1 ≡ own_of e.0 (p.pulled ++ more)) p.ended

-- each item is a joined publisher's
abbrev pub AreOfJoined : List (ℕ × List Item) → List Item → Type 0
AreOfJoined ended items = AllByRecursion (λ item. HasEndedAs item.publisher ended) items

-- The items that were left are appended to these, in the order in which they were pulled: then what
-- each joined publisher sent is all there, and nothing else is.
abbrev pub Drains : LastKnows → List Item → List Item → LastKnows → Type 0
Drains p old new last = (more : List Item) × (new ≡ old ++ more)
    × (last ≡ record p { pulled = p.pulled ++ more }) × IsAllPulledAnd p more
    × AreOfJoined p.ended (p.pulled ++ more) × (length (p.pulled ++ more) ≡ total_sent p.ended)

-- what each joined publisher sent was pulled
abbrev pub IsAllPulled : SequencerKnows → Type 0
IsAllPulled p = AllByRecursion (λ e. e.1 ≡ own_of e.0 p.pulled) p.ended
