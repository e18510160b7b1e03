-- A publisher of a broker, and what it stages.
use Rattle.std.specs.Prelude.{◌≡◌, ◌<◌, ℕ, suc, List, [], Option, Some, None, Result, Ok, Err}
use Rattle.cs_model.specs.declared.origin.Origin.{Origin}
use Rattle.cs_model.specs.declared.origin.Origin.TheVariants.{Sent, Withdraws}
use Rattle.cs_model.specs.declared.shape.Shape.{Shape}
use Rattle.cs_model.specs.Section.{Section}
use Rattle.cs_invert.specs.Inverse.{withdrawal_of}
use Rattle.cs_parse.specs.Progress.{Progress, nothing}
use Rattle.rb_broker.specs.declared.refusal.AddError.{AddError}
use Rattle.rb_broker.specs.declared.refusal.AddError.TheVariants.{TooMany, Memory}
use Rattle.rb_sequence.specs.Cells.{Cells, CellToken, IsTokenOf, LastToken}
use Rattle.rb_sequence.specs.Item.{Item}

-- A publisher: its number, the tables of its broker, its stream, what it sent, in order, the
-- numbers of the entries that it withdrew, rising, and the token that shows that the sequence is
-- closed, once a sending was refused so.
pub record PublisherView : Type 0 where
  pub number : ℕ
  pub schema : List Shape
  pub stream : Progress
  pub sent : List Item
  pub withdrawn : List ℕ
  pub closing : Option LastToken

-- A staged set: the number of the publisher that staged it, why it is sent, the changeset, and what
-- shows the entry that it withdraws.
pub record StagedView : Type 0 where
  pub publisher : ℕ
  pub origin : Origin
  pub body : List Section
  pub withdraws : Option CellToken

-- What was fed withdraws nothing. A withdrawal of entry n shows the entry that the cell of n holds;
-- its publisher sent that, and its body is that entry's withdrawal.
abbrev pub WithdrawsShown : Cells → Origin → Option CellToken → ℕ → List Section → Type 0
WithdrawsShown cells Sent shown p body = shown ≡ None
WithdrawsShown cells (Withdraws n) None p body = ⊥
WithdrawsShown cells (Withdraws n) (Some told) p body = IsTokenOf cells told × (told.number ≡ n)
    × (told.entry.item.publisher ≡ p) × (body ≡ withdrawal_of told.entry.item.body)

abbrev pub IsStaged : Cells → StagedView → Type 0
IsStaged cells s = WithdrawsShown cells s.origin s.withdraws s.publisher s.body

-- a publisher that has done nothing yet
abbrev pub new_publisher : ℕ → List Shape → PublisherView
new_publisher number schema = record {
  number = number;
  schema = schema;
  stream = nothing;
  sent = [];
  withdrawn = [];
  closing = None;
}

-- What the maker of publishers, who made so many, returns, and how many it made then. The new one
-- has the next number, counted from 0, and there are at most 64.
abbrev pub MakesPublisher : List Shape → Result PublisherView AddError → ℕ → ℕ → Type 0
MakesPublisher schema (Ok p) old new = (p ≡ new_publisher old schema) × (old < 64) × (new ≡ suc old)
MakesPublisher schema (Err TooMany) old new = (old ≡ 64) × (new ≡ old)
MakesPublisher schema (Err Memory) old new = (old < 64) × (new ≡ old)

-- the item that a staged set becomes
abbrev pub item_of : StagedView → ℕ → Item
item_of s own =
    record { publisher = s.publisher; own = own; origin = s.origin; body = s.body }
