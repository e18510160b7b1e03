-- The changesets in a world: what is staged and sent, waits, is in hand and is placed.
use Rattle.std.specs.Prelude.{List, Option, IfSome}
use Rattle.std.specs.List.{AllByRecursion}
use Rattle.cs_model.specs.Bytes.{AreBytes}
use Rattle.cs_model.specs.Changeset.{IsChangeset}
use Rattle.rb_sequence.specs.Item.{Item}
use Rattle.rb_sequence.specs.Entry.{Entry}
use Rattle.rb_subscriber.specs.Accept.{AreChangesets}
use Rattle.rb_core.specs.declared.publisher.Staged.{Staged}
use Rattle.rb_core.specs.World.{Sender, World}

-- what is staged is a changeset
abbrev pub IsStagedBody : Staged → Type 0
IsStagedBody staged = IsChangeset staged.body

-- what was sent is a changeset
abbrev pub IsBody : Item → Type 0
IsBody item = IsChangeset item.body

-- the bytes fed to a publisher are bytes, and what it staged and what it sent are changesets
pub record IsSound (sender : Sender) : Type 0 where
  pub bytes : AreBytes sender.text
  pub staged : IfSome sender.staged IsStagedBody
  pub sent : AllByRecursion IsBody sender.sent

-- Everything that is staged or sent, waits in the intake, is in hand or is placed is a changeset.
pub record BodiesIn (publishers : List Sender) (waiting : List Item) (pulled : Option Item)
    (placed : List Entry) : Type 0 where
  pub senders : AllByRecursion IsSound publishers
  pub intake : AllByRecursion IsBody waiting
  pub hand : IfSome pulled IsBody
  pub sequence : AreChangesets placed

-- everything in a world is a changeset, and what was fed is bytes
abbrev pub HasChangesets : World → Type 0
HasChangesets w = BodiesIn w.senders w.intake w.hand w.sequence
