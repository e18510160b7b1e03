-- What the file of a durable subscription has after a restart.
use Rattle.std.specs.Prelude.{◌≡◌, ◌⊎◌, suc, ◌+◌, ◌++◌, List, [], ◌∷◌, length}
use Rattle.cs_apply.specs.State.{Rows}
use Rattle.sqlite.specs.Tree.{Trees}
use Rattle.replica_store.specs.Durable.{HasRows}
use Rattle.rb_desk.specs.declared.delivery.Delivery.{Delivery}
use Rattle.rb_sequence.specs.Cells.{AreInCells, Cells, CellToken}
use Rattle.rb_subscriber.specs.Accept.{HasSingleTables}
use Rattle.rb_subscriber.specs.Batches.{HasBatchTables}
use Rattle.rb_subscriber.specs.Shown.{ShowDelivery, entries_told}
use Rattle.rb_subscriber.specs.Subscription.{SubscriptionState, batches_told}

-- The trees have the rows and the cursor of one run of a subscription: what it had accepted, and
-- the entries of this delivery, or nothing more. They are the entries after its start, one after
-- another, as the cells show them. The rows are what the groups of its accepted deliveries leave,
-- and of this one if it is there. Where their changesets apply one after another without conflict
-- to the tables that it began with, the rows are the result of that.
pub record HoldsRun (cells : Cells) (s : SubscriptionState) (delivery : Delivery) (db : Trees)
    : Type 0 where
  pub run : List CellToken
  pub more : List CellToken
  pub goes_on : run ≡ s.told ++ more
  pub brought : (more ≡ []) ⊎ ShowDelivery cells delivery more
  pub shown : AreInCells cells (suc s.start) run
  pub batches : List (List CellToken)
  pub parted : (batches ≡ s.batches) ⊎ (batches ≡ s.batches ++ more ∷ [])
  pub rows : Rows
  pub stored : HasRows db rows (s.start + length run)
  pub grouped : HasBatchTables s.base (batches_told batches) (entries_told run)
      (record s.tables { rows = rows })
  pub singly : HasSingleTables s.base (entries_told run) (record s.tables { rows = rows })
