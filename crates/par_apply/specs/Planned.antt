-- What a plan holds.
use Rattle.std.specs.Prelude.{◌≡◌, List, Option, Ok, IfSome}
use Rattle.std.specs.List.{AllByRecursion}
use Rattle.cs_model.specs.declared.row_key.RowKey.{RowKey}
use Rattle.cs_model.specs.declared.value.Value.{Value}
use Rattle.cs_model.specs.Section.{Section}
use Rattle.cs_apply.specs.Held.{FitsKey}
use Rattle.cs_apply.specs.Single.{single}
use Rattle.cs_apply.specs.State.{Rows, TableState}
use Rattle.par_apply.specs.declared.planned.RowPlan.{RowPlan}
use Rattle.par_apply.specs.RowChanges.{AreRowChanges, RowChanges}

-- the changes of a plan, in its own order
abbrev pub planned_changes : RowPlan → RowChanges
planned_changes plan = plan.changes.list.items

-- a change whose row, if there is one, has a value for each column
abbrev pub FitsAtKey : TableState → RowKey × Option (List Value) → Type 0
FitsAtKey tables change = IfSome change.1 (λ row. FitsKey tables change.0 row)

abbrev pub RowsFit : TableState → RowChanges → Type 0
RowsFit tables changes = AllByRecursion (FitsAtKey tables) changes

-- The changeset applies to the tables without conflict, and these are the changes of their rows.
pub record IsPlanOf (tables : TableState) (sections : List Section) (changes : RowChanges)
    : Type 0 where
  pub after : Rows
  pub applied : single tables sections ≡ Ok (record tables { rows = after })
  pub changed : AreRowChanges tables.rows after changes
  pub fit : RowsFit tables changes
