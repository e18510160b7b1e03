-- What a new broker's parts share, and what stands for it before a broker is opened.
use Rattle.std.specs.Prelude.{ℕ, List, []}
use Rattle.cs_model.specs.declared.shape.Shape.{Shape}
use Rattle.rb_desk.specs.Limits.{Limits, six_limits}
use Rattle.atomic_table.specs.Seated.{TableId}
use Rattle.rb_sequence.specs.Cells.{Cells}

-- A broker that was opened: its limits, its tables, the cells of its sequence, the queue of its
-- intake, how many items may wait in it, the name of the ledger of its subscriptions' steps, and
-- the name of its history.
pub record OpenedParts : Type 0 where
  pub limits : Limits
  pub schema : List Shape
  pub cells : Cells
  pub queue : TableId
  pub room : ℕ
  pub ledger : ℕ
  pub history : ℕ × ℕ

-- no broker's
abbrev pub no_limits : Limits
no_limits = six_limits 0 0 0 0 0 0

abbrev pub no_queue : TableId
no_queue = record {
  words = 0;
  slots = 0;
  views_name = 0;
  atom = 0;
  block = 0;
  offset = 0;
  slot_names = [];
}
