-- The limits of a broker, and their ranges.
use Rattle.std.specs.Prelude.{ℕ, Bool, ◌&&◌, not, nat_le, Option, Some, None, if◌then◌else◌}
use Rattle.rb_deliveries.specs.Queues.{most_numbers}
use Rattle.rb_desk.specs.declared.config.ConfigFault.{ConfigFault}
use Rattle.rb_desk.specs.declared.config.ConfigFault.TheVariants.{Batch, Window, Timeout, Capacity}
use Rattle.rb_desk.specs.declared.config.ConfigFault.TheVariants.{Intake, Appliers}

-- The limits of a broker:
-- - `batch`: the most numbers in a delivery
-- - `window`: the most deliveries in flight to a subscription
-- - `timeout`: after how many ticks a delivery expires
-- - `capacity`: the most entries of the sequence
-- - `intake`: the most changesets that wait to be placed
-- - `appliers`: how many workers apply a changeset
pub record Limits : Type 0 where
  pub batch : ℕ
  pub window : ℕ
  pub timeout : ℕ
  pub capacity : ℕ
  pub intake : ℕ
  pub appliers : ℕ

-- the limits that these six numbers are, in the order of `Config::new`
abbrev pub six_limits : ℕ → ℕ → ℕ → ℕ → ℕ → ℕ → Limits
six_limits batch window timeout capacity intake appliers = record {
  batch = batch;
  window = window;
  timeout = timeout;
  capacity = capacity;
  intake = intake;
  appliers = appliers;
}

-- whether a number is from 1 to `most`
abbrev pub is_in_range : ℕ → ℕ → Bool
is_in_range most n = nat_le 1 n && nat_le n most

-- the first operand that is out of its range
abbrev pub first_out_of_range : ℕ → ℕ → ℕ → ℕ → ℕ → ℕ → Option ConfigFault
first_out_of_range batch window timeout capacity intake appliers =
    if not (is_in_range 256 batch) then Some Batch
    else if not (is_in_range 64 window) then Some Window
    else if not (is_in_range 1000000000 timeout) then Some Timeout
    else if not (is_in_range most_numbers capacity) then Some Capacity
    else if not (is_in_range 4096 intake) then Some Intake
    else if not (is_in_range 16 appliers) then Some Appliers
    else None
