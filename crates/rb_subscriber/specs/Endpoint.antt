-- A subscriber's endpoint as a value.
use Rattle.std.specs.Prelude.{ℕ, Bool, false}
use Rattle.cs_apply.specs.State as tables

-- An endpoint: the number after which it began, its cursor, its current link, whether it is closed,
-- whether it has fallen, and its tables. The cursor is the last number that it accepted; at first,
-- its start. One that keeps its tables and cursor in a durable store falls if the machine stops, or
-- the store fails, while it accepts a delivery.
pub record Endpoint : Type 0 where
  pub start : ℕ
  pub cursor : ℕ
  pub link : ℕ
  pub closed : Bool
  pub fallen : Bool
  pub tables : tables.TableState

-- an endpoint that has accepted nothing
abbrev pub new_endpoint : ℕ → ℕ → tables.TableState → Endpoint
new_endpoint start link tables = record {
  start = start;
  cursor = start;
  link = link;
  closed = false;
  fallen = false;
  tables = tables;
}
