use Rattle.std.proofs.Common.{◌≡◌, ◌++◌, drop}
use Rattle.broker_c.specs.Opening as opening
use Rattle.broker_c.proofs.limits.shapes_of.Given as goal

-- the copies so far, and those of the tables that are left
abbrev pub invariant-loop-table : goal.invariant-loop-table
invariant-loop-table l =
    l.shapes.items ++ opening.table_shapes (drop l.table-index l.tables) ≡ opening.table_shapes l.tables
