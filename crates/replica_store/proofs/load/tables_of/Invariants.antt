use Rattle.std.proofs.Common.{take}
use Rattle.std.specs.Arc.{arc_value}
use Rattle.replica_store.specs.Loading.{AreSchemaRows, LoadsRows, ShownBodies}
use Rattle.replica_store.proofs.load.tables_of.Given as goal

-- the tables have what the rows so far show, which is rows of the schema
abbrev pub invariant-loop-shown : goal.invariant-loop-shown
invariant-loop-shown l = LoadsRows (arc_value l.schema) (ShownBodies (take l.shown-index l.answer)) l.tables
    × AreSchemaRows (arc_value l.schema) (ShownBodies (take l.shown-index l.answer))
