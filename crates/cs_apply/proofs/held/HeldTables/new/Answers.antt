use Rattle.std.specs.Arc.{arc_value}
use Rattle.cs_apply.proofs.rows_by_key.Lengths.{none_have}
use Rattle.cs_apply.proofs.held.HeldTables.new.Goals as goal

pub invariant_of-result : goal.invariant_of-result
invariant_of-result c = (
  c.requires,
  c.new.ensures.log,
  none_have (arc_value c.args.schema) c.new.result.rows.entries c.new.ensures.rows,
)
