use Rattle.std.proofs.Common.{◌≡◌, ◌++◌}
use Rattle.cs_model.specs.Row.{values_of}
use Rattle.cs_apply.specs.Effect.{updated}
use Rattle.cs_apply.specs.Steps.{merged}
use Rattle.cs_apply.proofs.row.updated.Given as goal

-- the values so far, and those of the columns that are left, are the new row
abbrev pub invariant-loop-value : goal.invariant-loop-value
invariant-loop-value l = l.new ++ values_of (merged l.fields l.value-iterator) ≡ updated l.from l.row
