use Rattle.std.proofs.Common.{◌≡◌, ◌++◌}
use Rattle.cs_model.specs.Packed.{unpacked}
use Rattle.cs_model.specs.Row.{values_of}
use Rattle.replica_store.proofs.stored_row.values_in.Given as goal

-- the values so far, and those of the fields that are left, are all
abbrev pub invariant-loop-field : goal.invariant-loop-field
invariant-loop-field l = l.row ++ values_of l.field-iterator ≡ values_of (unpacked l.body)
