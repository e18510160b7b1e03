use Rattle.std.proofs.Common.{◌≡◌, ◌++◌, drop}
use Rattle.cs_model.specs.KeyBytes.{key_bytes}
use Rattle.cs_model.specs.Row.{row_fields}
use Rattle.replica_store.proofs.stored_row.key_of_values.Given as goal

-- the bytes so far, and those of the columns that are left, are those of all
abbrev pub invariant-loop-flag : goal.invariant-loop-flag
invariant-loop-flag l = l.key.items ++ key_bytes (drop l.flag-index l.flags) l.fields ≡ key_bytes l.flags
    (row_fields l.row)
