use Rattle.std.proofs.Common.{◌≡◌, ◌++◌, drop}
use Rattle.cs_model.specs.KeyBytes.{key_bytes}
use Rattle.cs_model.proofs.row_key.key_bytes_of.Given as goal

-- the bytes so far, and those of the columns that are left, are those of all
abbrev pub invariant-loop-flag : goal.invariant-loop-flag
invariant-loop-flag l = l.bytes.items ++ key_bytes (drop l.flag-index l.flags) l.fields ≡ key_bytes l.flags l.from
