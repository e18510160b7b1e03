use Rattle.std.proofs.Common.{◌≡◌, ◌+◌, ◌≤◌, ◌%◌, drop}
use Rattle.std.specs.Prelude.{sum}
use Rattle.cs_model.specs.KeyBytes.{key_bytes}
use Rattle.par_apply.proofs.shard.with_key.Given as goal

-- the sum so far, with the bytes of the key columns that are left
abbrev pub invariant-loop-flag : goal.invariant-loop-flag
invariant-loop-flag l = record {
  so_far : (l.sum + sum (key_bytes (drop l.flag-index l.flags) (drop l.passed l.rest))) % l.n
      ≡ (l.table + sum (key_bytes l.flags l.from)) % l.n;
  few : l.passed ≤ l.flag-index;
}
