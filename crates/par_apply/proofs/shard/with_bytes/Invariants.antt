use Rattle.std.proofs.Common.{◌≡◌, ◌+◌, ◌<◌, ◌%◌, ◌^◌, drop}
use Rattle.std.specs.Prelude.{sum}
use Rattle.par_apply.proofs.shard.with_bytes.Given as goal

-- the sum so far, with the bytes that are left
abbrev pub invariant-loop-byte : goal.invariant-loop-byte
invariant-loop-byte l = record {
  so_far : (l.sum + sum (drop l.byte-index l.bytes)) % l.n ≡ (l.number + sum l.bytes) % l.n;
  small : l.sum < 2 ^ 32;
}
