use Rattle.std.proofs.Common.{◌≡◌, ◌<◌, length, ◌+◌, ◌%◌, drop, ap, ◌∙◌, arith}
use Rattle.std.proofs.lemmas.List.Sums.{sum_by-drop_more}
use Rattle.std.specs.Prelude.{sum, get_or}
use Rattle.par_apply.proofs.shards.ShardLaws.{same_remainder}
use Rattle.par_apply.proofs.shard.with_bytes.Goals as goal

pub loop-byte-init : goal.loop-byte-init
loop-byte-init c = record {
  so_far = same_remainder c.reduced-sum.result c.args.number (sum c.args.bytes.now) c.args.n c.reduced-sum.ensures.remainder;
  small = c.reduced-sum.ensures.small;
}

pub loop-byte-preserved : goal.loop-byte-preserved
loop-byte-preserved c = record {
  so_far =
      let xs = c.args.bytes.now in
      let i = c.loop-byte.byte-index in
      let within : i < length xs = c.loop-byte-test.true in
      let left : sum (drop i xs) ≡ get_or xs i 0 + sum (drop (i + 1) xs) = sum_by-drop_more (λ x. x) xs i 0 within in
      same_remainder c.reduced-sum-in-loop-byte.result (c.loop-byte.sum + c.from.result) (sum (drop (i + 1) xs)) c.args.n
      c.reduced-sum-in-loop-byte.ensures.remainder
      ∙ ap (λ m. m % c.args.n) (omega (arith, left, c.from.ensures)) ∙ c.loop-byte.invariant.so_far;
  small = c.reduced-sum-in-loop-byte.ensures.small;
}
