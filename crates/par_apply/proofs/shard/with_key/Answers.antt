use Rattle.std.proofs.Common.{◌∙◌, ◌+◌, ◌%◌, drop, ap, arith}
use Rattle.std.specs.Prelude.{sum}
use Rattle.cs_model.specs.KeyBytes.{key_bytes}
use Rattle.cs_model.specs.Packed.{packed}
use Rattle.par_apply.proofs.shards.KeySumLaws.{sum_added, sum_passed}
use Rattle.par_apply.proofs.shard.with_key.Goals.{then-flag-gt0, else-flag-gt0}
use Rattle.par_apply.proofs.shard.with_key.Goals as goal

pub loop-flag-preserved : goal.loop-flag-preserved
loop-flag-preserved c =
    let flags = c.args.flags.now in
    let n = c.args.n in
    let i = c.loop-flag.flag-index in
    let whole = (c.args.table + sum (key_bytes flags c.args.from.now)) % n in
    elim c.if-flag-gt0.branch [
      | then-flag-gt0 w ↦ record {
        so_far = (λ j. (w.sum-is j + sum (key_bytes (drop (i + 1) flags) (drop (w.passed-is j) (w.rest-is j)))) % n)
            ∙ sum_added flags n whole c.loop-flag.rest w.cut-here.result.1 w.cut-field.result.1 w.bytes.result.now i
            c.loop-flag.passed c.loop-flag.sum w.with_bytes-sum.result c.loop-flag-test.true w.if-flag-gt0.true
            w.cut-here.ensures.rest (w.bytes.ensures.bytes ∙ ap packed w.cut-field.ensures.front)
            w.cut-field.ensures.rest w.with_bytes-sum.ensures c.loop-flag.invariant.so_far;
        few = omega (arith, w.passed-is);
      }
      | else-flag-gt0 w ↦ record {
        so_far = (λ j. (w.sum-is j + sum (key_bytes (drop (i + 1) flags) (drop (w.passed-is j) (w.rest-is j)))) % n)
            ∙ sum_passed flags n whole c.loop-flag.rest i c.loop-flag.passed c.loop-flag.sum c.loop-flag-test.true
            (omega (arith, w.if-flag-gt0.false)) c.loop-flag.invariant.so_far;
        few = omega (arith, w.passed-is, c.loop-flag.invariant.few);
      }
    ]
