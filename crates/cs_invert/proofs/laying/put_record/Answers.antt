use Rattle.std.proofs.Common.{length, ap, arith}
use Rattle.std.proofs.Math.ListN.{drop_of_length-le}
use Rattle.std.proofs.lemmas.List.{drop_more, length-drop}
use Rattle.cs_model.specs.Packed.{packed}
use Rattle.cs_invert.specs.Inverse.{inverse_old}
use Rattle.cs_invert.proofs.layings.Laying.{lays_done, lays_on}
use Rattle.cs_invert.proofs.layings.Parts.{column_parts}
use Rattle.cs_invert.proofs.laying.put_record.Goals as goal

pub loop-flag-preserved : goal.loop-flag-preserved
loop-flag-preserved c =
    let was = c.loop-flag.invariant in
    let i = c.loop-flag.flag-index in
    let flags = c.args.flags.now in
    let more = drop_more flags i 0 c.loop-flag-test.true in
    let key = c.cut-key.ensures in
    let other = c.cut-other.ensures in
    record {
      keys = omega (arith, was.keys, ap length more, ap length key.rest, length-drop 1 c.loop-flag.keys);
      others = omega (arith, was.others, ap length more, ap length other.rest, length-drop 1 c.loop-flag.others);
      lays = lays_on _ _ _ _ (column_parts _ _ _ _ _ _ _ _ _ _ more was.keys was.others key.front key.rest other.front
          other.rest c.chosen.ensures) c.put_bytes-at.ensures.end c.put_bytes-at.ensures.bytes was.lays;
    }

pub returns-clause-bytes : goal.returns-clause-bytes
returns-clause-bytes c =
    let none = drop_of_length-le c.args.flags.now c.loop-flag-test.false in
    (lays_done (ap (λ fs. packed (inverse_old fs c.loop-flag.keys c.loop-flag.others)) none) c.loop-flag.invariant.lays).1
