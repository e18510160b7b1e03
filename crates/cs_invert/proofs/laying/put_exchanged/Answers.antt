use Rattle.std.proofs.Common.{length, ap, arith}
use Rattle.std.proofs.lemmas.List.{length-append}
use Rattle.cs_model.specs.Packed.{packed}
use Rattle.cs_invert.specs.Inverse.{inverse_old}
use Rattle.cs_invert.proofs.layings.Parts.{exchanged_parts, two_parts}
use Rattle.cs_invert.proofs.laying.put_exchanged.Goals as goal

pub put_record-requires-clause-room : goal.put_record-requires-clause-room
put_record-requires-clause-room c =
    let flags = c.args.flags.now in
    let before = c.args.before.now in
    let after = c.args.after.now in
    omega (
      arith,
      c.requires.room,
      c.put_record-at.ensures.end,
      c.put_record-at.auto.out,
      ap length (exchanged_parts flags before after),
      length-append (packed (inverse_old flags before after)) (packed (inverse_old flags after before)),
    )

pub returns-clause-end : goal.returns-clause-end
returns-clause-end c =
    let flags = c.args.flags.now in
    let before = c.args.before.now in
    let after = c.args.after.now in
    omega (
      arith,
      c.put_record-at.ensures.end,
      c.put_record.ensures.end,
      ap length (exchanged_parts flags before after),
      length-append (packed (inverse_old flags before after)) (packed (inverse_old flags after before)),
    )

pub returns-clause-bytes : goal.returns-clause-bytes
returns-clause-bytes c = two_parts _ _ _ _ _ _ _ _ (exchanged_parts c.args.flags.now c.args.before.now c.args.after.now)
    c.requires.room c.put_record-at.ensures.end c.put_record-at.ensures.bytes c.put_record.ensures.bytes
