use Rattle.std.proofs.Common.{length, ap, arith}
use Rattle.cs_invert.proofs.inverses.AsLong.{changes_as_long}
use Rattle.cs_invert.proofs.layings.Laying.{laid_whole}
use Rattle.cs_invert.proofs.inverse.inverse_bytes.Goals as goal

pub put_changes-requires-clause-room : goal.put_changes-requires-clause-room
put_changes-requires-clause-room c =
    let section = c.args.section.now in
    omega (
      arith,
      c.deref_mut.ensures.len,
      c.in_ok-text.ensures.len,
      ap length c.bytes.ensures,
      changes_as_long section.shape.flags section.changes c.requires.1,
    )

pub returns : goal.returns
returns c =
    let section = c.args.section.now in
    let long = changes_as_long section.shape.flags section.changes c.requires.1 in
    laid_whole _ _ _ _ _ c.put_changes.ensures.bytes
    (omega (arith, long, c.deref_mut.ensures.len, c.in_ok-text.ensures.len, ap length c.bytes.ensures))
    (omega (arith, long, c.in_ok-text.ensures.len, ap length c.bytes.ensures))
