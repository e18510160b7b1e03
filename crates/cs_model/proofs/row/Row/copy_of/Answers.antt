use Rattle.std.proofs.Common.{◌∙◌}
use Rattle.cs_model.proofs.packing.RowLaws.{row_of}
use Rattle.cs_model.proofs.row.Row.copy_of.Goals as goal

pub invariant_of-result : goal.invariant_of-result
invariant_of-result c =
    (row_of c.in_ok-from_slice.field-0.items c.args.from.now c.requires
    (c.in_ok-from_slice.ensures.items ∙ c.bytes.ensures.bytes) c.bytes.ensures.fit).1

pub returns : goal.returns
returns c =
    (row_of c.in_ok-from_slice.field-0.items c.args.from.now c.requires
    (c.in_ok-from_slice.ensures.items ∙ c.bytes.ensures.bytes) c.bytes.ensures.fit).0
