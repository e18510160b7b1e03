use Rattle.std.proofs.Common.{ap, ◌∙◌}
use Rattle.cs_model.specs.Packed.{unpacked}
use Rattle.cs_model.proofs.packing.RowLaws.{row_seen}
use Rattle.cs_model.proofs.row.Row.fields.Goals as goal

pub returns : goal.returns
returns c = c.of.ensures ∙ (ap unpacked c.deref.ensures.value
    ∙ row_seen c.self.inside.bytes.items _ c.self.invariant c.self.view_is)
