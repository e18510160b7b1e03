use Rattle.cs_model.proofs.packing.PackedLaws.{packed_first}
use Rattle.cs_model.proofs.laws.fields_first.Goals as goal

pub returns : goal.returns
returns c = packed_first
