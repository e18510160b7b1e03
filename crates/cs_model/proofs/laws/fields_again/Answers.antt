use Rattle.cs_model.proofs.packing.PackedLaws.{packed_unpacked}
use Rattle.cs_model.proofs.laws.fields_again.Goals as goal

pub returns : goal.returns
returns c = packed_unpacked
