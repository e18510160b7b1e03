use Rattle.cs_model.proofs.packing.PackedChangeLaws.{packed_again}
use Rattle.cs_model.proofs.laws.packed_again.Goals as goal

pub returns : goal.returns
returns c = packed_again
