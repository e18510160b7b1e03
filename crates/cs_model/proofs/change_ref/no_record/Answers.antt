use Rattle.std.proofs.Common.{[], refl}
use Rattle.cs_model.proofs.packing.PackedLaws.{packed_empty}
use Rattle.cs_model.proofs.change_ref.no_record.Goals as goal

pub invariant_of-result : goal.invariant_of-result
invariant_of-result c = (packed_empty [] refl).1

pub returns : goal.returns
returns c = (packed_empty [] refl).0
