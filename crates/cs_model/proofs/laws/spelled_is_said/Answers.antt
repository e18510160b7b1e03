use Rattle.cs_model.proofs.packing.PackedChangeLaws.{spelled_said}
use Rattle.cs_model.proofs.laws.spelled_is_said.Goals as goal

pub returns : goal.returns
returns c = spelled_said
