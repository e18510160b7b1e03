use Rattle.cs_group.proofs.schemas.Agreeing.{agreeing_apart}
use Rattle.cs_group.proofs.laws.agreeing_never_clash.Goals as goal

pub returns : goal.returns
returns c = agreeing_apart
