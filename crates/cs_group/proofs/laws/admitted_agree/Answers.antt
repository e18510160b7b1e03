use Rattle.cs_group.proofs.schemas.Agreeing.{admitted_agreeing}
use Rattle.cs_group.proofs.laws.admitted_agree.Goals as goal

pub returns : goal.returns
returns c = admitted_agreeing
