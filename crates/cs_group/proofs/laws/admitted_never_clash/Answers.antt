use Rattle.cs_group.proofs.schemas.Admitting.{admitted_apart, both_admitted}
use Rattle.cs_group.proofs.laws.admitted_never_clash.Goals as goal

pub returns-clause-clash : goal.returns-clause-clash
returns-clause-clash c = admitted_apart

pub returns-clause-both : goal.returns-clause-both
returns-clause-both c = both_admitted
