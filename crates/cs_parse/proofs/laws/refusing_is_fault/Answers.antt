use Rattle.cs_parse.proofs.refusing.FaultLaws.{refused_is_fault, fault_is_refused}
use Rattle.cs_parse.proofs.laws.refusing_is_fault.Goals as goal

pub returns : goal.returns
returns c = λ text fault fits. (refused_is_fault text fault fits, fault_is_refused text fault fits)
