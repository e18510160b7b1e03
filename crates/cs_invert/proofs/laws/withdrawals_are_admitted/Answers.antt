use Rattle.cs_invert.proofs.withdrawals.Admitting.{withdrawal_admitted}
use Rattle.cs_invert.proofs.laws.withdrawals_are_admitted.Goals as goal

pub returns : goal.returns
returns c = withdrawal_admitted
