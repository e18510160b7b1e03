use Rattle.cs_invert.proofs.withdrawals.Agreeing.{withdrawal_agrees}
use Rattle.cs_invert.proofs.laws.withdrawals_agree.Goals as goal

pub returns : goal.returns
returns c = withdrawal_agrees
