use Rattle.cs_invert.proofs.withdrawals.Withdrawing.{withdrawing_takes_back}
use Rattle.cs_invert.proofs.laws.withdrawing_undoes.Goals as goal

pub returns : goal.returns
returns c = withdrawing_takes_back (record { again = c.fields_again.ensures; fit = c.changes_fit.ensures })
