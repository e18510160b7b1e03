use Rattle.cs_model.proofs.packing.FitLaws.{change_fits}
use Rattle.cs_model.proofs.laws.changes_fit.Goals as goal

pub returns : goal.returns
returns c = change_fits
