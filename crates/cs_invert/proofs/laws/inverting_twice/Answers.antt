use Rattle.cs_invert.proofs.inverses.Twice.{inverse_again}
use Rattle.cs_invert.proofs.laws.inverting_twice.Goals as goal

pub returns : goal.returns
returns c = inverse_again
