use Rattle.cs_invert.proofs.inverses.Inverting.{inverse_is_changeset}
use Rattle.cs_invert.proofs.laws.inverses_are_changesets.Goals as goal

pub returns : goal.returns
returns c = inverse_is_changeset
