use Rattle.cs_apply.proofs.effects.OneByOne.{one_by_one_applies_both, both_apply}
use Rattle.cs_apply.proofs.laws.applying_goes_on.Goals as goal

pub returns : goal.returns
returns c = λ old some more new. (one_by_one_applies_both old some more new, both_apply old some more new)
