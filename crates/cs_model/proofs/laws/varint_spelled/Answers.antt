use Rattle.cs_model.proofs.spelling.VarintLemmas.{spelled}
use Rattle.cs_model.proofs.laws.varint_spelled.Goals as goal

pub returns : goal.returns
returns c = spelled
