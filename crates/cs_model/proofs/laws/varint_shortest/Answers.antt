use Rattle.cs_model.proofs.spelling.VarintLemmas.{shortest}
use Rattle.cs_model.proofs.laws.varint_shortest.Goals as goal

pub returns : goal.returns
returns c = shortest
