use Rattle.cs_write.proofs.texts.NoLonger.{spelled_again}
use Rattle.cs_write.proofs.laws.read_is_spelled_again.Goals as goal

pub returns : goal.returns
returns c = spelled_again c.varint_spelled.ensures c.varint_shortest.ensures
