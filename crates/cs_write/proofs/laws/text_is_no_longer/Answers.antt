use Rattle.cs_write.proofs.texts.NoLonger.{no_longer}
use Rattle.cs_write.proofs.laws.text_is_no_longer.Goals as goal

pub returns : goal.returns
returns c = no_longer c.varint_shortest.ensures
