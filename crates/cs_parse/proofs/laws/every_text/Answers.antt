use Rattle.cs_parse.proofs.refusing.FaultLaws.{text_has}
use Rattle.cs_parse.proofs.laws.every_text.Goals as goal

pub returns : goal.returns
returns c = text_has
