use Rattle.cs_parse.proofs.reading.TextLaws.{answer_takes, answer_again}
use Rattle.cs_parse.proofs.laws.reading_is_spelling.Goals as goal

pub returns : goal.returns
returns c = λ text changeset fits. (answer_takes text changeset fits, answer_again text changeset)
