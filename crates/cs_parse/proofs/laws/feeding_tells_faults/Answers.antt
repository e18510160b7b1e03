use Rattle.cs_parse.proofs.joining.PieceLaws.{lasting_is, piece_is_lasting}
use Rattle.cs_parse.proofs.laws.feeding_tells_faults.Goals as goal

pub returns : goal.returns
returns c = λ text fault fits. (lasting_is text fault fits, piece_is_lasting text fault fits)
