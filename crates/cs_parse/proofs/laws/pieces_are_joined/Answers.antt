use Rattle.std.proofs.Common.{[]}
use Rattle.cs_parse.proofs.joining.PieceLaws.{kept_is_joined}
use Rattle.cs_parse.proofs.laws.pieces_are_joined.Goals as goal

pub returns : goal.returns
returns c = λ pieces fits. kept_is_joined [] pieces fits
