use Rattle.cs_parse.proofs.joining.FeedLaws.{take_spelled}
use Rattle.cs_parse.proofs.pieces.PieceParser.take.Goals as goal

pub returns-clause-text : goal.returns-clause-text
returns-clause-text c = take_spelled c.args.self.now c.taken.result c.taken.ensures.changeset
