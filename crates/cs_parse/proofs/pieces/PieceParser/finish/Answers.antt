use Rattle.cs_parse.proofs.joining.FeedLaws.{finish_found, finish_faulty}
use Rattle.cs_parse.proofs.pieces.PieceParser.finish.Goals as goal

pub returns-clause-found : goal.returns-clause-found
returns-clause-found c = finish_found c.finished.result c.args.self.now c.finished.ensures

pub returns-clause-faulty : goal.returns-clause-faulty
returns-clause-faulty c = finish_faulty c.finished.result c.args.self.now c.finished.ensures
