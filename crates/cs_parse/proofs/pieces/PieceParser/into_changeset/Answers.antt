use Rattle.std.proofs.Common.{◌∙◌}
use Rattle.cs_parse.proofs.joining.FeedLaws.{ended_answer}
use Rattle.cs_parse.proofs.pieces.PieceParser.into_changeset.Goals as goal

pub returns-clause-text : goal.returns-clause-text
returns-clause-text c = λ text took. c.into_ended.ensures ∙ ended_answer c.args.self text took
