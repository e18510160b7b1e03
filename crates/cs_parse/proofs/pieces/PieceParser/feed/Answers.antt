use Rattle.std.proofs.Common.{arith}
use Rattle.cs_parse.proofs.joining.FeedLaws.{feed_told, feed_going, feed_taken, feed_again}
use Rattle.cs_parse.proofs.pieces.PieceParser.feed.Goals as goal

pub returns-clause-told : goal.returns-clause-told
returns-clause-told c = feed_told c.fed.result c.args.self.now c.args.piece.now c.fed.new.self
    (λ i. omega (arith, c.type_inv.piece i)) c.fed.ensures.fed

pub returns-clause-going : goal.returns-clause-going
returns-clause-going c = feed_going c.fed.result c.args.self.now c.args.piece.now c.fed.new.self
    (λ i. omega (arith, c.type_inv.piece i)) c.fed.ensures.fed

pub returns-clause-taken : goal.returns-clause-taken
returns-clause-taken c = feed_taken c.fed.result c.args.self.now c.args.piece.now c.fed.new.self
    (λ i. omega (arith, c.type_inv.piece i)) c.fed.ensures.fed

pub returns-clause-again : goal.returns-clause-again
returns-clause-again c = feed_again c.fed.result c.args.self.now c.fed.ensures.again
