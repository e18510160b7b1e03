use Rattle.std.proofs.Common.{arith}
use Rattle.cs_parse.specs.contracts.pieces.PieceParser.{the_view}
use Rattle.cs_parse.proofs.feeding.RestLaws.{rested}
use Rattle.cs_parse.proofs.pieces.PieceParser.fed_nothing.Goals as goal

pub returns-clause-fed : goal.returns-clause-fed
returns-clause-fed c = rw (← c.self.view_is) (rested (the_view c.self.inside) (omega (arith, c.self.invariant.0))
    c.self.invariant.3 c.in_default.is)
