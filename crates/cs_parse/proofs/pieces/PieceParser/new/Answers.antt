use Rattle.std.proofs.Common.{ℕ, List, ap}
use Rattle.cs_model.specs.Section.{Section}
use Rattle.cs_parse.proofs.joining.FeedLaws.{new_took}
use Rattle.cs_parse.proofs.pieces.PieceParser.new.Goals as goal

pub returns-clause-text : goal.returns-clause-text
returns-clause-text c =
    let none = c.new.ensures in
    new_took c.new.result.0 c.new.result.1 (ap (λ (x : List Section × List ℕ). x.0) none)
    (ap (λ (x : List Section × List ℕ). x.1) none)
