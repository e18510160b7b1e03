use Rattle.std.proofs.Common.{arith, ◌∙◌, ap, None}
use Rattle.std.proofs.lemmas.List.{get_or_default}
use Rattle.rb_deliveries.specs.Tournament.{winner_from}
use Rattle.rb_deliveries.proofs.orders.TreeLaws.{first_wins}
use Rattle.rb_deliveries.proofs.tournament.Tournament.winner.Goals as goal

pub returns : goal.returns
returns c =
    let tree = c.self.invariant in
    c.index.ensures
    ∙ get_or_default c.self.inside.nodes.items 1 _ None (omega (arith, tree.long, tree.fits, c.if-self-eq0.false))
    ∙ first_wins c.self.inside.nodes.items c.self.inside.room c.self.inside.len tree
    (omega (arith, tree.fits, c.if-self-eq0.false))
    ∙ ap (winner_from 0) c.self.view_is
