use Rattle.std.proofs.Common.{◌∙◌, ap, subst, sym, length, slice_set, ◌<◌}
use Rattle.rb_deliveries.proofs.orders.TreeLaws.{tree_set}
use Rattle.rb_deliveries.proofs.tournament.Tournament.set.Goals as goal

pub invariant_of-self : goal.invariant_of-self
invariant_of-self c =
    (tree_set c.self.inside.nodes.items _ c.self.inside.room c.self.inside.len c.args.place c.args.rank c.leaf.result
    c.self.invariant (subst (λ l. c.args.place < length l) (sym c.self.view_is) c.requires) c.leaf.ensures
    c.put.ensures.long c.put.ensures.places c.put.ensures.inner).0

pub returns : goal.returns
returns c =
    (tree_set c.self.inside.nodes.items _ c.self.inside.room c.self.inside.len c.args.place c.args.rank c.leaf.result
    c.self.invariant (subst (λ l. c.args.place < length l) (sym c.self.view_is) c.requires) c.leaf.ensures
    c.put.ensures.long c.put.ensures.places c.put.ensures.inner).1
    ∙ ap (λ l. slice_set l c.args.place c.args.rank) c.self.view_is
