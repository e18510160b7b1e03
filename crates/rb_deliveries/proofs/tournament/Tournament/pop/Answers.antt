use Rattle.std.proofs.Common.{◌≡◌, ◌∙◌, ◌-◌, suc, ap, sym, subst, arith}
use Rattle.rb_deliveries.specs.Tournament.{IsTree, ranks_of}
use Rattle.rb_deliveries.proofs.orders.TreeLaws.{tree_popped, last_place}
use Rattle.rb_deliveries.proofs.tournament.Tournament.pop.Goals as goal

pub invariant_of-self : goal.invariant_of-self
invariant_of-self c =
    let less : c.self.inside.len ≡ suc (c.self.inside.len - 1) = omega (arith, c.if-self-gt0.true) in
    let tree = subst (IsTree c.self.inside.nodes.items c.self.inside.room) less c.self.invariant in
    let last = last_place c.self.inside.nodes.items c.self.inside.room (c.self.inside.len - 1) tree in
    (tree_popped c.self.inside.nodes.items c.put.new.nodes.items c.self.inside.room (c.self.inside.len - 1) last.0
    last.1
    tree last.2 c.put.ensures.long c.put.ensures.places c.put.ensures.inner).0

pub returns-then-self-gt0 : goal.returns-then-self-gt0
returns-then-self-gt0 c rest rank is =
    let less : c.self.inside.len ≡ suc (c.self.inside.len - 1) = omega (arith, c.if-self-gt0.true) in
    let tree = subst (IsTree c.self.inside.nodes.items c.self.inside.room) less c.self.invariant in
    (tree_popped c.self.inside.nodes.items c.put.new.nodes.items c.self.inside.room (c.self.inside.len - 1) rest rank
    tree
    (ap (ranks_of c.self.inside.nodes.items c.self.inside.room) (sym less) ∙ c.self.view_is ∙ is)
    c.put.ensures.long c.put.ensures.places c.put.ensures.inner).1
