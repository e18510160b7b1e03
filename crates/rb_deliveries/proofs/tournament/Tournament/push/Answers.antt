use Rattle.std.proofs.Common.{arith, ◌≡◌, ◌∙◌, ◌+◌, ◌<◌, ◌++◌, ◌∷◌, [], refl, ap, subst, suc, drop, slice_set}
use Rattle.rb_deliveries.specs.Tournament.{IsTree, ranks_of}
use Rattle.rb_deliveries.proofs.orders.TreeLaws.{tree_pushed}
use Rattle.rb_deliveries.proofs.tournament.Tournament.push.Goals as goal
use Rattle.rb_deliveries.proofs.tournament.Tournament.push.Goals.{After-put, then-self+in_ok-nodes, else-self}

-- with room for another place, the tree has the same ranks
has_place : (c : After-put) → IsTree c.if-self.self-inside.nodes.items c.if-self.self-inside.room
    c.if-self.self-inside.len
    × (c.if-self.self-inside.len < c.if-self.self-inside.room)
    × (ranks_of c.if-self.self-inside.nodes.items c.if-self.self-inside.room c.if-self.self-inside.len
    ≡ ranks_of c.self.inside.nodes.items c.self.inside.room c.self.inside.len)
has_place c = elim c.if-self.branch [
  | then-self+in_ok-nodes w ↦
      let wider = w.in_ok-nodes.ensures in
      rw (w.self-inside-is, w.if-self.true) (
        wider.0,
        wider.1,
        wider.2 ∙ ap (λ nodes. ranks_of nodes c.self.inside.room c.self.inside.room) w.deref.ensures.value,
      )
  | else-self w ↦ rw w.self-inside-is (c.self.invariant, omega (arith, w.if-self, c.self.invariant.fits), refl)
]

pub invariant_of-self : goal.invariant_of-self
invariant_of-self c =
    let old = has_place c.before in
    subst (λ n. IsTree c.put.new.nodes.items c.if-self.self-inside.room n)
    (let e : suc c.if-self.self-inside.len ≡ c.if-self.self-inside.len + 1 = omega arith in e)
    (tree_pushed c.if-self.self-inside.nodes.items c.put.new.nodes.items c.if-self.self-inside.room
    c.if-self.self-inside.len c.args.rank old.0 old.1 c.put.ensures.long (c.put.ensures.places
    ∙ ap (λ leaf. drop c.if-self.self-inside.room (slice_set c.if-self.self-inside.nodes.items
    (c.if-self.self-inside.room + c.if-self.self-inside.len) leaf)) c.leaf.ensures) c.put.ensures.inner).0

pub returns-clause-ok : goal.returns-clause-ok
returns-clause-ok c =
    let old = has_place c.before in
    ap (ranks_of c.put.new.nodes.items c.if-self.self-inside.room)
    (let e : c.if-self.self-inside.len + 1 ≡ suc c.if-self.self-inside.len = omega arith in e)
    ∙ (tree_pushed c.if-self.self-inside.nodes.items c.put.new.nodes.items c.if-self.self-inside.room
    c.if-self.self-inside.len c.args.rank old.0 old.1 c.put.ensures.long (c.put.ensures.places
    ∙ ap (λ leaf. drop c.if-self.self-inside.room (slice_set c.if-self.self-inside.nodes.items
    (c.if-self.self-inside.room + c.if-self.self-inside.len) leaf)) c.leaf.ensures) c.put.ensures.inner).1
    ∙ ap (λ l. l ++ c.args.rank ∷ []) (old.2 ∙ c.self.view_is)
