use Rattle.std.proofs.Common.{ap, arith, IsOk, rules, subst, sym}
use Rattle.rb_desk.specs.Calls.{prepare}
use Rattle.rb_desk.specs.Shown.{BoardSeen}
use Rattle.rb_desk.proofs.calls.BoardLaws.{placed_is}
use Rattle.rb_desk.proofs.calls.CallLaws.{may_place, prepared}
use Rattle.rb_desk.proofs.board.Board.place.Goals as goal

pub place-requires : goal.place-requires
place-requires c =
    let ok = subst (λ (b : BoardSeen). IsOk (prepare b.picture)) (sym c.self.view_is) c.requires in
    record { room = omega (arith, (may_place _ ok).1, c.self.invariant.capacity) }

pub invariant_of-self : goal.invariant_of-self
invariant_of-self c =
    let ok = subst (λ (b : BoardSeen). IsOk (prepare b.picture)) (sym c.self.view_is) c.requires in
    let w = c.self.invariant in
    rw c.place.ensures (record {
      batch = w.batch;
      window = w.window;
      capacity = w.capacity;
      front = omega (arith, (may_place _ ok).1);
    })

pub returns-clause-number : goal.returns-clause-number
returns-clause-number c =
    let ok = subst (λ (b : BoardSeen). IsOk (prepare b.picture)) (sym c.self.view_is) c.requires in
    rw (c.front.ensures, c.place.ensures, ← c.self.view_is) (prepared _ ok)

pub returns-clause-picture : goal.returns-clause-picture
returns-clause-picture c =
    let d = c.self.inside in
    rw (c.place.ensures, ← c.self.view_is)
    (ap (λ p. record { picture = p; turns = d.deliveries.turns })
    (sym (placed_is d.config d.closing d.clock d.next_link d.deliveries.picture c.self.invariant)))

pub returns-clause-draws : goal.returns-clause-draws
returns-clause-draws c =
    rw (c.place.ensures, ← c.self.view_is) (search rules)
