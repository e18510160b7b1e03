use Rattle.std.proofs.Common.{refl, rules, subst, sym}
use Rattle.rb_desk.specs.Shown.{BoardSeen, MayReconnect}
use Rattle.rb_desk.proofs.calls.BoardLaws.{still_within}
use Rattle.rb_desk.proofs.board.Board.reconnect.Goals as goal

pub invariant_of-self : goal.invariant_of-self
invariant_of-self c =
    let t = subst (λ (b : BoardSeen). MayReconnect b.picture c.args.sub c.args.cursor)
    (sym c.self.view_is) c.in_ok-to_reconnect.ensures in
    rw (c.reconnect.ensures t.sub t.found) (still_within _ _ _ c.self.invariant refl refl refl)

pub returns-clause-draws : goal.returns-clause-draws
returns-clause-draws c =
    let t = subst (λ (b : BoardSeen). MayReconnect b.picture c.args.sub c.args.cursor)
    (sym c.self.view_is) c.in_ok-to_reconnect.ensures in
    rw (c.reconnect.ensures t.sub t.found, ← c.self.view_is) (search rules)
