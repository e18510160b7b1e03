use Rattle.std.proofs.Common.{refl, rules, subst, sym}
use Rattle.rb_desk.specs.Shown.{BoardSeen, IsInFlight}
use Rattle.rb_desk.proofs.calls.BoardLaws.{still_within}
use Rattle.rb_desk.proofs.board.Board.nack_opened.Goals as goal

pub invariant_of-self-2 : goal.invariant_of-self-2
invariant_of-self-2 c =
    let t = subst (λ (b : BoardSeen). IsInFlight b.picture c.args.caller.sub c.args.caller.link c.args.delivery
    c.in_ok-span.span) (sym c.self.view_is) c.in_ok-span.ensures in
    rw (c.in_ok-nack_opened.ensures.ok t.sub t.found) (still_within _ _ _ c.self.invariant refl refl refl)

pub returns-clause-draws : goal.returns-clause-draws
returns-clause-draws c =
    let t = subst (λ (b : BoardSeen). IsInFlight b.picture c.args.caller.sub c.args.caller.link c.args.delivery
    c.in_ok-span.span) (sym c.self.view_is) c.in_ok-span.ensures in
    rw (c.in_ok-nack_opened.ensures.ok t.sub t.found, ← c.self.view_is) (search rules)
