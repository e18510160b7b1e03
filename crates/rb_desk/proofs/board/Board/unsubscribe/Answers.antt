use Rattle.std.proofs.Common.{refl, rules, subst, sym}
use Rattle.std.proofs.lemmas.Option.{slice_get_within}
use Rattle.rb_desk.specs.Shown.{BoardSeen, MayClose}
use Rattle.rb_desk.proofs.calls.BoardLaws.{still_within}
use Rattle.rb_desk.proofs.board.Board.unsubscribe.Goals as goal

pub unsubscribe-requires : goal.unsubscribe-requires
unsubscribe-requires c =
    let t = subst (λ (b : BoardSeen). MayClose b.picture c.args.caller.sub c.args.caller.link)
    (sym c.self.view_is) c.in_ok-to_close.ensures in
    record { there = slice_get_within _ c.args.caller.sub t.sub t.found }

pub invariant_of-self : goal.invariant_of-self
invariant_of-self c =
    let t = subst (λ (b : BoardSeen). MayClose b.picture c.args.caller.sub c.args.caller.link)
    (sym c.self.view_is) c.in_ok-to_close.ensures in
    rw (c.unsubscribe.ensures t.sub t.found) (still_within _ _ _ c.self.invariant refl refl refl)

pub returns-clause-draws : goal.returns-clause-draws
returns-clause-draws c =
    let t = subst (λ (b : BoardSeen). MayClose b.picture c.args.caller.sub c.args.caller.link)
    (sym c.self.view_is) c.in_ok-to_close.ensures in
    rw (c.unsubscribe.ensures t.sub t.found, ← c.self.view_is) (search rules)
