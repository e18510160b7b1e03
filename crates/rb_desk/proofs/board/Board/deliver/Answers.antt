use Rattle.std.proofs.Common.{refl, rules, subst, sym}
use Rattle.rb_deliveries.specs.Changes.{MayDeliver}
use Rattle.rb_desk.specs.Picture.{deliveries_of}
use Rattle.rb_desk.specs.Shown.{BoardSeen}
use Rattle.rb_desk.proofs.calls.BoardLaws.{still_within}
use Rattle.rb_desk.proofs.board.Board.deliver.Goals as goal

pub invariant_of-self-2 : goal.invariant_of-self-2
invariant_of-self-2 c =
    let t = subst (λ (b : BoardSeen). MayDeliver (deliveries_of b.picture) c.args.caller.sub c.args.span)
    (sym c.self.view_is) c.requires.may in
    rw (c.in_ok-number.ensures.ok t.sub t.found) (still_within _ _ _ c.self.invariant refl refl refl)

pub returns-clause-draws : goal.returns-clause-draws
returns-clause-draws c =
    let t = subst (λ (b : BoardSeen). MayDeliver (deliveries_of b.picture) c.args.caller.sub c.args.span)
    (sym c.self.view_is) c.requires.may in
    rw (c.in_ok-number.ensures.ok t.sub t.found, ← c.self.view_is) (search rules)
