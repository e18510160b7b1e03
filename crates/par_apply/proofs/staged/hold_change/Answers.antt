use Rattle.std.proofs.Common.{◌∷◌, ◌++◌, [], cond, ap, ◌∙◌}
use Rattle.par_apply.proofs.commits.StageLaws.{can_hold, held_back, held_stays}
use Rattle.par_apply.proofs.staged.hold_change.Goals as goal

pub returns-clause-ready : goal.returns-clause-ready
returns-clause-ready c =
    can_hold c.args.tables.now c.hold.new.self c.in_ok-own.own c.args.change.now c.in_ok-is_new.ensures.ok
    c.in_ok-own.ensures c.requires

pub returns-clause-stays : goal.returns-clause-stays
returns-clause-stays c =
    held_stays c.args.tables.now c.hold.new.self c.in_ok-own.own c.in_ok-is_new.ensures.ok

pub returns-clause-back : goal.returns-clause-back
returns-clause-back c = λ changes at.
    held_back c.args.tables.now c.hold.new.self changes c.args.made.now.items c.note.new.made.items c.args.index
    c.in_ok-own.own c.args.change.now.0 c.args.change.now.1 c.in_ok-is_new.is_new at
    (c.note.ensures ∙ ap (λ items. items ++ cond c.in_ok-is_new.is_new (c.args.index ∷ []) []) c.reserve.ensures.items)
    c.in_ok-is_new.ensures.ok c.in_ok-own.ensures c.in_ok-is_new.ensures.made
