use Rattle.std.proofs.Common.{sym, arith}
use Rattle.rb_core.proofs.invariants.Marks.{mark_set}
use Rattle.rb_core.proofs.withdrawing.set_mark.Goals as goal

pub returns-then-place-len-clause-ok : goal.returns-then-place-len-clause-ok
returns-then-place-len-clause-ok c =
    sym (mark_set c.args.place c.args.marks.now.items
    (omega (arith, c.if-place-len.true, c.len.ensures, c.args.marks.now.ok)))
