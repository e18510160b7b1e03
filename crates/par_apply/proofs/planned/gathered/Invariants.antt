use Rattle.std.proofs.Common.{◌≡◌, ◌++◌}
use Rattle.std.specs.Vec.Iter.{into_iter_items}
use Rattle.par_apply.specs.Workers.{changes_answered}
use Rattle.par_apply.proofs.planned.gathered.Given as goal

-- the changes so far, and those of the answers that are left, are all
abbrev pub invariant-loop-answer : goal.invariant-loop-answer
invariant-loop-answer l = l.list.items ++ changes_answered (into_iter_items l.answer-iterator)
    ≡ changes_answered l.fn.answers.items
