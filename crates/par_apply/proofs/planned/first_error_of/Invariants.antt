use Rattle.std.proofs.Common.{◌≡◌, None, drop}
use Rattle.par_apply.specs.Workers.{first_error_from}
use Rattle.par_apply.proofs.planned.first_error_of.Given as goal

-- the answers that are left decide
abbrev pub invariant-loop-answer : goal.invariant-loop-answer
invariant-loop-answer l = first_error_from l.best (drop l.answer-index l.answers) ≡ first_error_from None l.answers
