use Rattle.std.proofs.lemmas.Result.{IfOk-weaker}
use Rattle.rb_run.proofs.Given.{program_fails, program_matches}
use Rattle.rb_run.proofs.job.parse_words.Goals as goal

pub returns-clause-ok : goal.returns-clause-ok
returns-clause-ok c = IfOk-weaker c.try_get_matches_from.result _ _
    (λ found h. program_matches _ _ found c.in_ok-program.ensures.app h) c.try_get_matches_from.ensures.matches

pub returns-clause-kinds : goal.returns-clause-kinds
returns-clause-kinds c =
    program_fails _ _ c.try_get_matches_from.result c.in_ok-program.ensures.app c.try_get_matches_from.ensures.kinds
