use Rattle.std.proofs.Common.{◌∙◌}
use Rattle.rb_cases.proofs.Joins.{chosen_by_last}
use Rattle.rb_cases.proofs.joining.one_of.Goals as goal

pub returns : goal.returns
returns c = c.first_other.ensures
    ∙ chosen_by_last (λ answer. answer.now) c.args.answers.now _ _ c.in-Some.ensures.cases.0
