use Rattle.std.proofs.Common.{◌≡◌, ◌+◌, ◌++◌, ◌∷◌, [], Bool, cond, List, refl, arith}
use Rattle.std.proofs.lemmas.List.Sums.{sum_by-append, count_by-le-length}
use Rattle.rb_desk.specs.Journaled.{counted_steps, is_own}
use Rattle.rb_desk.specs.declared.step.Step.{Step}
use Rattle.rb_desk.proofs.laws.steps_are_counted.Goals as goal

one_more_counted : (kind : Step → Bool) (steps : List Step) (step : Step)
    → counted_steps kind (steps ++ step ∷ []) ≡ counted_steps kind steps + cond (kind step) 1 0
one_more_counted kind steps step =
    let both = sum_by-append (λ (x : Step). cond (kind x) 1 0) steps (step ∷ []) in
    omega (arith, both)

pub returns-clause-none : goal.returns-clause-none
returns-clause-none c kind = refl

pub returns-clause-more : goal.returns-clause-more
returns-clause-more c kind steps step = one_more_counted kind steps step

pub returns-clause-few : goal.returns-clause-few
returns-clause-few c kind steps = count_by-le-length kind steps

pub returns-clause-own : goal.returns-clause-own
returns-clause-own c old step picture = one_more_counted is_own old.steps step
