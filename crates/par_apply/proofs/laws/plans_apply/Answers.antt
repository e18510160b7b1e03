use Rattle.par_apply.proofs.workers.PlanLaws.{plan_leaves}
use Rattle.par_apply.proofs.laws.plans_apply.Goals as goal

pub returns : goal.returns
returns c = λ tables sections changes plan.
    (plan_leaves tables sections changes plan, plan.changed.0, plan.fit)
