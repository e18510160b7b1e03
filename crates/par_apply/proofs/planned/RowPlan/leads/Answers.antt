use Rattle.std.proofs.Common.{subst}
use Rattle.std.specs.Bool.{Decides}
use Rattle.cs_apply.specs.Changed.{IsChanged}
use Rattle.par_apply.specs.Planned.{planned_changes}
use Rattle.par_apply.specs.RowChanges.{RowChanges}
use Rattle.par_apply.proofs.workers.PlanLaws.{leads_decide}
use Rattle.par_apply.proofs.planned.RowPlan.leads.Goals as goal

pub returns : goal.returns
returns c =
    leads_decide c.args.before.now c.args.after.now (planned_changes c.args.self.now) c.is_changed_to.result
    (subst
    (λ (changes : RowChanges). Decides c.is_changed_to.result (IsChanged c.args.before.now changes c.args.after.now))
    c.changes.ensures.changes c.is_changed_to.ensures)
