use Rattle.std.proofs.Common.{◌∙◌}
use Rattle.par_apply.specs.Planned.{planned_changes}
use Rattle.par_apply.specs.Staged.{changes_staged}
use Rattle.par_apply.proofs.workers.PlanLaws.{plan_done}
use Rattle.par_apply.proofs.whole.commit.Goals as goal

pub returns-in-Ok-clause-ok : goal.returns-in-Ok-clause-ok
returns-in-Ok-clause-ok c =
    plan_done c.args.tables.now c.stage.new.tables.state c.commit.new.tables.state c.args.changeset.now
    (planned_changes c.args.plan) (changes_staged c.in-Ok.staged) c.requires c.commit.ensures.state
    c.in-Ok.ensures.changes
    (c.in-Ok.ensures.state ∙ c.places_mut-places.ensures.value)
