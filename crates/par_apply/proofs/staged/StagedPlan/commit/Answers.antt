use Rattle.std.proofs.Common.{◌∙◌, ap}
use Rattle.cs_apply.specs.Held.{HeldState}
use Rattle.par_apply.specs.Staged.{changes_staged}
use Rattle.par_apply.proofs.commits.CommitLaws.{changed_state}
use Rattle.par_apply.proofs.staged.StagedPlan.commit.Goals as goal

pub returns-clause-state : goal.returns-clause-state
returns-clause-state c = ap (λ (t : HeldState). t.state) c.change_all.ensures
    ∙ changed_state c.args.tables.now (changes_staged c.args.self)
