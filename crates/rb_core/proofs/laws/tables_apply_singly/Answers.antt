use Rattle.rb_core.specs.Told.{all_tables_asked, world_told}
use Rattle.rb_core.proofs.whole_runs.BaseRuns.{asked_at}
use Rattle.rb_core.proofs.whole_runs.ToldLaws.{singly_run}
use Rattle.rb_core.proofs.laws.tables_apply_singly.Goals as goal

pub returns : goal.returns
returns c = λ limits schema events answers new s subscriber run found.
    let is = singly_run c.tables_apply_singly.ensures schema new (world_told schema events answers) s subscriber
    (c.runs_are_told.ensures.told limits schema events answers new run) found
    (c.bodies_are_changesets.ensures limits schema events answers new run).sequence
    (c.accepted_is_gapless.ensures.run limits schema events answers new s subscriber run found).1 in (
      is.0,
      is.1,
      is.2,
      asked_at _ (all_tables_asked schema events answers) s subscriber
          (c.subscriptions_begin_as_asked.ensures schema events answers) found,
    )
