use Rattle.rb_core.specs.Told.{world_told}
use Rattle.rb_core.proofs.whole_runs.ToldLaws.{gapless_run}
use Rattle.rb_core.proofs.laws.accepted_is_gapless.Goals as goal

pub returns-clause-run : goal.returns-clause-run
returns-clause-run c = λ limits schema events answers new s subscriber run found.
    gapless_run c.accepted_is_gapless.ensures schema new (world_told schema events answers) s subscriber
    (c.runs_are_told.ensures.told limits schema events answers new run) found

pub returns-clause-all : goal.returns-clause-all
returns-clause-all c = λ limits schema events answers new run.
    (c.runs_are_told.ensures.told limits schema events answers new run).1.subscriptions.ends
