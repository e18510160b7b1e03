use Rattle.std.specs.Prelude.{◌++◌}
use Rattle.rb_core.specs.Told.{world_told}
use Rattle.rb_core.proofs.whole_runs.ToldLaws.{closed_run, left_run}
use Rattle.rb_core.proofs.laws.nothing_after_close.Goals as goal

pub returns-clause-sequence : goal.returns-clause-sequence
returns-clause-sequence c = λ limits schema events more answers later mid new last run on closing.
    closed_run schema mid new (world_told schema events answers) (world_told schema (events ++ more) (answers ++ later))
    last (c.runs_are_told.ensures.told limits schema events answers mid run).1
    (c.runs_are_told.ensures.goes_on limits schema events more answers later mid new run on) closing

pub returns-clause-subscription : goal.returns-clause-subscription
returns-clause-subscription c = λ limits schema events more answers later mid new s subscriber run on found closed.
    left_run schema new (world_told schema events answers) (world_told schema (events ++ more) (answers ++ later)) s
    subscriber (c.runs_are_told.ensures.goes_on limits schema events more answers later mid new run on) found closed
