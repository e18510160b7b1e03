use Rattle.rb_core.specs.Told.{world_told}
use Rattle.rb_core.proofs.whole_runs.BareRuns.{bare_rows, bare_conflicts}
use Rattle.rb_core.proofs.laws.bare_subscriptions_keep_no_rows.Goals as goal

pub returns-clause-rows : goal.returns-clause-rows
returns-clause-rows c = λ limits schema events answers new s subscriber run found.
    let is = c.tables_are_of_batches.ensures limits schema events answers new s subscriber run found in
    bare_rows schema new (world_told schema events answers) s subscriber
    (c.runs_are_told.ensures.told limits schema events answers new run).1 found (is.0, is.1, is.2)

pub returns-clause-conflicts : goal.returns-clause-conflicts
returns-clause-conflicts c =
    λ limits schema events answers old d delivery subscriber conflict new run known found base given.
    let is = c.tables_are_of_batches.ensures limits schema events answers old delivery.sub subscriber run found in
    bare_conflicts schema old (world_told schema events answers) d delivery subscriber known found
    (bare_rows schema old (world_told schema events answers) delivery.sub subscriber
    (c.runs_are_told.ensures.told limits schema events answers old run).1 found
    (is.0, is.1, is.2) base)
    (c.conflicts_are_single.ensures limits schema events answers old d conflict new run given)
