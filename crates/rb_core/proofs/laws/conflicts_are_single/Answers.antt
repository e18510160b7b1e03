use Rattle.rb_core.specs.Told.{world_told}
use Rattle.rb_core.proofs.whole_runs.ConflictRuns.{refuses_conflict, conflict_in_run}
use Rattle.rb_subscriber.specs.Accept.{brought}
use Rattle.rb_core.proofs.laws.conflicts_are_single.Goals as goal

pub returns : goal.returns
returns c = λ limits schema events answers old d conflict new run given.
    conflict_in_run (λ old sequence delivery. c.conflicts_are_single.ensures old (brought sequence delivery) delivery) (record {
      step = (λ old sequence delivery. c.accepting_is_step.ensures old (brought sequence delivery) delivery);
      single = (λ old sequence delivery. c.accepted_apply_singly.ensures old (brought sequence delivery) delivery);
      rows = c.rows_keep_columns.ensures;
    }) schema old (world_told schema events answers) d conflict
    (c.runs_are_told.ensures.told limits schema events answers old run)
    (c.bodies_are_changesets.ensures limits schema events answers old run).sequence
    (refuses_conflict old d conflict new given)
