use Rattle.rb_core.proofs.whole_runs.DeskReplays.{desk_is_replay, desk_steps_are_counted}
use Rattle.rb_core.proofs.laws.desks_are_replays.Goals as goal

pub returns-clause-desk : goal.returns-clause-desk
returns-clause-desk c = λ limits schema events answers new run.
    desk_is_replay limits schema events answers new run.run

pub returns-clause-counted : goal.returns-clause-counted
returns-clause-counted c = λ limits schema events answers new run.
    desk_steps_are_counted limits schema events answers new run.run
