use Rattle.rb_core.proofs.whole_runs.BaseRuns.{bases_are_asked}
use Rattle.rb_core.proofs.laws.subscriptions_begin_as_asked.Goals as goal

pub returns : goal.returns
returns c = bases_are_asked
