use Rattle.rb_core.specs.Told.{IsSender, world_told}
use Rattle.rb_core.proofs.whole_runs.Pairs.{paired_get, paired_as}
use Rattle.rb_core.specs.Headline.{HasTakenFed}
use Rattle.rb_core.proofs.laws.streams_take_what_is_fed.Goals as goal

pub returns-clause-stream : goal.returns-clause-stream
returns-clause-stream c = λ limits schema events answers new p publisher run found.
    let world = world_told schema events answers in
    let told = c.runs_are_told.ensures.told limits schema events answers new run in
    let at = paired_get IsSender new.publishers world.senders p publisher told.1.senders found in
    (at.0, at.1, at.2.stream)

pub returns-clause-all : goal.returns-clause-all
returns-clause-all c = λ limits schema events answers new run.
    paired_as IsSender HasTakenFed (λ publisher sender is. is.stream) new.publishers
    (world_told schema events answers).senders
    (c.runs_are_told.ensures.told limits schema events answers new run).1.senders
