use Rattle.std.specs.Prelude.{[]}
use Rattle.rb_core.proofs.whole_runs.TellRuns.{TellRunsLaws, tell_runs_are_told, tell_runs_go_on, run_is_world}
use Rattle.rb_subscriber.specs.Accept.{brought}
use Rattle.rb_core.proofs.laws.runs_are_told.Goals as goal

-- all laws that are called
laws_of : goal.After-progress_tells → TellRunsLaws
laws_of c = record {
  keeps = c.events_keep_worlds.ensures;
  begins = c.progress_goes_on.ensures.begins;
  goes = c.progress_goes_on.ensures.goes;
  tells = c.progress_tells.ensures.answer;
  place = c.calls_show_in_outline.ensures.place;
  close = c.calls_show_in_outline.ensures.close;
  subscribe = c.calls_show_in_outline.ensures.subscribe;
  reconnect = c.calls_show_in_outline.ensures.reconnect;
  unsubscribe = c.calls_show_in_outline.ensures.unsubscribe;
  take = c.calls_show_in_outline.ensures.take;
  take_any = c.calls_show_in_outline.ensures.take_any;
  accept = (λ old sequence delivery. c.accepting_is_step.ensures old (brought sequence delivery) delivery);
  ack = c.calls_show_in_outline.ensures.ack;
  nack = c.calls_show_in_outline.ensures.nack;
  nack_opened = c.calls_show_in_outline.ensures.nack_opened;
  expire = c.calls_show_in_outline.ensures.expire;
}

pub returns-clause-told : goal.returns-clause-told
returns-clause-told c = λ limits schema events answers new run.
    tell_runs_are_told (laws_of c) limits schema events answers new
    (c.replays_are_pictures.ensures limits [] run.ranges)
    run.feeds run.run

pub returns-clause-goes_on : goal.returns-clause-goes_on
returns-clause-goes_on c = λ limits schema events more answers later mid new run on.
    tell_runs_go_on (laws_of c) limits schema events more answers later mid new
    (c.replays_are_pictures.ensures limits [] run.ranges)
    run.feeds on.feeds run.run on.run

pub returns-clause-world : goal.returns-clause-world
returns-clause-world c = λ limits schema events answers new run.
    run_is_world (laws_of c) limits schema events answers new (c.replays_are_pictures.ensures limits [] run.ranges)
    run.run
