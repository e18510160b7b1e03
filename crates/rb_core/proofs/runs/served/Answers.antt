use Rattle.std.proofs.Common.{◌≡◌, sym, ◌∙◌, ap, take, ◌∷◌, [], ◌++◌, ◌+◌}
use Rattle.std.proofs.lemmas.List.{take_more}
use Rattle.rb_core.specs.declared.event.Event.{Event}
use Rattle.rb_core.specs.Run.{FeedsBytes}
use Rattle.rb_core.specs.State.{empty_world}
use Rattle.cs_model.proofs.CallerLemmas.{all_push}
use Rattle.rb_core.proofs.whole_runs.RunLaws.{Run-push, Stepped-from, runs_out-push}
use Rattle.rb_core.proofs.runs.served.Goals as goal

pub loop-event-preserved : goal.loop-event-preserved
loop-event-preserved c =
    let next = Run-push (empty_world c.args.config c.args.schema) c.loop-event.world c.serve-answer.new.self
    (take c.loop-event.event-index c.args.events.now) c.event-item.result c.loop-event.answers.items
    c.serve-answer.result c.loop-event.invariant.0
    (Stepped-from c.loop-event.world c.serve-answer.new.self c.event-item.result c.serve-answer.result
    c.serve-answer.ensures.ok c.serve-answer.ensures.err) in
    let events : take (c.loop-event.event-index + 1) c.args.events.now ≡ take c.loop-event.event-index c.args.events.now
    ++ c.event-item.result ∷ [] =
    take_more c.args.events.now c.loop-event.event-index c.event-item.result c.loop-event-test.true
    ∙ ap (λ (x : Event). take c.loop-event.event-index c.args.events.now ++ x ∷ []) (sym c.event-item.is) in
    let answers : c.push.new.self.items ≡ c.loop-event.answers.items ++ c.serve-answer.result ∷ [] =
    cc (c.in_ok-push.ensures.items, c.reserve.ensures.items) in
    rw (events, answers) (
      next,
      all_push FeedsBytes (take c.loop-event.event-index c.args.events.now)
          c.event-item.result c.loop-event.invariant.1 c.feeds_bytes.ensures,
      runs_out-push (empty_world c.args.config c.args.schema) c.loop-event.world
          (take c.loop-event.event-index c.args.events.now) c.event-item.result c.loop-event.answers.items
          c.serve-answer.result c.loop-event.invariant.0 c.loop-event.invariant.2 c.serve-answer.ensures.memory,
    )
