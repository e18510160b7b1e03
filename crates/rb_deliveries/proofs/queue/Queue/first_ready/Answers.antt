use Rattle.std.proofs.Common.{◌≡◌, Some, None, sym, ap, ◌∙◌}
use Rattle.rb_deliveries.specs.Spans.{first_ready}
use Rattle.rb_deliveries.specs.Queues.{spans_of}
use Rattle.rb_deliveries.proofs.spans.QueueLaws.{first_ready_some, first_ready_none}
use Rattle.rb_deliveries.proofs.queue.Queue.first_ready.Goals as goal

pub returns-in-Some : goal.returns-in-Some
returns-in-Some c =
    let held : first_ready (spans_of c.args.self.now.held) ≡ Some c.in-Some.span =
    ap (λ k. first_ready (spans_of k.held)) (sym c.self.view_is) ∙ sym c.first_ready.ensures ∙ c.in-Some.is in
    first_ready_some c.args.batch c.args.front c.args.self.now c.in-Some.span held

pub returns-in-None : goal.returns-in-None
returns-in-None c =
    let held : first_ready (spans_of c.args.self.now.held) ≡ None =
    ap (λ k. first_ready (spans_of k.held)) (sym c.self.view_is) ∙ sym c.first_ready.ensures ∙ c.in-None.is in
    c.first_fresh.ensures ∙ first_ready_none c.args.batch c.args.front c.args.self.now held
