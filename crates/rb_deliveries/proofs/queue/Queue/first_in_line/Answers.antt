use Rattle.std.proofs.Common.{◌≡◌, sym, ap, ◌∙◌, option_map, slice_get}
use Rattle.rb_deliveries.specs.Spans.{cut_spans}
use Rattle.rb_deliveries.specs.Queues.{better, least, with_birth}
use Rattle.rb_deliveries.proofs.spans.QueueLaws.{first_in_line_is}
use Rattle.rb_deliveries.proofs.queue.Queue.first_in_line.Goals as goal

pub returns : goal.returns
returns c =
    let held : c.first_in_line.result ≡ least c.args.self.now.held = c.first_in_line.ensures
    ∙ ap (λ k. least k.held) c.self.view_is in
    let fresh : c.given_to-fresh.result
    ≡ option_map (with_birth c.args.self.now.cutting)
    (slice_get (cut_spans c.args.batch c.args.self.now.next c.args.front) 0) =
    c.given_to-fresh.ensures ∙ (λ i. option_map (with_birth (c.self.view_is i).cutting) (c.first_fresh.ensures i)) in
    c.sooner.ensures ∙ (λ i. better (held i) (fresh i))
    ∙ sym (first_in_line_is c.args.batch c.args.front c.args.self.now c.requires.0)
