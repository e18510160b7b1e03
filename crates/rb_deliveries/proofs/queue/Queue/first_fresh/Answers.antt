use Rattle.std.proofs.Common.{◌≡◌, min, slice_get, sym, ap, ◌∙◌, arith}
use Rattle.rb_deliveries.proofs.spans.CutLaws.{cut_none, cut_some, cut_ends}
use Rattle.rb_deliveries.proofs.queue.Queue.first_fresh.Goals as goal

pub returns-then-front-self : goal.returns-then-front-self
returns-then-front-self c =
    rw (← c.self.view_is)
    (sym (ap (λ spans. slice_get spans 0) (cut_none c.args.batch c.self.inside.next c.args.front c.if-front-self.true)))

pub returns : goal.returns
returns c =
    let last : c.min.result ≡ cut_ends c.args.batch c.self.inside.next c.args.front =
    c.min.ensures ∙ ap (λ n. min n c.args.front) (omega (arith, c.requires)) in
    rw (← c.self.view_is, last)
    (sym (ap (λ spans. slice_get spans 0)
    (cut_some c.args.batch c.self.inside.next c.args.front c.requires.0 c.if-front-self.false)))
