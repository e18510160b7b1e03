use Rattle.std.proofs.Common.{suc, ◌∙◌, sym, ap, subst}
use Rattle.rb_deliveries.specs.declared.sub.Sub.{Sub}
use Rattle.rb_deliveries.specs.Queues.{AreRising}
use Rattle.rb_deliveries.specs.Picture.{Subscription}
use Rattle.rb_deliveries.specs.Spans.{SpansRise}
use Rattle.rb_deliveries.specs.Subs.{Belongs}
use Rattle.rb_deliveries.proofs.subs.KnownLaws.{all_get}
use Rattle.rb_deliveries.proofs.spans.RisingLaws.{open_rises}
use Rattle.rb_deliveries.proofs.deliveries.Deliveries.get.Goals as goal

pub returns-clause-rising : goal.returns-clause-rising
returns-clause-rising c is =
    let d = c.self.inside in
    let sub = c.in_ok-sub.sub.now in
    let found = sym c.in_ok-sub.ensures in
    subst (λ (q : Subscription). SpansRise (suc q.floor) q.spans c.args.self.now.picture.front) (sym c.of.ensures)
    (rw (← c.self.view_is)
    (open_rises d.batch d.front d.turn d.next_delivery sub c.self.invariant.batch_is.0
    (all_get (Belongs d.front d.turn d.next_delivery) d.subs.subs c.args.s sub c.self.invariant.belong found)
    (all_get (λ (sub : Sub). AreRising sub.queue) d.subs.subs c.args.s sub c.rise.ensures found)
    (ap (λ (q : Subscription). q.closed) (sym c.of.ensures) ∙ is)))
