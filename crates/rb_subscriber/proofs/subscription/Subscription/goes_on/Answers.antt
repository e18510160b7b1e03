use Rattle.std.proofs.Common.{ap, ◌∙◌}
use Rattle.rb_subscriber.specs.Lost.{pending_tokens, gone_on}
use Rattle.rb_subscriber.specs.Subscription.{SubscriptionState}
use Rattle.rb_subscriber.proofs.accepting.LostLaws.{goes_on_holds, goes_on_with, resumed_is}
use Rattle.rb_subscriber.proofs.subscription.Subscription.goes_on.Goals as goal

pub invariant_of-result : goal.invariant_of-result
invariant_of-result g c =
    let cells = g.L.StepLedger.cells in
    let s = c.self.inside in
    let inv = c.self.invariant in
    let goes = goes_on_with cells s.stake s.sub s.steps c.args.cursor c.cursor.result s.base.value c.args.tables s.batches.list s.end
    s.told.items c.joined-told.result.0.items c.joined-told.result.1.list s.pending c.args.self c.self.view_is c.requires.some
    c.requires.fits inv.1 inv.2 inv.8 inv.4 inv.0 c.cursor.ensures.value c.joined-told.ensures.told c.joined-told.ensures.batches in
    let holds = goes_on_holds cells s.base.value c.args.tables s.told.items (pending_tokens s.pending)
    c.joined-told.result.0.items c.joined-told.result.1.list c.args.cursor c.args.link s.end c.goes_on.result c.goes_on.ensures goes in (
      holds.0,
      holds.1,
      holds.2,
      holds.3,
      tt,
      tt,
      inv.6,
      inv.7,
      holds.4,
    )

pub returns : goal.returns
returns g c =
    let s = c.self.inside in
    let inv = c.self.invariant in
    let goes = goes_on_with g.L.StepLedger.cells s.stake s.sub s.steps c.args.cursor c.cursor.result s.base.value c.args.tables
    s.batches.list s.end s.told.items c.joined-told.result.0.items c.joined-told.result.1.list s.pending c.args.self c.self.view_is
    c.requires.some c.requires.fits inv.1 inv.2 inv.8 inv.4 inv.0 c.cursor.ensures.value c.joined-told.ensures.told
    c.joined-told.ensures.batches in
    resumed_is s.stake s.sub s.steps c.args.cursor c.cursor.result c.args.link s.base.value c.args.tables s.batches.list
    c.joined-told.result.1.list s.pending s.end c.goes_on.result s.told.items c.joined-told.result.0.items c.goes_on.ensures goes.cut
    c.joined-told.ensures.batches (c.cursor.ensures.value ∙ inv.0)
    ∙ ap (λ (x : SubscriptionState). gone_on x c.args.tables c.args.cursor c.args.link) c.self.view_is
