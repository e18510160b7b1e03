use Rattle.std.proofs.Common.{ap, sym, ◌∙◌}
use Rattle.rb_history.specs.Kept.{count_under}
use Rattle.rb_subscriber.specs.Owner.{Owner}
use Rattle.rb_subscriber.proofs.HistoryLaws.{counts_one}
use Rattle.rb_subscriber.proofs.stake.Stake.enroll.Goals as goal

pub invariant_of-self : goal.invariant_of-self
invariant_of-self g c =
    let mine = c.self.inside in
    let added = c.enroll-hand.ensures in
    let whole = ap (λ (o : Owner). o.seen) c.self.view_is ∙ c.requires.seen in (
      added.2 ∙ c.self.invariant.0,
      c.front.ensures.1 ∙ added.0 ∙ c.requires.name,
      ap (λ k. count_under k c.front.result.log) added.3
          ∙ counts_one mine.hand.number mine.hand.made c.enroll-hand.new.hand.made mine.seen.log c.args.all.now.log
          c.front.result.log _ whole c.self.invariant.2 (c.front.ensures.2 ∙ added.1) added.4,
    )
