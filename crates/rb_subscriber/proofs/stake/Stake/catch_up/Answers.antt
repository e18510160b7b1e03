use Rattle.std.proofs.Common.{ap, sym, ◌∙◌, subst}
use Rattle.rb_desk.specs.declared.step.Step.{Step}
use Rattle.rb_history.specs.Kept.{count_under}
use Rattle.rb_history.specs.declared.chronicle.Chronicle.{Chronicle}
use Rattle.rb_subscriber.specs.Owner.{OthersSince, Owner}
use Rattle.rb_subscriber.proofs.HistoryLaws.{since_it_looked}
use Rattle.rb_subscriber.proofs.stake.Stake.catch_up.Goals as goal

pub returns-clause-others : goal.returns-clause-others
returns-clause-others g c =
    let mine = c.self.inside in
    subst (λ (o : Owner). OthersSince o c.args.all.now.log) c.self.view_is
    (since_it_looked (record { number = mine.hand.number; seen = mine.seen.log }) mine.hand.made c.args.all.now.log c.admit.ensures.1
    c.self.invariant.2
    (ap (λ (all : Chronicle Step). count_under mine.hand.number all.log) (sym c.admit.ensures.0) ∙ c.audit.ensures.2))
