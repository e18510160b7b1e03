use Rattle.rb_core.proofs.headline.Closing.{nothing_placed, nothing_accepted}
use Rattle.rb_core.proofs.courses.nothing_after_close.Goals as goal

pub returns-clause-sequence : goal.returns-clause-sequence
returns-clause-sequence c = λ old mids new last. nothing_placed old mids new last

pub returns-clause-subscription : goal.returns-clause-subscription
returns-clause-subscription c = λ old mids new s subscriber. nothing_accepted old mids new s subscriber
