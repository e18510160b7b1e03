use Rattle.std.proofs.Common.{arith}
use Rattle.rb_desk.specs.declared.step.Step.TheVariants as step
use Rattle.rb_desk.specs.Steps.{after_step}
use Rattle.rb_desk.proofs.pictures.Replays.{subscriptions_counted, subscribe_fits}
use Rattle.rb_desk.proofs.laws.only_subscribe_and_close.Goals as goal

pub returns-clause-subscribe : goal.returns-clause-subscribe
unfolding after_step
returns-clause-subscribe c = λ old start s link ok.
    let fits = subscribe_fits old start s link ok in
    (fits.0, fits.1, omega (arith, subscriptions_counted old (step.Subscribe start), fits.2))
