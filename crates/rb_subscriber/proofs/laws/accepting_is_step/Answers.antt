use Rattle.rb_subscriber.proofs.accepting.AcceptLaws.{accepted_steps, steps_accepted}
use Rattle.rb_subscriber.proofs.laws.accepting_is_step.Goals as goal

pub returns : goal.returns
returns c = λ old entries delivery new.
    (accepted_steps old entries delivery new, steps_accepted old entries delivery new)
