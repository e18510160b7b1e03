use Rattle.rb_core.proofs.whole_runs.AcceptedCursor.{accepted_says_cursor}
use Rattle.rb_subscriber.specs.Accept.{brought}
use Rattle.rb_core.proofs.laws.accepted_tells_the_cursor.Goals as goal

pub returns : goal.returns
returns c = λ old d s cursor new says. accepted_says_cursor (λ old sequence delivery. c.accepting_is_step.ensures old (brought sequence delivery) delivery) old d s cursor new says
