use Rattle.rb_subscriber.proofs.runs.RunLaws.{brought_after, run_goes_on, run_stays}
use Rattle.rb_subscriber.proofs.laws.accepted_is_a_run.Goals as goal

pub returns-clause-goes_on : goal.returns-clause-goes_on
returns-clause-goes_on c = λ old sequence delivery new. run_goes_on old sequence delivery new

pub returns-clause-stays : goal.returns-clause-stays
returns-clause-stays c = λ endpoint sequence more. run_stays endpoint sequence more

pub returns-clause-brought : goal.returns-clause-brought
returns-clause-brought c = λ sequence delivery cursor. brought_after sequence delivery cursor
