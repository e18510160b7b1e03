use Rattle.rb_close.proofs.DrainedLaws.{drained_accepted}
use Rattle.rb_close.proofs.laws.drained_has_accepted_all.Goals as goal

pub returns : goal.returns
returns c = drained_accepted
