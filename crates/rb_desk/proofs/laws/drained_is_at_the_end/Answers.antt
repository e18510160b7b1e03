use Rattle.rb_desk.proofs.calls.TakeLaws.{drained_at_the_end}
use Rattle.rb_desk.proofs.laws.drained_is_at_the_end.Goals as goal

pub returns : goal.returns
returns c = λ old s link cursor now last. drained_at_the_end old s link cursor now last
