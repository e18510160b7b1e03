use Rattle.rb_desk.proofs.calls.TakeLaws.{take_as_asked}
use Rattle.rb_desk.proofs.laws.takes_are_as_asked.Goals as goal

pub returns : goal.returns
returns c = take_as_asked
