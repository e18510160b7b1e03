use Rattle.rb_desk.proofs.pictures.Replays.{limits_stay}
use Rattle.rb_desk.proofs.laws.calls_keep_limits.Goals as goal

pub returns : goal.returns
returns c = λ old step. limits_stay old step
