use Rattle.rb_desk.proofs.pictures.Replays.{after_keeps}
use Rattle.rb_desk.proofs.laws.calls_keep_pictures.Goals as goal

pub returns : goal.returns
returns c = λ old step good. after_keeps old step good
