use Rattle.rb_desk.proofs.pictures.Replays.{replay_keeps}
use Rattle.rb_desk.proofs.laws.replays_are_pictures.Goals as goal

pub returns : goal.returns
returns c = λ limits steps ranges. replay_keeps limits steps ranges
