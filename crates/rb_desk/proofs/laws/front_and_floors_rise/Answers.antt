use Rattle.rb_desk.proofs.pictures.Replays.{front_rises_all, replayed_rise}
use Rattle.rb_desk.proofs.laws.front_and_floors_rise.Goals as goal

pub returns-clause-front : goal.returns-clause-front
returns-clause-front c = λ old steps. front_rises_all old steps

pub returns-clause-floors : goal.returns-clause-floors
returns-clause-floors c = λ old steps good. replayed_rise old steps good
