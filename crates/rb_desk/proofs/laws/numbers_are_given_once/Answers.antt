use Rattle.rb_desk.specs.Picture.{empty_picture}
use Rattle.rb_desk.proofs.pictures.Replays.{links_rise_all, numbers_rise_all}
use Rattle.rb_desk.proofs.laws.numbers_are_given_once.Goals as goal

pub returns-clause-links : goal.returns-clause-links
returns-clause-links c = λ limits steps. links_rise_all (empty_picture limits) steps

pub returns-clause-deliveries : goal.returns-clause-deliveries
returns-clause-deliveries c = λ limits steps. numbers_rise_all (empty_picture limits) steps
