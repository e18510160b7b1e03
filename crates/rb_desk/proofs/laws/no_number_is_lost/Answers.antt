use Rattle.rb_desk.proofs.history.Histories.{each_accounted, in_one, none_settled}
use Rattle.rb_desk.proofs.acks.AckedNumbers.{not_again}
use Rattle.rb_desk.proofs.laws.no_number_is_lost.Goals as goal

pub returns-clause-accounted : goal.returns-clause-accounted
returns-clause-accounted c =
    λ limits steps s q n ranges here runs low high. each_accounted limits ranges steps s q n here runs low high

pub returns-clause-once : goal.returns-clause-once
returns-clause-once c = λ limits steps s q n ranges here. in_one limits ranges steps s q n here

pub returns-clause-settled : goal.returns-clause-settled
returns-clause-settled c = λ limits steps s q n ranges here le. none_settled limits ranges steps s q n here le

pub returns-clause-not_again : goal.returns-clause-not_again
returns-clause-not_again c = λ limits steps s q n ranges here was. not_again limits ranges steps s q n here was
