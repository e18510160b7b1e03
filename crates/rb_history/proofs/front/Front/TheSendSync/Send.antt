use denote.RattleType.{RattleType}
use denote.Param.Send.{IsSend}
use Rattle.rb_history.specs.contracts.front.Front.{the_row}
use Rattle.rb_history.proofs.Steps.{front_keyless}

pub send : (T : RattleType) → IsSend (the_row T)
send T = record { owned = λ d vs. ((λ vss. (tt, ((λ uss. (tt, tt)), tt))), front_keyless T.coded.code d.name d.log); leaving = λ k f vs. tt }
