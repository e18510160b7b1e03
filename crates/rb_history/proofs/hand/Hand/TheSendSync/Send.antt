use denote.RattleType.{RattleType}
use denote.Param.Send.{IsSend}
use Rattle.rb_history.specs.contracts.hand.Hand.{the_row}
use Rattle.rb_history.proofs.Steps.{hand_keyless}

pub send : (T : RattleType) → IsSend (the_row T)
send T = record { owned = λ d vs. ((λ vss. (tt, ((λ uss. (tt, tt)), tt))), hand_keyless d.name d.number d.made); leaving = λ k f vs. tt }
