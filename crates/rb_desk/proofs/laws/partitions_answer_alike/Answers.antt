use Rattle.rb_desk.proofs.full.FullAnswers as alike
use Rattle.rb_desk.proofs.laws.partitions_answer_alike.Goals as goal

pub returns-clause-subscribe : goal.returns-clause-subscribe
returns-clause-subscribe c = λ limits steps start ranges. alike.subscribe_alike limits ranges steps start

pub returns-clause-take : goal.returns-clause-take
returns-clause-take c = λ limits steps s link cursor now ranges. alike.take_alike limits ranges steps s link cursor now

pub returns-clause-take_any : goal.returns-clause-take_any
returns-clause-take_any c = λ limits steps now ranges. alike.take_any_alike limits ranges steps now

pub returns-clause-ack : goal.returns-clause-ack
returns-clause-ack c = λ limits steps s link number cursor ranges. alike.ack_alike limits ranges steps s link number
    cursor

pub returns-clause-nack : goal.returns-clause-nack
returns-clause-nack c = λ limits steps s link number ranges. alike.nack_alike limits ranges steps s link number

pub returns-clause-nack_opened : goal.returns-clause-nack_opened
returns-clause-nack_opened c = λ limits steps s link number ranges. alike.nack_opened_alike limits ranges steps s link
    number

pub returns-clause-expire : goal.returns-clause-expire
returns-clause-expire c = λ limits steps now ranges. alike.expire_alike limits ranges steps now

pub returns-clause-reconnect : goal.returns-clause-reconnect
returns-clause-reconnect c = λ limits steps s cursor ranges. alike.reconnect_alike limits ranges steps s cursor

pub returns-clause-unsubscribe : goal.returns-clause-unsubscribe
returns-clause-unsubscribe c = λ limits steps s link ranges. alike.unsubscribe_alike limits ranges steps s link

pub returns-clause-prepare : goal.returns-clause-prepare
returns-clause-prepare c = λ limits steps ranges. alike.prepare_alike limits ranges steps

pub returns-clause-close : goal.returns-clause-close
returns-clause-close c = λ limits steps ranges. alike.close_alike limits ranges steps
