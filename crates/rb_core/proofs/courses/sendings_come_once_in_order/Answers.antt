use Rattle.rb_core.proofs.headline.Sendings.{all_are_sendings, in_order, once, sending_of_entry}
use Rattle.rb_core.proofs.courses.sendings_come_once_in_order.Goals as goal

pub returns-clause-order : goal.returns-clause-order
returns-clause-order c = λ mids new p sender. in_order mids new p sender

pub returns-clause-kept : goal.returns-clause-kept
returns-clause-kept c = λ mids new p sender. all_are_sendings mids new p sender

pub returns-clause-once : goal.returns-clause-once
returns-clause-once c = λ mids new i j a b. once mids new i j a b

pub returns-clause-sent : goal.returns-clause-sent
returns-clause-sent c = λ mids new i entry. sending_of_entry mids new i entry
