use Rattle.rb_desk.specs.Calls.{subscribe, take, take_any, ack, nack, nack_opened, reconnect, unsubscribe}
use Rattle.rb_desk.proofs.outlines.Outlines.{left_alone}
use Rattle.rb_desk.proofs.outlines.OutlineCalls.{Joined, TookOf, OutlineCallsTook, Stays, Relinked, Gone}
use Rattle.rb_desk.proofs.outlines.OutlineCalls.{outline_calls_subscribe_tells, outline_calls_take_tells}
use Rattle.rb_desk.proofs.outlines.OutlineCalls.{outline_calls_take_any_tells, outline_calls_ack_tells}
use Rattle.rb_desk.proofs.outlines.OutlineCalls.{outline_calls_nack_tells, outline_calls_nack_opened_tells}
use Rattle.rb_desk.proofs.outlines.OutlineCalls.{outline_calls_reconnect_tells}
use Rattle.rb_desk.proofs.outlines.OutlineCalls.{outline_calls_unsubscribe_tells}
use Rattle.rb_desk.proofs.laws.refused_calls_change_nothing.Goals as goal

pub returns-clause-subscribe : goal.returns-clause-subscribe
returns-clause-subscribe c = λ old start why new is. left_alone old new (Joined old start) (subscribe old start) why
    (outline_calls_subscribe_tells old start) is

pub returns-clause-take : goal.returns-clause-take
returns-clause-take c = λ old s link cursor now why new is. left_alone old new (TookOf old s)
    (take old s link cursor now) why (outline_calls_take_tells old s link cursor now) is

pub returns-clause-take_any : goal.returns-clause-take_any
returns-clause-take_any c = λ old now why new is. left_alone old new (OutlineCallsTook old) (take_any old now) why
    (outline_calls_take_any_tells old now) is

pub returns-clause-ack : goal.returns-clause-ack
returns-clause-ack c = λ old s link number cursor why new is. left_alone old new (Stays old)
    (ack old s link number cursor) why (outline_calls_ack_tells old s link number cursor) is

pub returns-clause-nack : goal.returns-clause-nack
returns-clause-nack c = λ old s link number why new is. left_alone old new (Stays old) (nack old s link number) why
    (outline_calls_nack_tells old s link number) is

pub returns-clause-nack_opened : goal.returns-clause-nack_opened
returns-clause-nack_opened c = λ old s link number why new is. left_alone old new (Stays old)
    (nack_opened old s link number) why (outline_calls_nack_opened_tells old s link number) is

pub returns-clause-reconnect : goal.returns-clause-reconnect
returns-clause-reconnect c = λ old s cursor why new is. left_alone old new (Relinked old s) (reconnect old s cursor) why
    (outline_calls_reconnect_tells old s cursor) is

pub returns-clause-unsubscribe : goal.returns-clause-unsubscribe
returns-clause-unsubscribe c = λ old s link why new is. left_alone old new (Gone old s) (unsubscribe old s link) why
    (outline_calls_unsubscribe_tells old s link) is
