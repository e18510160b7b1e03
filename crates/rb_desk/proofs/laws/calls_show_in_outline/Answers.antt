use Rattle.std.proofs.Common.{◌≡◌, ℕ, subst}
use Rattle.rb_desk.specs.Picture.{Picture}
use Rattle.rb_desk.specs.Calls.{subscribe, take, take_any, ack, nack, nack_opened, reconnect, unsubscribe}
use Rattle.rb_desk.specs.Outline.{outline_of}
use Rattle.rb_desk.specs.Outline as outline
use Rattle.rb_desk.proofs.outlines.Outlines.{outlines_told}
use Rattle.rb_desk.proofs.outlines.OutlineCalls.{Joined, TookOf, OutlineCallsTook, Stays, Relinked, Gone}
use Rattle.rb_desk.proofs.outlines.OutlineCalls.{outline_calls_subscribe_tells, outline_calls_take_tells}
use Rattle.rb_desk.proofs.outlines.OutlineCalls.{outline_calls_take_any_tells, outline_calls_ack_tells}
use Rattle.rb_desk.proofs.outlines.OutlineCalls.{outline_calls_nack_tells, outline_calls_nack_opened_tells}
use Rattle.rb_desk.proofs.outlines.OutlineCalls.{expire_stays, outline_calls_reconnect_tells}
use Rattle.rb_desk.proofs.outlines.OutlineCalls.{outline_calls_unsubscribe_tells, outline_calls_place_shows}
use Rattle.rb_desk.proofs.outlines.OutlineCalls.{outline_calls_close_shows}
use Rattle.rb_desk.proofs.laws.calls_show_in_outline.Goals as goal

pub returns-clause-subscribe : goal.returns-clause-subscribe
returns-clause-subscribe c = λ old start s link new is. outlines_told old new (Joined old start) (subscribe old start)
    (s, link) (outline_calls_subscribe_tells old start) is

pub returns-clause-take : goal.returns-clause-take
returns-clause-take c = λ old s link cursor now delivery new good is. outlines_told old new (TookOf old s)
    (take old s link cursor now) delivery (outline_calls_take_tells old s link cursor now) is good

pub returns-clause-take_any : goal.returns-clause-take_any
returns-clause-take_any c =
    λ old now delivery new good is. outlines_told old new (OutlineCallsTook old) (take_any old now) delivery
    (outline_calls_take_any_tells old now) is good

pub returns-clause-ack : goal.returns-clause-ack
returns-clause-ack c = λ old s link number cursor floor new is. outlines_told old new (Stays old)
    (ack old s link number cursor) floor (outline_calls_ack_tells old s link number cursor) is

pub returns-clause-nack : goal.returns-clause-nack
returns-clause-nack c = λ old s link number new is. outlines_told old new (Stays old) (nack old s link number) tt
    (outline_calls_nack_tells old s link number) is

pub returns-clause-nack_opened : goal.returns-clause-nack_opened
returns-clause-nack_opened c = λ old s link number count new is. outlines_told old new (Stays old)
    (nack_opened old s link number) count (outline_calls_nack_opened_tells old s link number) is

pub returns-clause-expire : goal.returns-clause-expire
returns-clause-expire c = λ old now many new is. subst (λ (x : ℕ × Picture). outline_of x.1 ≡ outline_of old) is
    (expire_stays old now)

pub returns-clause-reconnect : goal.returns-clause-reconnect
returns-clause-reconnect c = λ old s cursor link new is. outlines_told old new (Relinked old s) (reconnect old s cursor)
    link (outline_calls_reconnect_tells old s cursor) is

pub returns-clause-unsubscribe : goal.returns-clause-unsubscribe
returns-clause-unsubscribe c = λ old s link new is. outlines_told old new (Gone old s) (unsubscribe old s link) tt
    (outline_calls_unsubscribe_tells old s link) is

pub returns-clause-place : goal.returns-clause-place
returns-clause-place c = λ old number ok. outline_calls_place_shows old number ok

pub returns-clause-close : goal.returns-clause-close
returns-clause-close c = λ old last new good is.
    subst (λ (x : ℕ × Picture). outline.Closes (outline_of old) (outline_of x.1) x.0) is
    (outline_calls_close_shows old good)
