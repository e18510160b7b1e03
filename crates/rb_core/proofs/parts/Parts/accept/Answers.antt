use Rattle.rb_core.proofs.invariants.Written.{lent_end, accept_refused, accept_done}
use Rattle.rb_core.proofs.parts.Parts.accept.Goals as goal

pub returns-in-Err-Refused-clause-ok : goal.returns-in-Err-Refused-clause-ok
returns-in-Err-Refused-clause-ok c =
    let lent = lent_end c.args.delivery c.self.view_is c.known.ensures.value c.known.ensures.of c.in-Some.is
    c.sub-subscription.ensures c.index_mut-end.ensures.value in
    rw (← c.self.view_is)
    (accept_refused c.accept.new.self lent c.deref.ensures.value c.accept.ensures.answers c.in-Err-Refused.is
    c.in-Err-Refused.field-0-is)

pub returns-clause-ok : goal.returns-clause-ok
returns-clause-ok c =
    let lent = lent_end c.args.delivery c.self.view_is c.known.ensures.value c.known.ensures.of c.in-Some.is
    c.sub-subscription.ensures c.index_mut-end.ensures.value in
    rw (← c.self.view_is)
    (accept_done c.accept.new.self lent c.deref.ensures.value c.accept.ensures.answers c.in-Ok.is)
