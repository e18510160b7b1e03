use Rattle.rb_core.proofs.invariants.Written.{lent_end, crash_refused, crash_done}
use Rattle.rb_core.proofs.parts.Parts.crash.Goals as goal

pub returns-in-Err-Refused-clause-ok : goal.returns-in-Err-Refused-clause-ok
returns-in-Err-Refused-clause-ok c =
    let lent = lent_end c.args.delivery c.self.view_is c.known.ensures.value c.known.ensures.of c.in-Some.is
    c.sub-subscription.ensures c.index_mut-end.ensures.value in
    rw (← c.self.view_is)
    (crash_refused c.args.kept c.crash.new.self lent c.deref.ensures.value c.crash.ensures.answers
    c.in-Err-Refused.is c.in-Err-Refused.field-0-is)

pub returns-clause-ok : goal.returns-clause-ok
returns-clause-ok c =
    let lent = lent_end c.args.delivery c.self.view_is c.known.ensures.value c.known.ensures.of c.in-Some.is
    c.sub-subscription.ensures c.index_mut-end.ensures.value in
    rw (← c.self.view_is)
    (crash_done c.args.kept c.crash.new.self lent c.deref.ensures.value c.crash.ensures.answers c.in-Ok.is)
