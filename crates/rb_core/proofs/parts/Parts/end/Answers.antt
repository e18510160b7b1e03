use Rattle.std.proofs.Common.{arith}
use Rattle.rb_core.specs.contracts.parts.Parts.{the_view}
use Rattle.rb_core.proofs.invariants.Written.{lent_free, end_refused, end_staged}
use Rattle.rb_core.proofs.parts.Parts.end.Goals as goal

pub returns-in-Err : goal.returns-in-Err
returns-in-Err c =
    let lent = lent_free c.self.inside.publishers.items c.args.publisher
    (omega (arith, c.len.ensures, c.self.inside.publishers.ok)) c.if-p-len.false c.index.ensures
    c.index_mut-found.ensures.value c.is_some.ensures c.if-is_some.false in
    rw (← c.self.view_is, c.reply_for.ensures)
    (end_refused (the_view c.self.inside) lent c.deref.ensures c.end_of.ensures.answer c.end_of.ensures.left
    c.in-Err.is)

pub returns : goal.returns
returns c =
    let lent = lent_free c.self.inside.publishers.items c.args.publisher
    (omega (arith, c.len.ensures, c.self.inside.publishers.ok)) c.if-p-len.false c.index.ensures
    c.index_mut-found.ensures.value c.is_some.ensures c.if-is_some.false in
    rw (← c.self.view_is)
    (end_staged (the_view c.self.inside) lent c.deref.ensures c.end_of.ensures.answer c.end_of.ensures.left c.in-Ok.is)
