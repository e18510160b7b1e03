use Rattle.std.proofs.Common.{ap, sym, ◌∙◌, arith}
use Rattle.cs_parse.specs.Front.{stop_after}
use Rattle.cs_parse.proofs.feeding.Unread.{counted_ends, counted_stops, stopped_none}
use Rattle.cs_parse.proofs.grow.end_of.Goals as goal

pub returns-in-Ok : goal.returns-in-Ok
returns-in-Ok c =
    let bytes = c.args.bytes.now in
    let none = stopped_none c.args.stopped c.if-is_some.ensures in
    sym (ap (λ o. stop_after o bytes) none
    ∙ counted_ends bytes _ (λ i. omega (arith, c.type_inv.bytes i)) c.in-Ok.ensures)

pub returns-in-Err : goal.returns-in-Err
returns-in-Err c =
    let bytes = c.args.bytes.now in
    let none = stopped_none c.args.stopped c.if-is_some.ensures in
    sym (ap (λ o. stop_after o bytes) none
    ∙ counted_stops bytes c.in-Err.why (λ i. omega (arith, c.type_inv.bytes i)) c.in-Err.ensures)
