use Rattle.std.proofs.Common.{arith}
use Rattle.rb_deliveries.proofs.spans.ManyLaws.{ready_fits, ready_is}
use Rattle.rb_deliveries.proofs.queue.Queue.ready.Goals as goal

pub overflow_add-result : goal.overflow_add-result
overflow_add-result c =
    let l = c.self.inside in
    let fits = ready_fits c.args.batch c.args.front (record { held = l.held; next = l.next; cutting = l.cutting })
    c.ready.result c.saturating_sub-fresh.result c.div_ceil.result c.requires.0 c.ready.ensures
    c.saturating_sub-fresh.ensures c.div_ceil.ensures 18446744073709551616 c.self.invariant
    (omega (arith, c.requires.2)) (omega (arith, c.ready.type_inv)) in
    omega (arith, fits)

pub returns : goal.returns
returns c =
    let l = c.self.inside in
    rw (← c.self.view_is)
    (ready_is c.args.batch c.args.front (record { held = l.held; next = l.next; cutting = l.cutting }) c.ready.result
    c.saturating_sub-fresh.result c.div_ceil.result c.requires.0 c.ready.ensures c.saturating_sub-fresh.ensures
    c.div_ceil.ensures)
