use Rattle.std.proofs.Common.{arith}
use Rattle.std.specs.FinMap as map
use Rattle.cs_apply.specs.Changed.{is_lacked}
use Rattle.cs_apply.specs.Steps.{rows_in}
use Rattle.cs_apply.proofs.stored.ChangedLaws.{few_counted}
use Rattle.cs_apply.proofs.places.Places.count_lacked.Goals as goal

pub overflow_add-count : goal.overflow_add-count
overflow_add-count c =
    let few = few_counted (λ e. is_lacked (map.get (rows_in c.args.self.now) e.0) (map.get (rows_in c.args.others.now) e.0))
    c.loop-key.key-index c.args.changes.now in
    omega (arith, few, c.loop-key.invariant, c.loop-key-test.true, c.loop-key.auto.key-index-end)
