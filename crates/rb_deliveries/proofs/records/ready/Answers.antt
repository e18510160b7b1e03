use Rattle.std.proofs.Common.{arith}
use Rattle.rb_deliveries.proofs.lists.CountLaws.{many_ready}
use Rattle.rb_deliveries.proofs.records.ready.Goals as goal

pub overflow_sub-result : goal.overflow_sub-result
overflow_sub-result c =
    omega (arith, c.requires.1, c.len.ensures, many_ready c.args.records.now c.valid.ensures c.requires.0)

pub returns : goal.returns
returns c =
    omega (arith, c.requires.1, c.len.ensures, many_ready c.args.records.now c.valid.ensures c.requires.0)
