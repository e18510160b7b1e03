use Rattle.std.proofs.Common.{rules}
use Rattle.par_apply.proofs.workers.ListLaws.{noted_at}
use Rattle.par_apply.proofs.positions.note.Goals as goal

pub returns-clause-each : goal.returns-clause-each
returns-clause-each c = λ i d lt.
    noted_at (λ list. list.items) c.args.lists.now.items c.args.shard c.args.position c.index_mut.result.now
    c.push.new.self (search rules) c.in_ok-push.ensures.items i d (search rules)
