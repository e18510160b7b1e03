use Rattle.par_apply.proofs.shards.SiftLaws.{SiftsOn}
use Rattle.par_apply.proofs.shard_rows.ShardRows.changes.Given as goal

-- what is left so far, and what the rest leaves, is what all leave
abbrev pub invariant-loop-key : goal.invariant-loop-key
invariant-loop-key l = SiftsOn l.tables.rows l.fn.self.rows.entries l.changes.items l.key-iterator
