use Rattle.std.proofs.Common.{◌∙◌}
use Rattle.std.proofs.lemmas.Bool.{false≢true}
use Rattle.par_apply.proofs.shards.SiftLaws.{sifts_changed, sifts_end}
use Rattle.par_apply.proofs.shard_rows.ShardRows.changes.Goals as goal

pub loop-key-preserved : goal.loop-key-preserved
loop-key-preserved c =
    sifts_changed c.args.tables.now.rows c.args.self.rows.entries c.loop-key.changes.items c.push.new.self.items
    c.loop-key.key-iterator c.next.new.self c.in-Some.key c.in-Some.row c.in-Some.ensures.steps
    c.in_ok-push.ensures.items (λ same. false≢true (c.if-is_same.ensures.1 (c.row.ensures ∙ same)))
    c.loop-key.invariant

pub returns-clause-left : goal.returns-clause-left
returns-clause-left c =
    sifts_end c.args.tables.now.rows c.args.self.rows.entries c.loop-key.changes.items c.loop-key.key-iterator
    (c.in-None.ensures).steps.0 c.loop-key.invariant
