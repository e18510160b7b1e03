use Rattle.std.proofs.Common.{sym, ap, ◌∙◌}
use Rattle.std.specs.FinMap as map
use Rattle.par_apply.proofs.shards.GatheringLaws.{get_overlaid, row_over}
use Rattle.par_apply.proofs.shard_rows.ShardRows.row.Goals as goal

pub returns-in-Some : goal.returns-in-Some
returns-in-Some c =
    let rows = c.args.tables.now.rows in
    c.as_ref.ensures.value ∙ sym (get_overlaid rows c.args.self.now.rows.entries c.args.key.now
    ∙ ap (λ o. row_over o (map.get rows c.args.key.now)) (sym c.in-Some.ensures.value))

pub returns : goal.returns
returns c =
    let rows = c.args.tables.now.rows in
    c.row.ensures ∙ sym (get_overlaid rows c.args.self.now.rows.entries c.args.key.now
    ∙ ap (λ o. row_over o (map.get rows c.args.key.now)) (sym c.in_default.ensures.value))
