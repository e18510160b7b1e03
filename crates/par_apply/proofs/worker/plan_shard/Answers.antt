use Rattle.std.proofs.Common.{ap, sym, subst, ◌∙◌}
use Rattle.std.proofs.lemmas.Option.{none-some}
use Rattle.cs_apply.specs.Single.{changes_of}
use Rattle.par_apply.specs.Parts.{applied_part, part_from}
use Rattle.par_apply.specs.RowChanges.{RowChanges, overlaid}
use Rattle.par_apply.specs.Shards.{of_shard, shard_number}
use Rattle.par_apply.specs.Splitting.{AreOfShard}
use Rattle.par_apply.proofs.shards.SiftLaws.{sifted_part}
use Rattle.par_apply.proofs.worker.plan_shard.Goals as goal

pub returns : goal.returns
returns c =
    let t = c.args.tables.now in
    let shard = shard_number c.args.shard.n in
    let i = c.args.shard.number in
    let es = c.change_all.new.rows.rows.entries in
    let none = c.new-rows.ensures in
    sifted_part t.rows shard i es c.in-Ok.changes.items (applied_part t (of_shard shard i) c.args.changeset.now)
    (ap (λ (cs : RowChanges). part_from t.schema t.kept (of_shard shard i) (changes_of c.args.changeset.now) 0
    (overlaid t.rows cs)) (sym none) ∙ c.in_ok-change_all.ensures.ok)
    (c.change_all.ensures.own (subst (λ (cs : RowChanges). AreOfShard shard i cs) (sym none)
    (λ key row found. absurd (none-some row found))))
    c.changes.ensures.distinct c.in-Ok.ensures.left
