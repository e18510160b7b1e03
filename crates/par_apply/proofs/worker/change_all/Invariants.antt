use Rattle.std.proofs.Common.{◌≡◌}
use Rattle.cs_apply.specs.Single.{changes_of}
use Rattle.cs_model.specs.Changeset.{IsChangeset}
use Rattle.par_apply.specs.Parts.{part_from}
use Rattle.par_apply.specs.RowChanges.{overlaid}
use Rattle.par_apply.specs.Shards.{of_shard, shard_number}
use Rattle.par_apply.specs.Splitting.{AreOfShard}
use Rattle.par_apply.proofs.worker.change_all.Given as goal

-- what the sections that are left give of the rows so far is what all give of the rows at the start
abbrev pub invariant-loop-section : goal.invariant-loop-section
invariant-loop-section l = record {
  so_far : part_from l.tables.schema l.tables.kept (of_shard (shard_number l.shard.n) l.shard.number)
      (changes_of l.section-iterator) l.start (overlaid l.tables.rows l.rows.rows.entries)
      ≡ part_from l.tables.schema l.tables.kept (of_shard (shard_number l.shard.n) l.shard.number)
      (changes_of l.changeset) 0 (overlaid l.tables.rows l.fn.rows.rows.entries);
  fits : IsChangeset l.section-iterator;
  own : AreOfShard (shard_number l.shard.n) l.shard.number l.fn.rows.rows.entries
      → AreOfShard (shard_number l.shard.n) l.shard.number l.rows.rows.entries;
}
