use Rattle.std.proofs.Common.{◌≡◌, ◌+◌, ◌<◌, ◌^◌, length}
use Rattle.std.specs.List.{AllByRecursion}
use Rattle.cs_model.specs.Changeset.{IsChange}
use Rattle.par_apply.specs.Parts.{section_part}
use Rattle.par_apply.specs.RowChanges.{overlaid}
use Rattle.par_apply.specs.Shards.{of_shard, shard_number}
use Rattle.par_apply.specs.Splitting.{AreOfShard}
use Rattle.par_apply.proofs.worker.change_section.Given as goal

-- what the changes that are left give of the rows so far is what all give of the rows at the start
abbrev pub invariant-loop-change : goal.invariant-loop-change
invariant-loop-change l = record {
  so_far : section_part l.table l.section.shape (of_shard (shard_number l.shard.n) l.shard.number) l.change-iterator
      l.position (overlaid l.tables.rows l.rows.rows.entries)
      ≡ section_part l.table l.section.shape (of_shard (shard_number l.shard.n) l.shard.number) l.section.changes
      l.start (overlaid l.tables.rows l.fn.rows.rows.entries);
  fits : AllByRecursion (IsChange l.section.shape) l.change-iterator;
  counted : l.position + length l.change-iterator < 2 ^ 64;
  own : AreOfShard (shard_number l.shard.n) l.shard.number l.fn.rows.rows.entries
      → AreOfShard (shard_number l.shard.n) l.shard.number l.rows.rows.entries;
}
