use Rattle.std.proofs.Common.{◌≡◌, ◌+◌, ◌<◌, ◌^◌, ◌++◌, Bool, length}
use Rattle.cs_model.specs.declared.row_key.RowKey.{RowKey}
use Rattle.par_apply.specs.KeyedChanges.{positions_by_key}
use Rattle.par_apply.specs.Shards.{section_positions}
use Rattle.par_apply.proofs.positions.add_changes.Given as goal

-- the positions so far, and those of the changes that are left, are all
abbrev pub invariant-loop-change : goal.invariant-loop-change
invariant-loop-change l = record {
  so_far : (takes : RowKey → Bool) → positions_by_key takes l.changes.items
      ++ section_positions l.table l.section.shape takes l.change-iterator l.position
      ≡ positions_by_key takes l.fn.changes.items
      ++ section_positions l.table l.section.shape takes l.section.changes l.start;
  counted : l.position + length l.change-iterator < 2 ^ 64;
}
