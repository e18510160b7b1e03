use Rattle.std.proofs.Common.{◌≡◌, ◌++◌, Bool}
use Rattle.cs_apply.specs.Single.{changes_of}
use Rattle.cs_model.specs.declared.row_key.RowKey.{RowKey}
use Rattle.par_apply.specs.KeyedChanges.{positions_by_key}
use Rattle.par_apply.specs.Shards.{taken_positions}
use Rattle.par_apply.proofs.positions.keyed_changes.Given as goal

-- the positions so far, and those of the sections that are left, are all
abbrev pub invariant-loop-section : goal.invariant-loop-section
invariant-loop-section l = (takes : RowKey → Bool)
    → positions_by_key takes l.changes.items ++ taken_positions l.schema takes (changes_of l.section-iterator) l.start
    ≡ taken_positions l.schema takes (changes_of l.changeset) 0
