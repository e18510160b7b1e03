use Rattle.std.proofs.Common.{map}
use Rattle.cs_model.specs.PackedChanges.{changes_bytes}
use Rattle.cs_group.proofs.one_row.Through.{AreValidChanges}
use Rattle.cs_invert.specs.Inverse.{inverse_change}
use Rattle.cs_invert.proofs.layings.Laying.{LaysOn}
use Rattle.cs_invert.proofs.laying.put_changes.Given as goal

-- the inverses of the changes that are left
abbrev pub invariant-loop-change : goal.invariant-loop-change
invariant-loop-change l = record {
  valid : AreValidChanges l.section.shape.flags l.change-iterator;
  lays : LaysOn l.at (changes_bytes (map (inverse_change l.section.shape.flags) l.change-iterator)) l.out l.start
      (changes_bytes (map (inverse_change l.section.shape.flags) l.section.changes)) l.initial.out;
}
