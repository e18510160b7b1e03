use Rattle.std.proofs.Common.{◌≡◌, take}
use Rattle.cs_model.specs.Changeset.{all_changes}
use Rattle.cs_group.specs.Table.{HoldSlots, row_place, slots_seen}
use Rattle.cs_group.proofs.rows.Rows.of.Given as goal

-- the slots hold what the changes of the sections so far come to
abbrev pub invariant-loop-section : goal.invariant-loop-section
invariant-loop-section l = record {
  flags : l.table.flags.now ≡ l.fn.shape.flags;
  holds : HoldSlots l.fn.shape.flags (row_place l.table.places.entries) (slots_seen l.table.slots.items)
      (all_changes (take l.section-index l.sections));
}
