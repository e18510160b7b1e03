use Rattle.std.proofs.Common.{drop, length}
use Rattle.std.specs.List.{AllByRecursion}
use Rattle.cs_write.proofs.forms.Giving.{GivenSoFar}
use Rattle.cs_group.specs.Table.{HasColumnsOf, slot_changes, slots_seen}
use Rattle.cs_group.proofs.rows.Rows.push_to.Given as goal

-- the last section has the changes so far
abbrev pub invariant-loop-slot : goal.invariant-loop-slot
invariant-loop-slot l = record {
  left : AllByRecursion (HasColumnsOf (length l.self.shape.now.flags))
      (slot_changes (slots_seen (drop l.slot-index l.self.slots.items)));
  made : GivenSoFar l.sections l.fn.sections l.self.shape.now
      (slot_changes (slots_seen (drop l.slot-index l.self.slots.items)))
      (slot_changes (slots_seen l.self.slots.items));
}
