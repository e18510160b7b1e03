use Rattle.std.proofs.Common.{◌≡◌, drop}
use Rattle.cs_group.specs.Table.{slot_changes, slots_seen}
use Rattle.cs_group.proofs.rows.Rows.any_change.Given as goal

-- no slot so far has a change
abbrev pub invariant-loop-slot : goal.invariant-loop-slot
invariant-loop-slot l = slot_changes (slots_seen (drop l.slot-index l.self.slots.items))
    ≡ slot_changes (slots_seen l.self.slots.items)
