-- Slots, seen as changes.
use Rattle.std.specs.Prelude.{Bool, if◌then◌else◌, Option, Some, None}
use Rattle.cs_model.specs.declared.change.Change.{Change}
use Rattle.cs_model.specs.PackedChanges.{change_of}
use Rattle.cs_model.specs.Seen.{fields_seen}
use Rattle.cs_group.specs.declared.slot.Merged.{Merged}
use Rattle.cs_group.specs.declared.slot.Slot.{Slot}
use Rattle.cs_group.specs.declared.slot.Slot.TheVariants as slot

-- the change that a slot holds
abbrev pub merged_seen : Merged → Change
merged_seen m = change_of m.op m.indirect (fields_seen m.before.items) (fields_seen m.after.items)

abbrev pub slot_seen : Slot → Change
slot_seen (slot.Alone change) = change
slot_seen (slot.Merged m) = merged_seen m.value

-- a change that is left, or none
abbrev pub kept_if : Bool → Merged → Option Change
kept_if left m = if left then Some (merged_seen m) else None
