-- The slots of a table: each row's place, and what the row's changes come to so far.
use Rattle.std.specs.Prelude.{◌≡◌, ◌<◌, ℕ, zero, suc, List, [], ◌∷◌, length, map}
use Rattle.std.specs.Prelude.{slice_get}
use Rattle.std.specs.Prelude.{Option, Some, None, option_map}
use Rattle.std.specs.Map.{lookup}
use Rattle.cs_model.specs.declared.change.Change.{Change}
use Rattle.cs_model.specs.Changeset.{AreRecords}
use Rattle.cs_model.specs.PackedChanges.{Long}
use Rattle.cs_model.specs.Schema.{same_bytes}
use Rattle.cs_group.specs.declared.slot.Slot.{Slot}
use Rattle.cs_group.specs.Group.{changed_row, combined}
use Rattle.cs_group.specs.Slots.{slot_seen}

-- slots, each with a change or none
abbrev pub Slots : Type 0
Slots = List (Option Change)

-- the slots that are stored, seen as changes
abbrev pub slots_seen : List (Option Slot) → Slots
slots_seen slots = map (option_map slot_seen) slots

-- the changes that slots hold, in order
abbrev pub with_held : Option Change → List Change → List Change
with_held None changes = changes
with_held (Some change) changes = change ∷ changes

abbrev pub slot_changes : Slots → List Change
slot_changes [] = []
slot_changes (slot ∷ slots) = with_held slot (slot_changes slots)

-- the change in a slot, if there is such a slot and it has one
abbrev pub there_by : Option (Option Change) → Option Change
there_by None = None
there_by (Some slot) = slot

abbrev pub there_at : Slots → ℕ → Option Change
there_at slots place = there_by (slice_get slots place)

-- the slots with this in place of what a slot has
abbrev pub put_at : ℕ → Option Change → Slots → Slots
put_at place slot [] = []
put_at zero slot (old ∷ slots) = slot ∷ slots
put_at (suc place) slot (old ∷ slots) = old ∷ put_at place slot slots

-- the place of a row
abbrev pub row_place : List (List ℕ × ℕ) → List ℕ → Option ℕ
row_place places row = lookup (same_bytes row) places

-- a place whose slot has a change
abbrev pub met_by : Option Change → ℕ → Option ℕ
met_by None place = None
met_by (Some there) place = Some place

abbrev pub met_at : Slots → Option ℕ → Option ℕ
met_at slots None = None
met_at slots (Some place) = met_by (there_at slots place) place

-- a change of a table with these key flags, and one whose records have as many fields
abbrev pub IsOfTable : List ℕ → Change → Type 0
IsOfTable flags change = AreRecords flags change.op change.before change.after

abbrev pub HasColumnsOf : ℕ → Change → Type 0
HasColumnsOf columns change = Long columns change.op change.before change.after

-- The slots hold what these changes come to. Each row that has a change finds it at its place.
pub record HoldSlots (flags : List ℕ) (at : List ℕ → Option ℕ) (slots : Slots)
    (changes : List Change) : Type 0 where
  pub listed : slot_changes slots ≡ combined flags changes
  pub found : (row : List ℕ) (place : ℕ) (change : Change) → at row ≡ Some place
      → slice_get slots place ≡ Some (Some change) → changed_row flags change ≡ row
  pub kept : (place : ℕ) (change : Change) → slice_get slots place ≡ Some (Some change)
      → at (changed_row flags change) ≡ Some place
  pub bound : (row : List ℕ) (place : ℕ) → at row ≡ Some place → place < length slots
  pub valid : (place : ℕ) (change : Change) → slice_get slots place ≡ Some (Some change)
      → IsOfTable flags change
