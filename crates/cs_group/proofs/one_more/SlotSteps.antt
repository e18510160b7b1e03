-- The changes that slots hold, slot by slot.
use Rattle.std.proofs.Common.{◌≡◌, ◌∙◌, ◌<◌, ◌+◌, ℕ, List, ◌∷◌, length, drop, get_or, Option, Some, sym, ap}
use Rattle.std.proofs.lemmas.List.{drop_more}
use Rattle.cs_group.specs.declared.slot.Slot.{Slot}
use Rattle.cs_group.specs.Slots.{slot_seen}
use Rattle.cs_group.specs.Table.{slot_changes, slots_seen}

-- a slot from a place on
pub from_slot : (slots read : List (Option Slot)) (i : ℕ) (item : Option Slot) → read ≡ slots → i < length read
    → item ≡ get_or read i item → drop i slots ≡ item ∷ drop (i + 1) slots
from_slot slots read i item same lt is =
    ap (drop i) (sym same) ∙ drop_more read i item lt ∙ ap (λ x. x ∷ drop (i + 1) read) (sym is)
    ∙ ap (λ r. item ∷ drop (i + 1) r) same

pub slot_some : (slots rest : List (Option Slot)) (item : Option Slot) (slot : Slot) → slots ≡ item ∷ rest
    → item ≡ Some slot → slot_changes (slots_seen slots) ≡ slot_seen slot ∷ slot_changes (slots_seen rest)
slot_some slots rest item slot is some = ap (λ xs. slot_changes (slots_seen xs)) (is ∙ ap (λ x. x ∷ rest) some)
