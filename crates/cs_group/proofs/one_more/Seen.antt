-- Stored slots, seen as changes.
use Rattle.std.proofs.Common.{◌≡◌, ◌∙◌, ℕ, zero, suc, List, [], ◌∷◌, Option, Some, slice_get, slice_set, refl, sym, ap}
use Rattle.std.specs.Prelude.{option_map}
use Rattle.cs_model.specs.declared.change.Change.{Change}
use Rattle.cs_group.specs.declared.slot.Slot.{Slot}
use Rattle.cs_group.specs.Slots.{slot_seen}
use Rattle.cs_group.specs.Table.{put_at, slots_seen, there_at, there_by}

-- the change at a place
seen_at : (items : List (Option Slot)) (place : ℕ)
    → slice_get (slots_seen items) place ≡ option_map (option_map slot_seen) (slice_get items place)
seen_at [] place = refl
seen_at (item ∷ items) zero = refl
seen_at (item ∷ items) (suc place) = seen_at items place

-- a write to a place
seen_set : (items : List (Option Slot)) (place : ℕ) (slot : Option Slot)
    → slots_seen (slice_set items place slot) ≡ put_at place (option_map slot_seen slot) (slots_seen items)
seen_set [] place slot = refl
seen_set (item ∷ items) zero slot = refl
seen_set (item ∷ items) (suc place) slot = ap (λ rest. option_map slot_seen item ∷ rest) (seen_set items place slot)

-- a slot's change becomes another one, or none
pub seen_put : (items : List (Option Slot)) (place : ℕ) (old : Slot) (new : Option Slot) (there : Change)
    (next : Change → Option Change) → slice_get items place ≡ Some (Some old)
    → there_at (slots_seen items) place ≡ Some there → option_map slot_seen new ≡ next (slot_seen old)
    → slots_seen (slice_set items place new) ≡ put_at place (next there) (slots_seen items)
seen_put items place old new there next here is made =
    let both : Some (slot_seen old) ≡ Some there =
    sym (ap there_by (seen_at items place ∙ ap (option_map (option_map slot_seen)) here)) ∙ is in
    let same : slot_seen old ≡ there = cc in
    seen_set items place new ∙ ap (λ x. put_at place x (slots_seen items)) (made ∙ ap next same)
