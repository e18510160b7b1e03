use Rattle.broker_c.proofs.Steps.{◌≡◌, refl, true}
use Rattle.broker_c.proofs.Moving.{moves_into}
use Rattle.broker_c.specs.contracts.handle.Handle as Handle
use Rattle.broker_c.proofs.handle.Handle.TheLaws as held
use Rattle.broker_c.specs.contracts.slot.HandleSlot as Slot
use Rattle.broker_c.specs.contracts.slot.HandleSlot.of_parts.Key.{name as #self}
use Rattle.broker_c.proofs.slot.HandleSlot.of_parts.Statement.{statement}
use Rattle.broker_c.proofs.slot.HandleSlot.of_parts.Code as code

pub of_parts_spec : {M : Type 1} → statement M
of_parts_spec 𝓤 𝓛 𝓜 𝓡 wired =
    moves_into Handle.the_row held.the_row_laws Slot.the_row Slot.the_type.name 𝓤 𝓛 𝓜 𝓡 #self
    (λ p. record { pointer = p.pointer; alloc = p.alloc; full = true; held = p.value })
    (λ p r. (r.full ≡ true) × (r.held ≡ p.value)) (code.unfolded 𝓤 𝓛.H 𝓜 𝓡 wired) (λ p vs. refl) (λ p vs. refl)
    (λ p. (refl, refl))
