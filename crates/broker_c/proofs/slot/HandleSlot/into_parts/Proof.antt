use Rattle.broker_c.proofs.Steps.{refl}
use Rattle.broker_c.proofs.Moving.{moves_out}
use Rattle.broker_c.specs.contracts.handle.Handle as Handle
use Rattle.broker_c.proofs.handle.Handle.TheLaws as held
use Rattle.broker_c.specs.contracts.slot.HandleSlot as Slot
use Rattle.broker_c.specs.contracts.slot.HandleSlot.into_parts.Key.{name as #self}
use Rattle.broker_c.proofs.slot.HandleSlot.into_parts.Statement.{statement}
use Rattle.broker_c.proofs.slot.HandleSlot.into_parts.Code as code

pub into_parts_spec : {M : Type 1} → statement M
into_parts_spec 𝓤 𝓛 𝓜 𝓡 wired =
    moves_out Handle.the_row held.the_row_laws Slot.the_row Slot.the_type.name 𝓤 𝓛 𝓜 𝓡 #self
    (λ s. record { pointer = s.pointer; alloc = s.alloc; value = s.held }) (λ s. s.full)
    (code.unfolded 𝓤 𝓛.H 𝓜 𝓡 wired) (λ κs x f. refl) (λ s. tt) (λ s vs. refl) (λ p vs. refl) (λ p vs. refl)
