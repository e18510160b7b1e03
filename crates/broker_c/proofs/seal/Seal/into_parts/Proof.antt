use Rattle.broker_c.proofs.Steps.{refl}
use Rattle.broker_c.proofs.Moving.{moves_out}
use Rattle.rb_core.specs.contracts.world.World as World
use Rattle.rb_core.proofs.world.World.TheLaws as held
use Rattle.broker_c.specs.contracts.seal.Seal as Seal
use Rattle.broker_c.specs.contracts.seal.Seal.into_parts.Key.{name as #self}
use Rattle.broker_c.proofs.seal.Seal.into_parts.Statement.{statement}
use Rattle.broker_c.proofs.seal.Seal.into_parts.Code as code

pub into_parts_spec : {M : Type 1} → statement M
into_parts_spec 𝓤 𝓛 𝓜 𝓡 wired =
    moves_out World.the_row held.the_row_laws Seal.the_row Seal.the_type.name 𝓤 𝓛 𝓜 𝓡 #self
    (λ s. record { pointer = s.pointer; alloc = s.alloc; value = s.held }) (λ s. s.full)
    (code.unfolded 𝓤 𝓛.H 𝓜 𝓡 wired) (λ κs x f. refl) (λ s. tt) (λ s vs. refl) (λ p vs. refl) (λ p vs. refl)
