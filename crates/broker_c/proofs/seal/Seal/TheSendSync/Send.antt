-- A seal may go to another thread, since a world may.
use denote.Param.Send.{IsSend, AllSend, sendable}
use denote.Struct.Owning.{fields}
use mathlib.Core.Path.{refl}
use Rattle.std_heap.proofs.Global.TheSendSync as handle
use Rattle.rb_core.specs.contracts.world.World as World
use Rattle.rb_core.proofs.world.World.TheSendSync.{the_send as world}
use Rattle.broker_c.specs.contracts.seal.Seal.{the_row, the_type}
use Rattle.broker_c.proofs.Boxes.{owned, sends_owned}

pub send : IsSend the_row
send =
    let all : AllSend (fields the_type) = (search sendable, (handle.the_field_send, tt)) in
    sends_owned the_type all (λ d. owned World.the_row world d.full d.alloc d.pointer d.held) (λ k. refl)
