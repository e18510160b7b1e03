-- A slot may go to another thread, since a handle may.
use denote.Param.Send.{IsSend, AllSend, sendable}
use denote.Struct.Owning.{fields}
use mathlib.Core.Path.{refl}
use Rattle.std_heap.proofs.Global.TheSendSync as handle
use Rattle.broker_c.specs.contracts.handle.Handle as Handle
use Rattle.broker_c.proofs.handle.Handle.TheSendSync.{the_send as broker}
use Rattle.broker_c.specs.contracts.slot.HandleSlot.{the_row, the_type}
use Rattle.broker_c.proofs.Boxes.{owned, sends_owned}

pub send : IsSend the_row
send =
    let all : AllSend (fields the_type) = (search sendable, (handle.the_field_send, tt)) in
    sends_owned the_type all (λ d. owned Handle.the_row broker d.full d.alloc d.pointer d.held) (λ k. refl)
