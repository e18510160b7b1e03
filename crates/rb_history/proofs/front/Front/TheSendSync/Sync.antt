use denote.RattleType.{RattleType}
use denote.Param.Send.{IsSync, sendable}
use denote.Struct.Struct.{Struct}
use denote.Struct.Owning.{shape}
use Rattle.rb_history.specs.contracts.front.Front.{the_row, the_type}
use Rattle.rb_history.proofs.Steps.{front_keyless}

pub sync : (T : RattleType) → IsSync (the_row T)
sync T = let fields : IsSync (Struct (shape (the_type T))) = search sendable depth 20 in
    record { shared = λ d b o κ. (fields.shared (tt, tt) b o κ, front_keyless T.coded.code d.name d.log) }
