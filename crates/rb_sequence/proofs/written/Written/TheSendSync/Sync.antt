use denote.RattleType.{RattleType}
use denote.Param.Send.{IsSync, sendable}
use Rattle.rb_sequence.specs.contracts.written.Written.{the_row, the_type}

pub sync : (T : RattleType) → IsSync (the_row T)
sync T =
    let row = denote.Struct.Struct.Struct (denote.Struct.Owning.shape (the_type T)) in
    let fields : IsSync row = search sendable depth 20 in
    record { shared = λ d b o κ. (fields.shared (tt, tt) b o κ, tt) }
