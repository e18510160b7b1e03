-- A `&` to a `Front` holds what it knows, which can be had twice. Assumes `Logic`.
use base.Logic.{snd∗}
use base.Before.{before}
use types.Logic.{sem}
use denote.RattleType.{RattleType}
use denote.Param.Laws.{Laws}
use denote.Param.Shared.{copy_shared}
use denote.Struct.Laws.{field_copy}
use denote.Struct.Lending.{of_Lends}
use Rattle.core.specs.contracts.marker.PhantomData as P
use Rattle.logbook.proofs.Fields.{lends_twice}
use Rattle.rb_history.specs.Kept.{front_owns}
use Rattle.rb_history.specs.contracts.front.Front as C
use Rattle.rb_history.proofs.Steps.{twice}
use Rattle.rb_history.proofs.front.Front.TheLaw.Statement.{statement}

pub shares : (T : RattleType) (L : Laws T) → statement T L
shares T L = of_Lends (C.struct T) (C.the_codes T.Denot T.coded (P.the_row T).coded) (C.the_heap T) (C.the_lent T)
    (λ d p. record { contraction = λ M 𝓤 𝓛 κ. twice 𝓛 T.coded d.name d.log; mono = λ M 𝓤 𝓛 κ' κ. snd∗ 𝓤 (sem 𝓛 (before κ' κ)) (sem 𝓛 (front_owns T.coded.code d.name d.log)) })
    (copy_shared (P.the_field T) (field_copy (P.the_type T) tt), tt)
    (λ M 𝓤 𝓛 d p. lends_twice 𝓛 (front_owns T.coded.code d.name d.log) (twice 𝓛 T.coded d.name d.log) (C.the_row T).lives)
