-- What a pointer without its type owns: what a box at it would own, or nothing.
use base.Fml.{Fml, ftrue}
use denote.RattleType.{RattleType}
use denote.RawPtr.{Ptr}
use Rattle.std.specs.Prelude.{Bool, true, false}
use Rattle.std.specs.Box.Ownership.{box_owns}
use Rattle.std.specs.Global.{Global}
use Rattle.std_heap.specs.contracts.GlobalAllocator.TheImpl.{ghosts}

-- a box of such a value, or nothing if it isn't full
abbrev pub owns_if : (row : RattleType) → Bool → Global → Ptr → row.Denot → Fml
owns_if row true alloc pointer held = box_owns (ghosts.dealloc_token alloc) row pointer held
owns_if row false alloc pointer held = ftrue
