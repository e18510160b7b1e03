-- Handles: open, shut and busy.
use Rattle.std.specs.Prelude.{◌≡◌, Bool, true, false}
use Rattle.rb_core.specs.State.{State}
use Rattle.broker_c.specs.declared.handle.Handle.{Handle}

-- this world is behind the handle
abbrev pub HoldsWorld : Handle → State → Type 0
HoldsWorld b world = (b.seal.full ≡ true) × (b.seal.held ≡ world)

-- no world is behind the handle, and none will be
abbrev pub IsShut : Handle → Type 0
IsShut b = (b.seal.full ≡ false) × (b.is_busy ≡ false)

-- another call has the world of the handle
abbrev pub IsBusy : Handle → Type 0
IsBusy b = (b.seal.full ≡ false) × (b.is_busy ≡ true)

-- the handle is shut, or stays as it was if another call is in it
abbrev pub Shuts : Bool → Handle → Handle → Type 0
Shuts false before after = IsShut after
Shuts true before after = after ≡ before

-- The same world is behind the handle before and after, and the numbers are the same.
pub record KeepsWorld (before after : Handle) : Type 0 where
  pub world : State
  pub held : HoldsWorld before world
  pub holds : HoldsWorld after world
  pub why : after.why ≡ before.why
