-- What `broker_place` does.
use Rattle.std.specs.Prelude.{◌≡◌, ℕ, ℤ, pos, negsuc, zero, suc, List, Result, Ok, Err}
use Rattle.rb_core.specs.declared.placing.PlacingRefusal.{PlacingRefusal}
use Rattle.rb_core.specs.Placing.{MayStarve, placing}
use Rattle.rb_core.specs.State.{State}
use Rattle.broker_c.specs.Codes.{code_by, numbers_by}
use Rattle.broker_c.specs.declared.handle.Handle.{Handle}
use Rattle.broker_c.specs.Handle.{HoldsWorld, IsBusy, IsShut}

-- the number of the new entry, or the one from before
abbrev pub entry_by : Result ℕ PlacingRefusal → ℕ → ℕ
entry_by (Ok number) before = number
entry_by (Err why) before = before

-- The world behind the handle makes the placing. The result is its code, and the handle's numbers
-- and the entry are the placing's.
pub record PlacedWhole (result : ℤ) (publisher : ℕ) (text : List ℕ) (before after : Handle)
    (was is : ℕ)
    : Type 0 where
  pub world : State
  pub answer : Result ℕ PlacingRefusal
  pub next : State
  pub held : HoldsWorld before world
  pub step : placing world publisher text ≡ (answer, next)
  pub holds : HoldsWorld after next
  pub is_code : result ≡ code_by answer
  pub why : after.why ≡ numbers_by answer before.why
  pub entry : is ≡ entry_by answer was

-- memory ran out, as it may, and nothing changed
pub record PlacesNothing (publisher : ℕ) (text : List ℕ) (before after : Handle) : Type 0 where
  pub world : State
  pub held : HoldsWorld before world
  pub may : MayStarve world publisher text
  pub holds : HoldsWorld after world
  pub why : after.why ≡ before.why

-- What the result says: -1 for a handle that is shut, -6 for one that another call is in, and -2 if
-- memory ran out. Nothing changed then. Any other result is the placing's.
abbrev pub PlacesWhole : ℤ → ℕ → List ℕ → Handle → Handle → ℕ → ℕ → Type 0
PlacesWhole (pos n) publisher text before after was is =
    PlacedWhole (pos n) publisher text before after was is
PlacesWhole (negsuc zero) publisher text before after was is =
    IsShut before × (after ≡ before) × (is ≡ was)
PlacesWhole (negsuc (suc zero)) publisher text before after was is =
    PlacesNothing publisher text before after × (is ≡ was)
PlacesWhole (negsuc (suc (suc (suc (suc (suc zero)))))) publisher text before after was is =
    IsBusy before × (after ≡ before) × (is ≡ was)
PlacesWhole (negsuc n) publisher text before after was is =
    PlacedWhole (negsuc n) publisher text before after was is
