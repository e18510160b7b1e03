-- What a call returns, and what it leaves.
use Rattle.std.specs.Prelude.{◌≡◌, Option, Some, None, Result, Ok, Err, IsOk}
use Rattle.rb_desk.specs.declared.refusal.DeskRefusal.{DeskRefusal}
use Rattle.rb_desk.specs.declared.refusal.DeskError.{DeskError}
use Rattle.rb_desk.specs.declared.refusal.DeskError.TheVariants.{Refused, Memory}
use Rattle.rb_desk.specs.Picture.{Picture}

-- why a call is refused, if it is
abbrev pub call_refusal : {A : Type 0} → Result A DeskRefusal → Option DeskRefusal
call_refusal (Ok answer) = None
call_refusal (Err why) = Some why

-- The result and the picture after the call are those of the call's definition. Out of memory comes
-- only if the call isn't refused, and does not change the picture.
abbrev pub DeskAnswers : {A : Type 0} → Result A DeskError → Result A DeskRefusal × Picture
    → Picture → Picture → Type 0
DeskAnswers (Ok answer) call old new = call ≡ (Ok answer, new)
DeskAnswers (Err (Refused why)) call old new = (call ≡ (Err why, new)) × (new ≡ old)
DeskAnswers (Err Memory) call old new = IsOk call.0 × (new ≡ old)

-- the result is Ok with this property, or out of memory
abbrev pub OnlyMemory : {A : Type 0} → Result A DeskError → (A → Type 0) → Type 0
OnlyMemory (Ok answer) P = P answer
OnlyMemory (Err e) P = e ≡ Memory
