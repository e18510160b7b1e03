-- A desk with its journal, and what its calls return and leave. A tallied board is the same with
-- the number of steps alone.
use Rattle.std.specs.Prelude.{◌≡◌, ◌≤◌, ℕ, suc, Bool, true, false, nat_le, List, [], ◌∷◌, ◌++◌}
use Rattle.std.specs.Prelude.{length, Option, Some, None, Result, Ok, Err, IsOk, if◌then◌else◌}
use Rattle.std.specs.List.{count_by}
use Rattle.rb_desk.specs.declared.refusal.DeskError.{DeskError}
use Rattle.rb_desk.specs.declared.refusal.DeskError.TheVariants.{Refused, Memory}
use Rattle.rb_desk.specs.declared.refusal.DeskRefusal.{DeskRefusal}
use Rattle.rb_desk.specs.declared.refusal.DeskRefusal.TheVariants.{JournalFull}
use Rattle.rb_desk.specs.declared.step.Step.{Step}
use Rattle.rb_desk.specs.declared.step.Step.TheVariants.{Subscribe, Take, TakeAny, Ack, Nack}
use Rattle.rb_desk.specs.declared.step.Step.TheVariants.{Expire, Reconnect, Unsubscribe, Place}
use Rattle.rb_desk.specs.declared.step.Step.TheVariants.{Close, NackOpened}
use Rattle.rb_desk.specs.Journal.{Log}
use Rattle.rb_desk.specs.Picture.{Picture}
use Rattle.rb_desk.specs.Steps.{replay}

-- A desk: its picture, and all steps that were made, in order.
pub record JournaledPicture : Type 0 where
  pub picture : Picture
  pub steps : List Step

-- A board with a tally: its picture, and how many steps were made.
pub record TalliedPicture : Type 0 where
  pub picture : Picture
  pub steps : ℕ

-- the picture is what the steps lead to
abbrev pub IsReplay : JournaledPicture → Type 0
IsReplay desk = replay desk.picture.limits desk.steps ≡ desk.picture

-- What a desk keeps of its board and its journal: the steps lead to the picture, the board has
-- counted them, and unless the sequence is closed there is room for its closing.
pub record JournalAgrees (board : TalliedPicture) (journal : Log) : Type 0 where
  pub leads : replay board.picture.limits journal.steps ≡ board.picture
  pub counted : board.steps ≡ length journal.steps
  pub room : board.picture.closing ≡ None → 1 ≤ journal.room

-- ---- answers

-- After so many steps the journal is full: no step but a closing goes into it.
abbrev pub is_full : ℕ → Bool
is_full steps = nat_le 268435455 steps

-- What a call answers after so many steps: `JournalFull` comes before its own refusals.
abbrev pub answer_after : {A : Type 0} → ℕ → Result A DeskRefusal → Result A DeskRefusal
answer_after steps answer = if is_full steps then Err JournalFull else answer

-- What a call with this answer returns, and what it leaves: the next state after Ok, else the old
-- one. Out of memory comes only where the answer is Ok.
abbrev pub CallAnswers : {A S : Type 0} → Result A DeskError → Result A DeskRefusal → S → S → S
    → Type 0
CallAnswers (Ok answer) call next old new = (call ≡ Ok answer) × (new ≡ next)
CallAnswers (Err (Refused why)) call next old new = (call ≡ Err why) × (new ≡ old)
CallAnswers (Err Memory) call next old new = IsOk call × (new ≡ old)

-- a call of the picture on a tallied board: an Ok is one step more
abbrev pub tallied : TalliedPicture → Picture → TalliedPicture
tallied old picture = record { picture = picture; steps = suc old.steps }

abbrev pub TallyAnswers : {A : Type 0} → Result A DeskError → Result A DeskRefusal × Picture
    → TalliedPicture → TalliedPicture → Type 0
TallyAnswers result call old new =
    CallAnswers result (answer_after old.steps call.0) (tallied old call.1) old new

-- a call of the picture on a desk: an Ok puts its step at the end of the journal
abbrev pub journaled : JournaledPicture → Step → Picture → JournaledPicture
journaled old step picture = record { picture = picture; steps = old.steps ++ step ∷ [] }

abbrev pub JournalAnswers : {A : Type 0} → Result A DeskError → Result A DeskRefusal × Picture
    → Step → JournaledPicture → JournaledPicture → Type 0
JournalAnswers result call step old new =
    CallAnswers result (answer_after (length old.steps) call.0) (journaled old step call.1) old new

-- a call that has no room for its step: the error that it returns, by its refusal
abbrev pub error_of : Option DeskRefusal → DeskError
error_of (Some why) = Refused why
error_of None = Memory

-- the step of a closing: a second one is none
abbrev pub closing_steps : Option ℕ → List Step
closing_steps None = Close ∷ []
closing_steps (Some last) = []

-- ---- how many steps a journal has of a kind

-- A subscription's own steps, which its owner counts: taking, acknowledging, giving back, opening,
-- reconnecting and unsubscribing.
abbrev pub is_own : Step → Bool
is_own (Subscribe start) = false
is_own (Take s link cursor now) = true
is_own (TakeAny now) = false
is_own (Ack s link delivery cursor) = true
is_own (Nack s link delivery) = true
is_own (NackOpened s link delivery) = true
is_own (Expire now) = false
is_own (Reconnect s cursor) = true
is_own (Unsubscribe s link) = true
is_own Place = false
is_own Close = false

-- how many steps of a kind there are
abbrev pub counted_steps : (Step → Bool) → List Step → ℕ
counted_steps kind steps = count_by kind steps
