-- What one call of the desk leaves of what the lock says of the desk: its limits, its closing number, how many
-- subscriptions it has, and how many steps of their own its journal has.
use Rattle.std.proofs.Common.{◌≡◌, ◌+◌, ◌++◌, ℕ, Bool, true, false, cond, length, Option, Some, None, Result, Ok, Err}
use Rattle.std.proofs.Common.{List, [], ◌∷◌, refl, sym, ap, ◌∙◌, subst, arith, option_map, IfSome}
use Rattle.std.proofs.lemmas.List.{append-nil}
use Rattle.rb_desk.specs.declared.refusal.DeskError.{DeskError}
use Rattle.rb_desk.specs.declared.refusal.DeskError.TheVariants.{Refused, Memory}
use Rattle.rb_desk.specs.declared.refusal.DeskRefusal.{DeskRefusal}
use Rattle.rb_desk.specs.declared.step.Step.{Step}
use Rattle.rb_desk.specs.declared.refusal.DeskRefusal.TheVariants.{Drained, JournalFull}
use Rattle.rb_desk.specs.declared.step.Step.TheVariants.{Close}
use Rattle.rb_desk.specs.Calls.{take}
use Rattle.rb_desk.specs.Journaled.{IsReplay, JournalAnswers, JournaledPicture, answer_after, closing_steps, counted_steps}
use Rattle.rb_desk.specs.Journaled.{is_full}
use Rattle.rb_desk.specs.Journaled.{is_own, journaled}
use Rattle.rb_desk.specs.Limits.{Limits}
use Rattle.rb_desk.specs.Picture.{Picture}
use Rattle.rb_desk.specs.Steps.{KeepsFrame}
use Rattle.rb_history.specs.declared.chronicle.Chronicle.{Chronicle}
use Rattle.rb_sequence.specs.Cells.{Cells, IsLastToken, LastToken}
use Rattle.rb_subscriber.specs.Owner.{desk_after}
use Rattle.rb_subscriber.specs.Register.{RegisterState}
use Rattle.rb_broker.specs.Holding.{IsAtEnd}
use Rattle.rb_broker.specs.Placing.{ShowsClosing}
use Rattle.rb_broker.proofs.StepLaws.{one_step_on}

-- what stays of a desk, and how many own steps are added
pub record LockKeeps (old new : JournaledPicture) (more : ℕ) : Type 0 where
  pub frame : KeepsFrame old.picture new.picture
  pub own : counted_steps is_own new.steps ≡ counted_steps is_own old.steps + more

-- the law that counts the steps of a kind
abbrev pub CountsOwn : Type 0
CountsOwn = (old : JournaledPicture) (step : Step) (picture : Picture)
    → counted_steps is_own (journaled old step picture).steps
    ≡ counted_steps is_own old.steps + cond (is_own step) 1 0

abbrev pub own_steps : {A : Type 0} → Result A DeskError → Step → ℕ
own_steps (Ok answer) step = cond (is_own step) 1 0
own_steps (Err error) step = 0

frame_same : (p : Picture) → KeepsFrame p p
frame_same p = record { limits = refl; closing = refl; count = refl }

same_desk : (old new : JournaledPicture) → new ≡ old → LockKeeps old new 0
same_desk old new is = subst (λ (d : JournaledPicture). LockKeeps old d 0) (sym is)
    (record { frame = frame_same old.picture; own = omega arith })

-- one step more
pub step_keeps : (old new : JournaledPicture) (step : Step) (next : Picture) → CountsOwn → KeepsFrame old.picture next
    → new ≡ journaled old step next → LockKeeps old new (cond (is_own step) 1 0)
step_keeps old new step next counts keeps is =
    subst (λ (d : JournaledPicture). LockKeeps old d (cond (is_own step) 1 0)) (sym is)
    (record { frame = keeps; own = counts old step next })

-- any call that neither subscribes nor closes
pub call_keeps : {A : Type 0} (result : Result A DeskError) (call : Result A DeskRefusal × Picture) (step : Step)
    (old new : JournaledPicture) → CountsOwn → KeepsFrame old.picture call.1 → JournalAnswers result call step old new
    → LockKeeps old new (own_steps result step)
call_keeps (Ok answer) call step old new counts keeps answers = step_keeps old new step call.1 counts keeps answers.1
call_keeps (Err (Refused why)) call step old new counts keeps answers = same_desk old new answers.1
call_keeps (Err Memory) call step old new counts keeps answers = same_desk old new answers.1

-- the token of the closing cell goes on showing the closing number
shows_on : (cells : Cells) (old new : JournaledPicture) (more : ℕ) (closing : Option LastToken) → LockKeeps old new more
    → ShowsClosing cells old.picture.closing closing → ShowsClosing cells new.picture.closing closing
shows_on cells old new more closing keeps shows = (shows.0 ∙ sym keeps.frame.closing, shows.1)

-- what the lock says of the desk, the closing token and the register
pub record HoldsSo (own : Limits) (cells : Cells) (desk : JournaledPicture) (closing : Option LastToken)
    (register : RegisterState) : Type 0 where
  pub limits : desk.picture.limits ≡ own
  pub closes : ShowsClosing cells desk.picture.closing closing
  pub total : register.total ≡ counted_steps is_own desk.steps
  pub made : register.made ≡ length desk.picture.subscriptions

-- it goes on, where the register counts what the desk adds
pub holds_on : (limits : Limits) (cells : Cells) (old new : JournaledPicture) (more : ℕ) (closing : Option LastToken)
    (before after : RegisterState) → LockKeeps old new more → after ≡ record before { total = before.total + more }
    → HoldsSo limits cells old closing before → HoldsSo limits cells new closing after
holds_on limits cells old new more closing before after keeps counted h =
    record {
      limits = keeps.frame.limits ∙ h.limits;
      closes = shows_on cells old new more closing keeps h.closes;
      total = omega (arith, ap (λ (r : RegisterState). r.total) counted, h.total, keeps.own);
      made = ap (λ (r : RegisterState). r.made) counted ∙ h.made ∙ sym keeps.frame.count;
    }

-- the same with what the calls leave alone, and with the history: the ghost fields of *Locked*
abbrev pub LockHolds : Limits → Cells → JournaledPicture → Cells → Option LastToken → ℕ → RegisterState → ℕ × ℕ
    → Chronicle Step → Type 0
LockHolds own cells desk filler closing parts register name history = record {
  limits : desk.picture.limits ≡ own;
  fits : own.capacity ≡ cells.capacity;
  fills : filler ≡ cells;
  closes : ShowsClosing cells desk.picture.closing closing;
  all : parts ≡ 1024;
  total : register.total ≡ counted_steps is_own desk.steps;
  made : register.made ≡ length desk.picture.subscriptions;
  name : history.name ≡ name;
  replays : desk ≡ desk_after own history.log;
}

-- the history as the owner has seen it, and with one step more
pub record GrowsBy (number : ℕ) (step : Step) (old seen grown : Chronicle Step) : Type 0 where
  pub same : seen ≡ old
  pub named : grown.name ≡ seen.name
  pub log : grown.log ≡ seen.log ++ (number, step) ∷ []

pub named_still : {name : ℕ × ℕ} {number : ℕ} {step : Step} {old seen grown : Chronicle Step}
    → GrowsBy number step old seen grown → old.name ≡ name → grown.name ≡ name
named_still grows is = grows.named ∙ ap (λ (h : Chronicle Step). h.name) grows.same ∙ is

pub logged : {number : ℕ} {step : Step} {old seen grown : Chronicle Step}
    → GrowsBy number step old seen grown → grown.log ≡ old.log ++ (number, step) ∷ []
logged {number = number} {step = step} grows =
    grows.log ∙ ap (λ (h : Chronicle Step). h.log ++ (number, step) ∷ []) grows.same

-- what the lock says of the desk goes on after a subscription's own step, which the register counts
pub own_step_holds : {limits : Limits} {cells filler : Cells} {new : JournaledPicture} {next : Picture} {parts : ℕ}
    {before after : RegisterState} {name : ℕ × ℕ} {number : ℕ} {history seen grown : Chronicle Step}
    (old : JournaledPicture) (step : Step) (closing : Option LastToken) → CountsOwn
    → KeepsFrame old.picture next → new ≡ journaled old step next
    → after ≡ record before { total = before.total + cond (is_own step) 1 0 }
    → old.picture.limits ≡ limits → limits.capacity ≡ cells.capacity → filler ≡ cells
    → ShowsClosing cells old.picture.closing closing → parts ≡ 1024 → before.total ≡ counted_steps is_own old.steps
    → before.made ≡ length old.picture.subscriptions → history.name ≡ name → old ≡ desk_after limits history.log
    → IsReplay new → GrowsBy number step history seen grown
    → LockHolds limits cells new filler closing parts after name grown
own_step_holds {limits} {cells} {filler} {new} {next} {parts} {before} {after} {name} {number} {history} {seen} {grown}
    old step closing counts frame is counted under fits fills closes all total made named was replays grows =
    let keeps = step_keeps old new step next counts frame is in
    let k = holds_on limits cells old new _ closing before after keeps counted
    (record { limits = under; closes = closes; total = total; made = made }) in
    record {
      limits = k.limits;
      fits = fits;
      fills = fills;
      closes = k.closes;
      all = all;
      total = k.total;
      made = k.made;
      name = named_still grows named;
      replays = one_step_on limits old new step next history.log grown.log number was is frame.limits replays (logged grows);
    }

-- so it does where the desk adds none
pub holds_still : (limits : Limits) (cells : Cells) (old new : JournaledPicture) (more : ℕ) (closing : Option LastToken)
    (register : RegisterState) → LockKeeps old new more → more ≡ 0
    → HoldsSo limits cells old closing register → HoldsSo limits cells new closing register
holds_still limits cells old new more closing register keeps none h =
    record {
      limits = keeps.frame.limits ∙ h.limits;
      closes = shows_on cells old new more closing keeps h.closes;
      total = omega (arith, h.total, keeps.own, none);
      made = h.made ∙ sym keeps.frame.count;
    }

-- so it does after a step that isn't a subscription's own: the register counts none
pub other_step_holds : {limits : Limits} {cells filler : Cells} {new : JournaledPicture} {next : Picture} {parts : ℕ}
    {register : RegisterState} {name : ℕ × ℕ} {number : ℕ} {history seen grown : Chronicle Step} (old : JournaledPicture)
    (step : Step) (closing : Option LastToken) → CountsOwn → KeepsFrame old.picture next
    → new ≡ journaled old step next → is_own step ≡ false → old.picture.limits ≡ limits
    → limits.capacity ≡ cells.capacity → filler ≡ cells
    → ShowsClosing cells old.picture.closing closing → parts ≡ 1024 → register.total ≡ counted_steps is_own old.steps
    → register.made ≡ length old.picture.subscriptions → history.name ≡ name → old ≡ desk_after limits history.log
    → IsReplay new → GrowsBy number step history seen grown
    → LockHolds limits cells new filler closing parts register name grown
other_step_holds {limits} {cells} {filler} {new} {next} {parts} {register} {name} {number} {history} {seen} {grown}
    old step closing counts frame is not_own under fits fills closes all total made named was replays grows =
    let keeps = step_keeps old new step next counts frame is in
    let k = holds_still limits cells old new _ closing register keeps (ap (λ b. cond b 1 0) not_own)
    (record { limits = under; closes = closes; total = total; made = made }) in
    record {
      limits = k.limits;
      fits = fits;
      fills = fills;
      closes = k.closes;
      all = all;
      total = k.total;
      made = k.made;
      name = named_still grows named;
      replays = one_step_on limits old new step next history.log grown.log number was is frame.limits replays (logged grows);
    }

-- an Ok that comes after so many steps is the call's own
pub answered : {A : Type 0} (steps : ℕ) (r : Result A DeskRefusal) (a : A) → answer_after steps r ≡ Ok a → r ≡ Ok a
answered {A} steps r a e = by (is_full steps) e
  where
    by : (b : Bool) → cond b (Err JournalFull) r ≡ Ok a → r ≡ Ok a
    by true e = absurd (let no : Err JournalFull ≡ Ok a = e in cc)
    by false e = e

-- so is a refusal other than a full journal
pub refused_so : {A : Type 0} (steps : ℕ) (r : Result A DeskRefusal) (last : ℕ)
    → answer_after steps r ≡ Err (Drained last) → r ≡ Err (Drained last)
refused_so {A} steps r last e = by (is_full steps) e
  where
    by : (b : Bool) → cond b (Err JournalFull) r ≡ Err (Drained last) → r ≡ Err (Drained last)
    by true e = absurd (let no : Err JournalFull ≡ Err (Drained last) = e in cc)
    by false e = e

-- closing the sequence is no own step
pub closing_counts : (old : JournaledPicture) (o : Option ℕ) → CountsOwn
    → counted_steps is_own (old.steps ++ closing_steps o) ≡ counted_steps is_own old.steps
closing_counts old None counts = omega (arith, counts old Close old.picture)
closing_counts old (Some last) counts = ap (counted_steps is_own) (append-nil old.steps)

-- a refused `take`
pub drained_there : (s link cursor now : ℕ) (error : DeskError) (old new : JournaledPicture) (step : Step)
    → ((last : ℕ) → (take old.picture s link cursor now).0 ≡ Err (Drained last) → (cursor ≡ last)
    × (old.picture.closing ≡ Some last))
    → JournalAnswers (Err error) (take old.picture s link cursor now) step old new
    → IsAtEnd cursor new.picture.closing error
drained_there s link cursor now error old new step law answers last is =
    let so = subst (λ (e : DeskError). JournalAnswers (Err e) (take old.picture s link cursor now) step old new) is answers in
    let both = law last (refused_so (length old.steps) (take old.picture s link cursor now).0 last so.0) in
    (both.0, ap (λ (d : JournaledPicture). d.picture.closing) so.1 ∙ both.1)

-- what is under no token isn't closed
pub none_shown : (cells : Cells) (closing : Option ℕ) (o : Option LastToken) → o ≡ None → ShowsClosing cells closing o
    → None ≡ closing
none_shown cells closing o none shows = ap (option_map (λ (t : LastToken). t.last)) (sym none) ∙ shows.0

pub some_shown : (cells : Cells) (closing : Option ℕ) (o : Option LastToken) (t : LastToken) → o ≡ Some t
    → ShowsClosing cells closing o → (Some t.last ≡ closing) × IsLastToken cells t
some_shown cells closing o t some shows = (
  ap (option_map (λ (x : LastToken). x.last)) (sym some) ∙ shows.0,
  subst (λ (x : Option LastToken). IfSome x (λ y. IsLastToken cells y)) some shows.1,
)
