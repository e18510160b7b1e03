-- One step more: the journal still leads to the picture, its length is the tally, and a closing has room.
use Rattle.std.proofs.Common.{◌≡◌, ℕ, suc, ◌≤◌, List, [], ◌∷◌, ◌++◌, length, Some, None, Ok, refl, sym}
use Rattle.std.proofs.Common.{ap, ◌∙◌, length-append, arith, Bool, true, false, cond, Result, Err}
use Rattle.rb_desk.specs.Calls.{prepare, place, close, last_number}
use Rattle.rb_desk.specs.Journal.{Log}
use Rattle.rb_desk.specs.Journaled.{TalliedPicture, JournalAgrees, tallied, answer_after, is_full}
use Rattle.rb_desk.specs.declared.refusal.DeskRefusal.{DeskRefusal}
use Rattle.rb_desk.specs.declared.refusal.DeskRefusal.TheVariants.{JournalFull}
use Rattle.rb_desk.specs.Picture.{Picture, empty_picture}
use Rattle.rb_desk.specs.Steps.{after_step, placed_if, replayed, replay}
use Rattle.rb_desk.specs.declared.step.Step.{Step}
use Rattle.rb_desk.specs.declared.step.Step.TheVariants.{Place, Close}

-- ---- a call after so many steps

ok_unless : {A : Type 0} (full : Bool) (answer : Result A DeskRefusal) (a : A)
    → cond full (Err JournalFull) answer ≡ Ok a → answer ≡ Ok a
ok_unless true answer a is = absurd cc
ok_unless false answer a is = is

-- what is Ok after so many steps is Ok
pub call_after : {A : Type 0} (steps : ℕ) (call : Result A DeskRefusal × Picture) (a : A)
    → answer_after steps call.0 ≡ Ok a → call ≡ (Ok a, call.1)
call_after {A} steps call a is = ap (λ (r : Result A DeskRefusal). (r, call.1)) (ok_unless (is_full steps) call.0 a is)

-- ---- what is kept

abbrev pub StepsKeepLimits : Type 0
StepsKeepLimits = (p : Picture) (step : Step) → (after_step p step).limits ≡ p.limits

pub replayed_last : (p : Picture) (steps : List Step) (step : Step)
    → replayed p (steps ++ step ∷ []) ≡ after_step (replayed p steps) step
replayed_last p [] step = refl
replayed_last p (first ∷ steps) step = replayed_last (after_step p first) steps step

-- a step that leads to the new picture is the journal's last
pub replays_on : StepsKeepLimits → (old new : Picture) (steps after : List Step) (step : Step)
    → replay old.limits steps ≡ old → after_step old step ≡ new → after ≡ steps ++ step ∷ []
    → replay new.limits after ≡ new
replays_on keep old new steps after step is leads grown =
    let limits = ap (λ (p : Picture). p.limits) (sym leads) ∙ keep old step in
    ap (λ l. replayed (empty_picture l) after) limits ∙ ap (replay old.limits) grown
    ∙ replayed_last (empty_picture old.limits) steps step ∙ ap (λ p. after_step p step) is ∙ leads

pub one_longer : (steps after : List Step) (step : Step) → after ≡ steps ++ step ∷ [] → length after ≡ suc (length steps)
one_longer steps after step grown =
    let all = ap length grown ∙ length-append steps (step ∷ []) in omega (arith, all)

-- a call that isn't refused: it made room for two steps, and pushed its own
pub call_kept : {old new : TalliedPicture} {before after : Log} (picture : Picture) (step : Step) (ready : Log)
    → StepsKeepLimits → JournalAgrees old before → new ≡ tallied old picture → after.steps ≡ ready.steps ++ step ∷ []
    → suc after.room ≡ ready.room → ready.steps ≡ before.steps → after_step old.picture step ≡ picture
    → 2 ≤ ready.room → JournalAgrees new after
call_kept {old} {new} {before} {after} picture step ready keep kept made grown used same leads room =
    let whole : after.steps ≡ before.steps ++ step ∷ [] = grown ∙ ap (λ xs. xs ++ step ∷ []) same in
    let longer = one_longer before.steps after.steps step whole in
    let one = ap (λ (b : TalliedPicture). b.steps) made in record {
      leads = replays_on keep old.picture new.picture before.steps after.steps step kept.leads
          (leads ∙ ap (λ (b : TalliedPicture). b.picture) (sym made)) whole;
      counted = omega (arith, longer, one, kept.counted);
      room = λ _. omega (arith, room, used);
    }

-- ---- placing and closing

place_step : (p : Picture) (n : ℕ) → prepare p ≡ Ok n → after_step p Place ≡ place p
unfolding after_step
place_step p n is = ap (placed_if p) is

place_closing : (p : Picture) → (place p).closing ≡ p.closing
unfolding place
place_closing p = refl

pub place_kept : StepsKeepLimits → (old new : TalliedPicture) (n : ℕ) (before after : Log)
    → JournalAgrees old before → prepare old.picture ≡ Ok n → new ≡ tallied old (place old.picture)
    → after.steps ≡ before.steps ++ Place ∷ [] → after.room ≡ before.room → JournalAgrees new after
place_kept keep old new n before after kept ready made grown same =
    let longer = one_longer before.steps after.steps Place grown in
    let one = ap (λ (b : TalliedPicture). b.steps) made in
    let picture = ap (λ (b : TalliedPicture). b.picture) made in record {
      leads = replays_on keep old.picture new.picture before.steps after.steps Place kept.leads
          (place_step old.picture n ready ∙ sym picture) grown;
      counted = omega (arith, longer, one, kept.counted);
      room = λ none. let had = kept.room
          (sym (place_closing old.picture) ∙ ap (λ (p : Picture). p.closing) (sym picture) ∙ none) in
          omega (arith, had, same);
    }

pub close_again : (p : Picture) (last : ℕ) → p.closing ≡ Some last → close p ≡ (last, p)
unfolding close
close_again p last is =
    ap (λ c. (last_number p c, record p { closing = Some (last_number p c) })) is
    ∙ ap (λ c. (last, record p { closing = c })) (sym is)

close_closes : (p new : Picture) (last : ℕ) → close p ≡ (last, new) → new.closing ≡ None → ⊥
unfolding close
close_closes p new last is none = cc (ap (λ (r : ℕ × Picture). r.1.closing) is ∙ none)

close_step : (p new : Picture) (last : ℕ) → close p ≡ (last, new) → after_step p Close ≡ new
unfolding after_step
close_step p new last is = ap (λ (r : ℕ × Picture). r.1) is

pub close_kept : StepsKeepLimits → (old new : TalliedPicture) (last : ℕ) (before after : Log)
    → JournalAgrees old before → close old.picture ≡ (last, new.picture) → new.steps ≡ suc old.steps
    → after.steps ≡ before.steps ++ Close ∷ [] → JournalAgrees new after
close_kept keep old new last before after kept is one grown =
    let longer = one_longer before.steps after.steps Close grown in record {
      leads = replays_on keep old.picture new.picture before.steps after.steps Close kept.leads
          (close_step old.picture new.picture last is) grown;
      counted = omega (arith, longer, one, kept.counted);
      room = λ none. absurd (close_closes old.picture new.picture last is none);
    }
