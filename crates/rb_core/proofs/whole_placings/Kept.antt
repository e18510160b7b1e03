-- What a placing leaves: a world, and after a refusal the world that the reset leaves.
use Rattle.std.proofs.Common.{◌≡◌, ℕ, zero, suc, List, Option, Some, None, Ok, Err, refl, ap, sym, subst, length}
use Rattle.std.specs.Prelude.{Result, slice_get}
use Rattle.rb_core.specs.declared.event.Event.{Event}
use Rattle.rb_core.specs.declared.event.Event.TheVariants as event
use Rattle.rb_core.specs.declared.placing.PlacingRefusal.{PlacingRefusal}
use Rattle.rb_core.specs.declared.placing.PlacingError.{PlacingError}
use Rattle.rb_core.specs.declared.placing.PlacingError.TheVariants as error
use Rattle.rb_core.specs.declared.publisher.PublisherState.{PublisherState}
use Rattle.rb_core.specs.Outcome.{outcome, reset_by}
use Rattle.rb_core.specs.Placing.{AnswersPlacing, PlacingEnd, after_event, unless_stopped, placing, stop_of, when_none_waits}
use Rattle.rb_core.specs.State.{IsWorld, State, how_many_wait}
use Rattle.rb_core.proofs.whole_placings.PlaceSteps.{place_ends, place_feeds, place_fills, place_sends, place_turns}
use Rattle.rb_core.proofs.whole_placings.PlaceSteps.{placed_last}
use Rattle.rb_core.proofs.whole_runs.RunLaws.{KeepsWorlds}

-- ---- a world is left

place_kept_on : (back : State) (stop : Option PlacingRefusal) (mid : State) (rest : State → PlacingEnd) → IsWorld back
    → IsWorld mid → ((w : State) → IsWorld w → IsWorld (rest w).1) → IsWorld (unless_stopped back stop mid rest).1
place_kept_on back (Some refusal) mid rest kept good more = kept
place_kept_on back None mid rest kept good more = more mid good

place_kept_after : KeepsWorlds → (back old : State) (event : Event) (rest : State → PlacingEnd) → IsWorld back
    → IsWorld old → ((w : State) → IsWorld w → IsWorld (rest w).1) → IsWorld (after_event back old event rest).1
place_kept_after keeps back old event rest kept good more =
    place_kept_on back (stop_of (outcome old event).0) (outcome old event).1 rest kept
    (keeps old event (outcome old event).0 (outcome old event).1 good refl) more

place_kept_waiting : (back : State) (n : ℕ) (rest : PlacingEnd) → IsWorld back → IsWorld rest.1
    → IsWorld (when_none_waits back n rest).1
place_kept_waiting back zero rest kept good = good
place_kept_waiting back (suc n) rest kept good = kept

pub placing_keeps : KeepsWorlds → (old : State) (p : ℕ) (text : List ℕ) → IsWorld old
    → IsWorld (placing old p text).1
placing_keeps keeps old p text good =
    place_kept_after keeps old old (event.Reset p) (place_fills p text) good good
    (λ back so. place_kept_waiting back (how_many_wait back) (place_feeds p text back) so
    (place_kept_after keeps back back (event.Feed p text) (place_ends p back) so so
    (λ fed so_fed. place_kept_after keeps back fed (event.End p) (place_sends p back) so so_fed
    (λ ended so_ended. place_kept_after keeps back ended (event.Send p) (place_turns back) so so_ended
    (λ sent so_sent. place_kept_after keeps back sent event.Turn placed_last so so_sent
    (λ new so_new. so_new))))))

-- so a call keeps a world
pub answer_keeps : ((old : State) (p : ℕ) (text : List ℕ) (answer : Result ℕ PlacingRefusal) (new : State)
    → IsWorld old → placing old p text ≡ (answer, new) → IsWorld new)
    → (old : State) (p : ℕ) (text : List ℕ) (result : Result ℕ PlacingError) (new : State) → IsWorld old
    → AnswersPlacing result old p text new → IsWorld new
answer_keeps keeps old p text (Ok number) new good is = keeps old p text (Ok number) new good is
answer_keeps keeps old p text (Err (error.Refused refusal)) new good is =
    keeps old p text (Err refusal) new good is
answer_keeps keeps old p text (Err error.Memory) new good is = subst IsWorld (sym is.0) good

-- ---- a refused placing

-- where it is refused, it leaves this world
abbrev LeavesBack : State → PlacingEnd → Type 0
LeavesBack back call = (refusal : PlacingRefusal) (new : State) → call ≡ (Err refusal, new) → new ≡ back

place_left_on : (back : State) (stop : Option PlacingRefusal) (mid : State) (rest : State → PlacingEnd)
    → ((w : State) → LeavesBack back (rest w)) → LeavesBack back (unless_stopped back stop mid rest)
place_left_on back (Some refusal) mid rest more = λ other new is. sym (ap (λ (x : PlacingEnd). x.1) is)
place_left_on back None mid rest more = more mid

place_left_waiting : (back : State) (n : ℕ) (rest : PlacingEnd) → LeavesBack back rest
    → LeavesBack back (when_none_waits back n rest)
place_left_waiting back zero rest more = more
place_left_waiting back (suc n) rest more = λ other new is. sym (ap (λ (x : PlacingEnd). x.1) is)

place_left_last : (back new : State) → LeavesBack back (placed_last new)
place_left_last back new refusal other is =
    absurd (let e : Ok (length new.sequence) ≡ Err refusal = ap (λ (x : PlacingEnd). x.0) is in cc)

place_left_after : (back old : State) (event : Event) (rest : State → PlacingEnd)
    → ((w : State) → LeavesBack back (rest w)) → LeavesBack back (after_event back old event rest)
place_left_after back old event rest more =
    place_left_on back (stop_of (outcome old event).0) (outcome old event).1 rest more

place_left_fills : (p : ℕ) (text : List ℕ) (back : State) → LeavesBack back (place_fills p text back)
place_left_fills p text back =
    place_left_waiting back (how_many_wait back) (place_feeds p text back)
    (place_left_after back back (event.Feed p text) (place_ends p back)
    (λ fed. place_left_after back fed (event.End p) (place_sends p back)
    (λ ended. place_left_after back ended (event.Send p) (place_turns back)
    (λ sent. place_left_after back sent event.Turn placed_last (place_left_last back)))))

place_left_reset : (old : State) (p : ℕ) (text : List ℕ) (found : Option PublisherState) (refusal : PlacingRefusal)
    (new : State)
    → unless_stopped old (stop_of (reset_by old p found).0) (reset_by old p found).1 (place_fills p text) ≡ (Err refusal, new)
    → new ≡ (reset_by old p found).1
place_left_reset old p text None refusal new is = sym (ap (λ (x : PlacingEnd). x.1) is)
place_left_reset old p text (Some q) refusal new is = place_left_fills p text (reset_by old p (Some q)).1 refusal new is

pub refused_leaves : (old : State) (p : ℕ) (text : List ℕ) (refusal : PlacingRefusal) (new : State)
    → placing old p text ≡ (Err refusal, new) → new ≡ (outcome old (event.Reset p)).1
unfolding outcome
refused_leaves old p text refusal new is = place_left_reset old p text (slice_get old.publishers p) refusal new is
