-- How a placing ends: the desk refuses the number, or the item is placed.
use Rattle.std.proofs.Common.{◌≡◌, ℕ, suc, ◌+◌, ◌≤◌, Bool, true, false, List, [], ◌∷◌, ◌++◌}
use Rattle.std.proofs.Common.{Option, Some, None, Ok, Err, length, nat_le, refl, ap, sym, subst, ◌∙◌, arith}
use Rattle.std.specs.Prelude.{◌&&◌, if◌then◌else◌, not, IsOk, Result}
use Rattle.std.proofs.lemmas.Bool.{false≢true, leb-true, lt-leb}
use Rattle.std.proofs.lemmas.List.{length-append}
use Rattle.cs_model.specs.Section.{Section}
use Rattle.rb_desk.proofs.calls.CallLaws.{prepared}
use Rattle.rb_desk.proofs.journals.KeepLaws.{call_after}
use Rattle.rb_desk.specs.Calls.{place, prepare}
use Rattle.rb_desk.specs.declared.config.ConfigFault.{ConfigFault}
use Rattle.rb_desk.specs.declared.config.ConfigFault.TheVariants.{Batch, Window, Timeout, Capacity, Intake}
use Rattle.rb_desk.specs.declared.refusal.DeskRefusal.{DeskRefusal}
use Rattle.rb_desk.specs.IsPicture.{AreInRange}
use Rattle.rb_desk.specs.Journaled.{answer_after}
use Rattle.rb_desk.specs.Limits.{Limits, is_in_range}
use Rattle.rb_desk.specs.Picture.{Picture}
use Rattle.rb_deliveries.specs.Queues.{most_numbers}
use Rattle.rb_sequence.specs.Item.{Item}
use Rattle.rb_core.specs.declared.event.Event.TheVariants as event
use Rattle.rb_core.specs.declared.placing.PlacingRefusal.TheVariants as why
use Rattle.rb_core.specs.declared.publisher.PublisherState.{PublisherState}
use Rattle.rb_core.specs.declared.reply.BrokerRefusal.TheVariants as refusal
use Rattle.rb_core.specs.Outcome.{outcome, placed, with_publisher}
use Rattle.rb_core.specs.Placing.{PlacingEnd, placed_with, placing}
use Rattle.rb_core.specs.State.{IsWorld, State, how_many_held}
use Rattle.rb_core.proofs.whole_placings.PlaceSteps.{place_fills, place_goes_by, placed_last, place_turns}
use Rattle.rb_core.proofs.whole_placings.Whole.{WholeSpells, as_reset, emptied_stream, item_in_hand, queued}
use Rattle.rb_core.proofs.whole_placings.Whole.{reset_first, send_sends, sent_next, staging, turn_is, whole_item}

-- ---- what an empty queue says

-- nothing is in hand, and nothing in the intake
none_waiting : (hand : Option Item) (intake : List Item) → how_many_held hand + length intake ≡ 0
    → (hand ≡ None) × (intake ≡ [])
none_waiting None [] is = (refl, refl)
none_waiting None (item ∷ items) is = absurd (omega (arith, is))
none_waiting (Some item) items is = absurd (omega (arith, is))

-- the fifth test passes, where all do
fifth : (a b c d e : Bool) (rest : Option ConfigFault)
    → (if not a then Some Batch else if not b then Some Window else if not c then Some Timeout
    else if not d then Some Capacity else if not e then Some Intake else rest) ≡ None → e ≡ true
fifth true true true true true rest is = refl
fifth true true true true false rest is = absurd (let none : Some Intake ≡ None = is in cc)
fifth true true true false e rest is = absurd (let none : Some Capacity ≡ None = is in cc)
fifth true true false d e rest is = absurd (let none : Some Timeout ≡ None = is in cc)
fifth true false c d e rest is = absurd (let none : Some Window ≡ None = is in cc)
fifth false b c d e rest is = absurd (let none : Some Batch ≡ None = is in cc)

front_true : (a b : Bool) → (a && b) ≡ true → a ≡ true
front_true true b is = refl
front_true false b is = absurd (false≢true is)

-- at least one may wait
one_waits : (limits : Limits) → AreInRange limits → 1 ≤ limits.intake
one_waits limits ranges =
    leb-true 1 limits.intake (front_true (nat_le 1 limits.intake) (nat_le limits.intake 4096)
    (fifth (is_in_range 256 limits.batch) (is_in_range 64 limits.window) (is_in_range 1000000000 limits.timeout)
    (is_in_range most_numbers limits.capacity) (is_in_range 4096 limits.intake) _ ranges))

-- so an empty intake has room
intake_has_room : (limits : Limits) (intake : List Item) → AreInRange limits → intake ≡ []
    → nat_le limits.intake (length intake) ≡ false
intake_has_room limits intake ranges none =
    lt-leb limits.intake (length intake)
    (omega (arith, one_waits limits ranges, ap (λ (xs : List Item). length xs) none))

-- ---- the turn

-- the item is queued
turned_next : (old : State) (p : ℕ) (q : PublisherState) (text : List ℕ) (body : List Section) → IsWorld old
    → WholeSpells old p q text body → old.desk.closing ≡ None
    → place_fills p text (with_publisher old p (emptied_stream q))
    ≡ place_turns (with_publisher old p (emptied_stream q)) (queued old p q body)
turned_next old p q text body good at opened =
    let back = with_publisher old p (emptied_stream q) in
    let none = none_waiting old.hand old.intake at.begins.none_waits in
    sent_next old p q text body at
    ∙ place_goes_by back (with_publisher old p (staging q body)) (event.Send p) (place_turns back)
    (send_sends old p q body at.begins.here opened
    (intake_has_room old.desk.limits old.intake good.picture.in_range none.1))

-- the turn about the item, by what the desk answers
turned_as : (old : State) (p : ℕ) (q : PublisherState) (text : List ℕ) (body : List Section)
    {answer : Result ℕ DeskRefusal} → WholeSpells old p q text body → answer_after old.steps (prepare old.desk) ≡ answer
    → outcome (queued old p q body) event.Turn ≡ placed (item_in_hand old p q body) (whole_item p q body) answer
turned_as old p q text body at is =
    let none = none_waiting old.hand old.intake at.begins.none_waits in
    turn_is old p q body none.0 none.1 ∙ ap (λ r. placed (item_in_hand old p q body) (whole_item p q body) r) is

-- the desk refuses the number
pub number_refused : (old : State) (p : ℕ) (q : PublisherState) (text : List ℕ) (body : List Section)
    (reason : DeskRefusal) → IsWorld old → WholeSpells old p q text body → old.desk.closing ≡ None
    → answer_after old.steps (prepare old.desk) ≡ Err reason
    → placing old p text ≡ (Err (why.Refused (refusal.Desk reason)), (outcome old (event.Reset p)).1)
number_refused old p q text body reason good at opened is =
    let back = with_publisher old p (emptied_stream q) in
    as_reset old p q text at.begins.here (turned_next old p q text body good at opened
    ∙ place_goes_by back (queued old p q body) event.Turn placed_last (turned_as old p q text body at is))

-- the desk answers the number after the last
pub number_is_next : (old : State) (n : ℕ) → IsWorld old → answer_after old.steps (prepare old.desk) ≡ Ok n
    → n ≡ suc (length old.sequence)
number_is_next old n good is =
    let call : prepare old.desk ≡ Ok n =
    ap (λ (r : Result ℕ DeskRefusal × Picture). r.0) (call_after old.steps (prepare old.desk, old.desk) n is) in
    let ok : IsOk (prepare old.desk) = subst (λ (r : Result ℕ DeskRefusal). IsOk r) (sym call) refl in
    let same : n ≡ suc old.desk.front =
    (let e : Ok n ≡ Ok (suc old.desk.front) = sym call ∙ prepared old.desk ok in cc) in
    same ∙ ap suc good.front

pub sequence_longer : {A : Type 0} (xs : List A) (x : A) → length (xs ++ x ∷ []) ≡ suc (length xs)
sequence_longer xs x = omega (arith, length-append xs (x ∷ []))

-- it is placed
pub whole_places : (old : State) (p : ℕ) (q : PublisherState) (text : List ℕ) (body : List Section) (n : ℕ)
    → IsWorld old → WholeSpells old p q text body → old.desk.closing ≡ None
    → answer_after old.steps (prepare old.desk) ≡ Ok n
    → placing old p text ≡ (Ok (suc (length old.sequence)), placed_with old p (whole_item p q body))
whole_places old p q text body n good at opened is =
    let back = with_publisher old p (emptied_stream q) in
    let none = none_waiting old.hand old.intake at.begins.none_waits in
    reset_first old p q text at.begins.here ∙ turned_next old p q text body good at opened
    ∙ place_goes_by back (queued old p q body) event.Turn placed_last (turned_as old p q text body at is)
    ∙ ap (λ m. with_last m None [] n) (sequence_longer old.sequence (record { number = n; item = whole_item p q body }))
    ∙ ap (λ m. with_last (suc (length old.sequence)) None [] m) (number_is_next old n good is)
    ∙ ap (λ h. with_last (suc (length old.sequence)) h [] (suc (length old.sequence))) (sym none.0)
    ∙ ap (λ xs. with_last (suc (length old.sequence)) old.hand xs (suc (length old.sequence))) (sym none.1)
  where
    with_last : ℕ → Option Item → List Item → ℕ → PlacingEnd
    with_last m h xs number = (
      Ok m,
      record (queued old p q body) {
        hand = h;
        intake = xs;
        sequence = old.sequence ++ record { number = number; item = whole_item p q body } ∷ [];
        desk = place old.desk;
        steps = suc old.steps;
      },
    )
