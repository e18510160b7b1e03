-- Runs cut in two, and what the laws say of a finished run.
use Rattle.std.proofs.Common.{◌≡◌, ℕ, zero, suc, true, List, [], ◌∷◌, ◌++◌, take, drop, Result, Ok, Err, Some, refl}
use Rattle.std.proofs.Common.{sym, ap, ◌∙◌}
use Rattle.std.specs.Prelude.{IfOk, OnErr, slice_get}
use Rattle.std.specs.List.{AllByRecursion}
use Rattle.cs_model.specs.declared.shape.Shape.{Shape}
use Rattle.rb_desk.specs.Limits.{Limits}
use Rattle.rb_core.specs.declared.event.Event.{Event}
use Rattle.rb_core.specs.Moves.{StaysClosed}
use Rattle.rb_core.specs.Run.{Answer, Run, FeedsBytes, IsRunOf, RunsOn}
use Rattle.rb_core.specs.State.{State, empty_world}
use Rattle.rb_core.specs.Told.{world_told, IsToldBy}
use Rattle.rb_core.specs.World.{Subscriber, world_begun}
use Rattle.rb_core.proofs.reports.Telling.{IsTold}

-- what follows of an error
pub on_error : {A E : Type 0} (P Q : Type 0) (answer : Result A E) → (P → Q) → OnErr answer P → OnErr answer Q
on_error P Q (Ok x) follows err = tt
on_error P Q (Err e) follows err = follows err

-- what follows of an answer that is Ok
pub on_ok : {A E : Type 0} (P Q : A → Type 0) (answer : Result A E) → ((x : A) → P x → Q x) → IfOk answer P
    → IfOk answer Q
on_ok P Q (Ok x) follows ok = follows x ok
on_ok P Q (Err e) follows ok = tt

-- ---- a run cut behind its first n events

pub cut_run : (n : ℕ) (old : State) (events : List Event) (answers : List Answer) (new : State)
    → Run old events answers new → (mid : State) × Run old (take n events) (take n answers) mid
    × Run mid (drop n events) (drop n answers) new
cut_run zero old events answers new run = (old, refl, run)
cut_run (suc n) old [] [] new run = (old, refl, run)
cut_run (suc n) old [] (answer ∷ answers) new run = absurd run
cut_run (suc n) old (event ∷ events) [] new run = absurd run
cut_run (suc n) old (event ∷ events) (answer ∷ answers) new run =
    let rest = cut_run n run.0 events answers new run.2 in
    (rest.0, (run.0, run.1, rest.1), rest.2)

all_take : {A : Type 0} (P : A → Type 0) (n : ℕ) (xs : List A) → AllByRecursion P xs → AllByRecursion P (take n xs)
all_take P zero xs all = tt
all_take P (suc n) [] all = tt
all_take P (suc n) (x ∷ xs) all = (all.0, all_take P n xs all.1)

all_drop : {A : Type 0} (P : A → Type 0) (n : ℕ) (xs : List A) → AllByRecursion P xs → AllByRecursion P (drop n xs)
all_drop P zero xs all = all
all_drop P (suc n) [] all = tt
all_drop P (suc n) (x ∷ xs) all = all_drop P n xs all.1

run_cuts_both_parts : {A : Type 0} (n : ℕ) (xs : List A) → take n xs ++ drop n xs ≡ xs
run_cuts_both_parts zero xs = refl
run_cuts_both_parts (suc n) [] = refl
run_cuts_both_parts (suc n) (x ∷ xs) = ap (λ zs. x ∷ zs) (run_cuts_both_parts n xs)

-- the run of the first n events, and how it goes on
abbrev mid_of : (limits : Limits) (schema : List Shape) (events : List Event) (answers : List Answer) (new : State)
    → IsRunOf limits schema events answers new → ℕ → State
mid_of limits schema events answers new run n = (cut_run n (empty_world limits schema) events answers new run.run).0

run_before : (limits : Limits) (schema : List Shape) (events : List Event) (answers : List Answer) (new : State)
    (run : IsRunOf limits schema events answers new) (n : ℕ)
    → IsRunOf limits schema (take n events) (take n answers) (mid_of limits schema events answers new run n)
run_before limits schema events answers new run n = record {
  ranges = run.ranges;
  feeds = all_take FeedsBytes n events run.feeds;
  run = (cut_run n (empty_world limits schema) events answers new run.run).1;
}

run_after : (limits : Limits) (schema : List Shape) (events : List Event) (answers : List Answer) (new : State)
    (run : IsRunOf limits schema events answers new) (n : ℕ)
    → RunsOn (mid_of limits schema events answers new run n) (drop n events) (drop n answers) new
run_after limits schema events answers new run n = record {
  feeds = all_drop FeedsBytes n events run.feeds;
  run = (cut_run n (empty_world limits schema) events answers new run.run).2;
}

-- ---- what was closed by then

-- what events and answers tell is what the broker has
abbrev pub AreTold : Type 0
AreTold = (limits : Limits) (schema : List Shape) (events : List Event) (answers : List Answer) (new : State)
    → IsRunOf limits schema events answers new
    → IsTold schema world_begun new (world_told schema events answers)

-- a closed sequence stays closed, and so does a closed subscription
abbrev pub SequenceStays : Type 0
SequenceStays = (limits : Limits) (schema : List Shape) (events more : List Event) (answers later : List Answer)
    (mid new : State) (last : ℕ) → IsRunOf limits schema events answers mid → RunsOn mid more later new
    → mid.desk.closing ≡ Some last → (new.desk.closing ≡ Some last) × (new.sequence ≡ mid.sequence)

abbrev pub SubscriptionStays : Type 0
SubscriptionStays = (limits : Limits) (schema : List Shape) (events more : List Event) (answers later : List Answer)
    (mid new : State) (s : ℕ) (subscriber : Subscriber) → IsRunOf limits schema events answers mid
    → RunsOn mid more later new
    → slice_get (world_told schema events answers).subscribers s ≡ Some subscriber → subscriber.closed ≡ true
    → (after : Subscriber) × (slice_get (world_told schema (events ++ more) (answers ++ later)).subscribers s
    ≡ Some after) × StaysClosed subscriber after

pub closed_by_then : AreTold → SequenceStays
    → (limits : Limits) (schema : List Shape) (events : List Event) (answers : List Answer) (new : State)
    → IsRunOf limits schema events answers new
    → (n last : ℕ) → (world_told schema (take n events) (take n answers)).closing ≡ Some last
    → (new.desk.closing ≡ Some last)
    × (new.sequence ≡ (world_told schema (take n events) (take n answers)).sequence)
closed_by_then told stays limits schema events answers new run n last closing =
    let cut = cut_run n (empty_world limits schema) events answers new run.run in
    let first = run_before limits schema events answers new run n in
    let tells : IsToldBy schema cut.0 (world_told schema (take n events) (take n answers)) =
    (told limits schema (take n events) (take n answers) cut.0 first).1 in
    let after = stays limits schema (take n events) (drop n events) (take n answers) (drop n answers) cut.0 new last
    first
    (run_after limits schema events answers new run n) (sym tells.subscriptions.closing ∙ closing) in
    (after.0, after.1 ∙ sym tells.sequence)

pub left_by_then : SubscriptionStays
    → (limits : Limits) (schema : List Shape) (events : List Event) (answers : List Answer) (new : State)
    → IsRunOf limits schema events answers new
    → (n s : ℕ) (subscriber : Subscriber) → slice_get (world_told schema (take n events) (take n answers)).subscribers s
    ≡ Some subscriber → subscriber.closed ≡ true
    → (after : Subscriber) × (slice_get (world_told schema events answers).subscribers s ≡ Some after)
    × StaysClosed subscriber after
left_by_then stays limits schema events answers new run n s subscriber found closed =
    let cut = cut_run n (empty_world limits schema) events answers new run.run in
    let after = stays limits schema (take n events) (drop n events) (take n answers) (drop n answers) cut.0 new s
    subscriber
    (run_before limits schema events answers new run n) (run_after limits schema events answers new run n) found
    closed in
    let whole = ap (λ (es : List Event). world_told schema es (take n answers ++ drop n answers))
    (run_cuts_both_parts n events) ∙ ap (world_told schema events) (run_cuts_both_parts n answers) in
    (after.0, ap (λ w. slice_get w.subscribers s) (sym whole) ∙ after.1, after.2)
