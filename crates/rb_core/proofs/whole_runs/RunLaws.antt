-- Steps and runs: what a reply says of a step, that a step preserves the invariant of a world, and that runs grow at
-- their end.
use Rattle.std.proofs.Common.{◌≡◌, List, [], ◌∷◌, ◌++◌, Ok, Err, refl, sym, ap, subst}
use Rattle.std.specs.Prelude.{IfOk, OnErr}
use Rattle.rb_core.specs.declared.event.Event.{Event}
use Rattle.rb_core.specs.declared.reply.Reply.{Reply}
use Rattle.rb_core.specs.Memory.{MayRunOut}
use Rattle.rb_core.specs.Outcome.{outcome}
use Rattle.rb_core.specs.Run.{Answer, Run, RunsOutWhereItMay, Stepped}
use Rattle.rb_core.specs.State.{State, IsWorld}

-- what a step's contract says is that it stepped
pub Stepped-from : (old new : State) (event : Event) (answer : Answer)
    → IfOk answer (λ given. outcome old event ≡ (given, new)) → OnErr answer (new ≡ old) → Stepped old event answer new
Stepped-from old new event (Ok given) ok err = ok
Stepped-from old new event (Err e) ok err = err

-- every event keeps what a world keeps, as the law says it
abbrev pub KeepsWorlds : Type 0
KeepsWorlds = (old : State) (event : Event) (given : Reply) (new : State) → IsWorld old → outcome old event
    ≡ (given, new) → IsWorld new

pub stepped_keeps : KeepsWorlds → (old new : State) (event : Event) (answer : Answer) → Stepped old event answer new
    → IsWorld old → IsWorld new
stepped_keeps keeps old new event (Ok given) step good = keeps old event given new good step
stepped_keeps keeps old new event (Err e) step good = subst IsWorld (sym step) good

-- one event more
pub Run-push : (old mid new : State) (events : List Event) (event : Event) (answers : List Answer) (answer : Answer)
    → Run old events answers mid → Stepped mid event answer new
    → Run old (events ++ event ∷ []) (answers ++ answer ∷ []) new
Run-push old mid new [] event [] answer run step =
    (new, subst (λ (s : State). Stepped s event answer new) run step, refl)
Run-push old mid new [] event (a ∷ answers) answer run step = absurd run
Run-push old mid new (e ∷ events) event [] answer run step = absurd run
Run-push old mid new (e ∷ events) event (a ∷ answers) answer run step =
    (run.0, run.1, Run-push run.0 mid new events event answers answer run.2 step)

-- for which memory runs out only where it may
pub runs_out-push : (old mid : State) (events : List Event) (event : Event) (answers : List Answer) (answer : Answer)
    → Run old events answers mid → RunsOutWhereItMay old events answers
    → OnErr answer (MayRunOut mid event (outcome mid event).0)
    → RunsOutWhereItMay old (events ++ event ∷ []) (answers ++ answer ∷ [])
runs_out-push old mid [] event [] (Ok given) run so may = tt
runs_out-push old mid [] event [] (Err e) run so may =
    (subst (λ (s : State). MayRunOut s event (outcome s event).0) run may, tt)
runs_out-push old mid [] event (a ∷ answers) answer run so may = absurd run
runs_out-push old mid (e ∷ events) event [] answer run so may = absurd run
runs_out-push old mid (e ∷ events) event (Ok given ∷ answers) answer run so may =
    let next : run.0 ≡ (outcome old e).1 = ap (λ (x : Reply × State). x.1) (sym run.1) in
    runs_out-push (outcome old e).1 mid events event answers answer
    (subst (λ (s : State). Run s events answers mid) next run.2) so may
runs_out-push old mid (e ∷ events) event (Err x ∷ answers) answer run so may = (
  so.0,
  runs_out-push old mid events event answers answer
      (subst (λ (s : State). Run s events answers mid) run.1 run.2) so.1 may,
)
