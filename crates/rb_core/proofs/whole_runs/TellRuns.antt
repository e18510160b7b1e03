-- What whole runs report.
use Rattle.std.proofs.Common.{◌≡◌, List, [], ◌∷◌, ◌++◌, Ok, Err, refl, sym, subst, arith}
use Rattle.std.specs.Prelude.{slice_get}
use Rattle.std.specs.List.{AllByRecursion}
use Rattle.cs_model.specs.declared.shape.Shape.{Shape}
use Rattle.rb_desk.specs.IsPicture.{IsPicture}
use Rattle.rb_desk.specs.Limits.{Limits}
use Rattle.rb_desk.specs.Picture.{empty_picture}
use Rattle.rb_core.specs.declared.event.Event.{Event}
use Rattle.rb_core.specs.declared.event.Event.TheVariants as event
use Rattle.rb_core.specs.declared.reply.Reply.{Reply}
use Rattle.rb_core.specs.Outcome.{outcome}
use Rattle.rb_core.specs.Run.{Answer, Stepped, Run, FeedsBytes}
use Rattle.rb_core.specs.State.{State, IsWorld, empty_world}
use Rattle.rb_core.specs.Told.{told_by, told_from, world_told, IsToldBy}
use Rattle.rb_core.specs.World.{World, world_begun}
use Rattle.rb_core.proofs.reports.Telling.{IsTold, no_move, both_courses, TellingGoes}
use Rattle.rb_core.proofs.reports.TellPublishers.{BeginsWithNothing, ProgressGoesOn, ProgressTells, publisher_tells, feed_tells}
use Rattle.rb_core.proofs.reports.TellPublishers.{reset_tells, end_tells, send_tells}
use Rattle.rb_core.proofs.reports.TellWithdrawals.{withdraw_tells}
use Rattle.rb_core.proofs.reports.TellSequence.{PlaceShows, CloseShows, turn_tells, close_tells}
use Rattle.rb_core.proofs.reports.TellSubscriptions.{SubscribeShows, ReconnectShows, UnsubscribeShows, subscribe_tells}
use Rattle.rb_core.proofs.reports.TellSubscriptions.{subscribe_bare_tells, reconnect_tells, unsubscribe_tells}
use Rattle.rb_core.proofs.reports.TellDeliveries.{TakeShows, TakeAnyShows, AckShows, NackShows, OpenShows, ExpireShows}
use Rattle.rb_core.proofs.reports.TellFalls.{crash_tells, resume_tells}
use Rattle.rb_core.proofs.reports.TellDeliveries.{AcceptSteps, take_tells, take_any_tells, accept_tells, ack_tells}
use Rattle.rb_core.proofs.reports.TellDeliveries.{nack_tells, nack_opened_tells, expire_tells}

-- every event keeps what a world keeps
abbrev pub TellRunsKeepsWorlds : Type 0
TellRunsKeepsWorlds = (old : State) (event : Event) (given : Reply) (new : State) → IsWorld old → outcome old event
    ≡ (given, new) → IsWorld new

-- the laws of streams, of the desk and of the ends
pub record TellRunsLaws : Type 0 where
  pub keeps : TellRunsKeepsWorlds
  pub begins : BeginsWithNothing
  pub goes : ProgressGoesOn
  pub tells : ProgressTells
  pub place : PlaceShows
  pub close : CloseShows
  pub subscribe : SubscribeShows
  pub reconnect : ReconnectShows
  pub unsubscribe : UnsubscribeShows
  pub take : TakeShows
  pub take_any : TakeAnyShows
  pub accept : AcceptSteps
  pub ack : AckShows
  pub nack : NackShows
  pub nack_opened : OpenShows
  pub expire : ExpireShows

outcome_tells : TellRunsLaws → (schema : List Shape) (old : State) (world : World) (event : Event) → FeedsBytes event
    → IsWorld old → IsToldBy schema old world → TellingGoes schema world event (outcome old event)
unfolding outcome
outcome_tells laws schema old world event.Publisher feeds good h = publisher_tells laws.begins schema old world h
outcome_tells laws schema old world (event.Feed p bytes) feeds good h =
    feed_tells laws.goes schema old world p bytes (slice_get old.publishers p) refl feeds h
outcome_tells laws schema old world (event.Reset p) feeds good h =
    reset_tells laws.begins schema old world p (slice_get old.publishers p) refl h
outcome_tells laws schema old world (event.End p) feeds good h =
    end_tells laws.begins laws.tells schema old world p (slice_get old.publishers p) refl h
outcome_tells laws schema old world (event.Send p) feeds good h =
    send_tells schema old world p (slice_get old.publishers p) refl h
outcome_tells laws schema old world (event.Withdraw p n) feeds good h =
    withdraw_tells schema old world p n (slice_get old.publishers p) refl good h
outcome_tells laws schema old world event.Turn feeds good h = turn_tells laws.place schema old world good h
outcome_tells laws schema old world event.Close feeds good h = close_tells laws.close schema old world good h
outcome_tells laws schema old world (event.Subscribe start) feeds good h =
    subscribe_tells laws.subscribe schema old world start good h
outcome_tells laws schema old world (event.SubscribeBare start) feeds good h =
    subscribe_bare_tells laws.subscribe schema old world start good h
outcome_tells laws schema old world (event.Take s now) feeds good h = take_tells laws.take schema old world s now good h
outcome_tells laws schema old world (event.TakeAny now) feeds good h =
    take_any_tells laws.take_any schema old world now good h
outcome_tells laws schema old world (event.Accept d) feeds good h = accept_tells laws.accept schema old world d good h
outcome_tells laws schema old world (event.Crash d kept) feeds good h =
    crash_tells laws.accept schema old world d kept good h
outcome_tells laws schema old world (event.Ack d) feeds good h = ack_tells laws.ack schema old world d h
outcome_tells laws schema old world (event.Nack d) feeds good h = nack_tells laws.nack schema old world d h
outcome_tells laws schema old world (event.NackOpened d) feeds good h =
    nack_opened_tells laws.nack_opened schema old world d h
outcome_tells laws schema old world (event.Expire now) feeds good h = expire_tells laws.expire schema old world now h
outcome_tells laws schema old world (event.Reconnect s cursor) feeds good h =
    reconnect_tells laws.reconnect schema old world s cursor good h
outcome_tells laws schema old world (event.Resume s) feeds good h = resume_tells laws.reconnect schema old world s h
outcome_tells laws schema old world (event.Unsubscribe s) feeds good h =
    unsubscribe_tells laws.unsubscribe schema old world s h

-- ---- steps and runs

step_tells : TellRunsLaws → (schema : List Shape) (old : State) (world : World) (event : Event) (answer : Answer)
    (new : State) → FeedsBytes event → IsWorld old → IsToldBy schema old world → Stepped old event answer new
    → IsTold schema world new (told_by schema world event answer) × IsWorld new
step_tells laws schema old world event (Ok given) new feeds good h step = (
  subst (λ (r : Reply × State). TellingGoes schema world event r) step
      (outcome_tells laws schema old world event feeds good h),
  laws.keeps old event given new good step,
)
step_tells laws schema old world event (Err e) new feeds good h step =
    ((no_move world world refl, subst (λ w. IsToldBy schema w world) (sym step) h), subst IsWorld (sym step) good)

run_tells : TellRunsLaws → (schema : List Shape) (old : State) (world : World) (events : List Event)
    (answers : List Answer) (new : State) → AllByRecursion FeedsBytes events → IsWorld old → IsToldBy schema old world
    → Run old events answers new
    → IsTold schema world new (told_from schema world events answers)
run_tells laws schema old world [] [] new feeds good h run =
    (no_move world world refl, subst (λ w. IsToldBy schema w world) (sym run) h)
run_tells laws schema old world [] (answer ∷ answers) new feeds good h run = absurd run
run_tells laws schema old world (event ∷ events) [] new feeds good h run = absurd run
run_tells laws schema old world (event ∷ events) (answer ∷ answers) new feeds good h run =
    let mid = told_by schema world event answer in
    let step = step_tells laws schema old world event answer run.0 feeds.0 good h run.1 in
    let rest = run_tells laws schema run.0 mid events answers new feeds.1 step.1 step.0.1 run.2 in
    (both_courses world mid (told_from schema mid events answers) step.0.0 rest.0, rest.1)

-- ---- the beginning

empty_is_world : (limits : Limits) (schema : List Shape) → IsPicture (empty_picture limits)
    → IsWorld (empty_world limits schema)
empty_is_world limits schema picture =
    record {
      admitted = record { staged = tt; intake = tt; hand = tt; sequence = tt };
      picture = picture;
      front = refl;
      few = omega arith;
      waiting = omega arith;
      members = refl;
      entries = tt;
      deliveries = tt;
      next = refl;
      are_of = tt;
      marks = omega arith;
    }

nothing_tells : (limits : Limits) (schema : List Shape) → IsToldBy schema (empty_world limits schema) world_begun
nothing_tells limits schema =
    record {
      served = refl;
      senders = tt;
      intake = refl;
      hand = refl;
      sequence = refl;
      subscriptions = record { closing = refl; ends = refl; deliveries = tt; links = tt; numbers = tt; bases = tt };
      withdrawn = λ n some. (λ none. tt, λ new. refl);
    }

pub tell_runs_are_told : TellRunsLaws
    → (limits : Limits) (schema : List Shape) (events : List Event) (answers : List Answer) (new : State)
    → IsPicture (empty_picture limits) → AllByRecursion FeedsBytes events
    → Run (empty_world limits schema) events answers new
    → IsTold schema world_begun new (world_told schema events answers)
tell_runs_are_told laws limits schema events answers new picture feeds run =
    run_tells laws schema (empty_world limits schema) world_begun events answers new feeds
    (empty_is_world limits schema picture) (nothing_tells limits schema) run

-- ---- runs that go on

run_good : TellRunsLaws → (old : State) (events : List Event) (answers : List Answer) (new : State) → IsWorld old
    → Run old events answers new → IsWorld new
run_good laws old [] [] new good run = subst IsWorld (sym run) good
run_good laws old [] (answer ∷ answers) new good run = absurd run
run_good laws old (event ∷ events) [] new good run = absurd run
run_good laws old (event ∷ events) (Ok given ∷ answers) new good run =
    run_good laws run.0 events answers new (laws.keeps old event given run.0 good run.1) run.2
run_good laws old (event ∷ events) (Err e ∷ answers) new good run =
    run_good laws run.0 events answers new (subst IsWorld (sym run.1) good) run.2

pub run_is_world : TellRunsLaws → (limits : Limits) (schema : List Shape) (events : List Event)
    (answers : List Answer) (new : State) → IsPicture (empty_picture limits)
    → Run (empty_world limits schema) events answers new → IsWorld new
run_is_world laws limits schema events answers new picture run =
    run_good laws (empty_world limits schema) events answers new (empty_is_world limits schema picture) run

-- what is told of events and of more behind them
told_on : (schema : List Shape) (old : State) (world : World) (events more : List Event) (answers later : List Answer)
    (mid : State) → Run old events answers mid
    → told_from schema world (events ++ more) (answers ++ later)
    ≡ told_from schema (told_from schema world events answers) more later
told_on schema old world [] more [] later mid run = refl
told_on schema old world [] more (answer ∷ answers) later mid run = absurd run
told_on schema old world (event ∷ events) more [] later mid run = absurd run
told_on schema old world (event ∷ events) more (answer ∷ answers) later mid run =
    told_on schema run.0 (told_by schema world event answer) events more answers later mid run.2

pub tell_runs_go_on : TellRunsLaws → (limits : Limits) (schema : List Shape) (events more : List Event)
    (answers later : List Answer) (mid new : State) → IsPicture (empty_picture limits)
    → AllByRecursion FeedsBytes events → AllByRecursion FeedsBytes more
    → Run (empty_world limits schema) events answers mid → Run mid more later new
    → IsTold schema (world_told schema events answers) new (world_told schema (events ++ more) (answers ++ later))
tell_runs_go_on laws limits schema events more answers later mid new picture feeds others run on =
    let before = tell_runs_are_told laws limits schema events answers mid picture feeds run in
    let good = run_good laws (empty_world limits schema) events answers mid (empty_is_world limits schema picture)
    run in
    subst (λ (w : World). IsTold schema (world_told schema events answers) new w)
    (sym (told_on schema (empty_world limits schema) world_begun events more answers later mid run))
    (run_tells laws schema mid (world_told schema events answers) more later new others good before.1 on)
