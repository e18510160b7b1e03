use Rattle.std.proofs.Common.{◌≡◌}
use Rattle.sqlite.specs.Held.{state}
use Rattle.replica_store.specs.Durable.{KeepsRows}
use Rattle.rb_subscriber.specs.Subscription.{cursor_of}
use Rattle.rb_drive.proofs.outcomes.RestartLaws.{if_accepted, if_opened, IsShownRun, restart_holds, unasked_keeps}
use Rattle.rb_drive.proofs.laws.accept_and_crash.Goals as goal

pub returns-clause-holds : goal.returns-clause-holds
returns-clause-holds g c =
    let old = c.args.subscription.now in
    let new = c.accept_durable-answer.new.self in
    let left = c.accept_durable-answer.new.store in
    let first : IsShownRun g.L.StepLedger.cells old =
    record {
      shown = c.cursor-cursor_before.ensures.shown;
      grouped = c.tables-tables_before.ensures.batches;
      singly = c.tables-tables_before.ensures.singly;
    } in
    let last : IsShownRun g.L.StepLedger.cells new =
    record {
      shown = c.cursor-cursor_after.ensures.shown;
      grouped = c.tables-tables_after.ensures.batches;
      singly = c.tables-tables_after.ensures.singly;
    } in
    let answers = c.accept_durable-answer.ensures in
    let unasked = unasked_keeps (new.pending ≡ old.pending)
    (λ r. KeepsRows (state g.S.Store r.conn) old.tables.rows (cursor_of old))
    c.accept_durable-answer.result c.args.replica left answers.unasked c.requires.kept in
    if_opened _ _ c.crash_and_open.result (λ again h clean. let held = h clean in (
      held.0,
      restart_holds g.L.StepLedger.cells c.args.delivery.now c.accept_durable-answer.result old new
          (state g.S.Store left.conn) _ held.1 held.2 first last c.requires.stands answers.answers answers.kept
          answers.leaves unasked c.is_fallen-fallen.ensures.pending,
    )) c.crash_and_open.ensures

-- what the subscription has is what the replica kept, and a crash leaves that
pub returns-clause-stands : goal.returns-clause-stands
returns-clause-stands g c =
    if_accepted _ _ _ c.accept_durable-answer.result c.crash_and_open.result
    (λ kept again h clean. let held = h clean in (kept held.1).stands _ held.2) c.accept_durable-answer.ensures.kept
    c.crash_and_open.ensures
