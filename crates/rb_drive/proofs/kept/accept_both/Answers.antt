use Rattle.std.proofs.Common.{subst, sym}
use Rattle.sqlite.specs.Held.{state}
use Rattle.replica_store.specs.Durable.{KeepsRows}
use Rattle.rb_subscriber.specs.Subscription.{cursor_of}
use Rattle.rb_drive.specs.Ending.{ShowsOneConflict}
use Rattle.rb_drive.proofs.outcomes.ConflictLaws.{durable_shows}
use Rattle.rb_drive.proofs.outcomes.KeptLaws.{still_kept}
use Rattle.rb_drive.proofs.kept.accept_both.Goals as goal

-- the replica has what the subscription accepted, or both are as before, or it has fallen
pub returns-clause-kept : goal.returns-clause-kept
returns-clause-kept g c =
    still_kept (λ r s. KeepsRows (state g.S.Store r.conn) s.tables.rows (cursor_of s)) _ _ c.accept_durable.result _ _ _ _
    c.accept_durable.ensures.answers c.accept_durable.ensures.kept c.accept_durable.ensures.unasked c.requires.kept

pub returns-clause-conflict : goal.returns-clause-conflict
returns-clause-conflict g c =
    subst (λ r. ShowsOneConflict g.L.StepLedger.cells c.args.delivery.now r c.accept_durable.new.self) (sym c.without_store.ensures)
    (durable_shows _ _ c.accept_durable.result _ _ c.accept_durable.ensures.answers)
