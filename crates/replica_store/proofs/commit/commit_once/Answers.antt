use Rattle.std.proofs.Common.{subst, arith, rules}
use Rattle.sqlite.specs.Effect.{Database}
use Rattle.sqlite.specs.Held.{state}
use Rattle.sqlite.specs.State.{HasCleanDisk, Survives}
use Rattle.replica_store.specs.Causes.{CannotCommit}
use Rattle.replica_store.proofs.causes.Reported.{cause_until, handed_on, own_cause}
use Rattle.replica_store.proofs.statements.Parts.{was_clean}
use Rattle.replica_store.proofs.commit.commit_once.Goals as goal

pub returns-in_err-change_all-clause-cause : goal.returns-in_err-change_all-clause-cause
returns-in_err-change_all-clause-cause g c clean =
    let old = state g.S.Store c.args.conn.now in
    let mid = state g.S.Store c.change_all.new.tx.conn.now in
    let new = state g.S.Store c.conn-1.given.0 in
    let changes = c.args.changes.now in
    let ends : Survives mid new (λ _. ⊥) = search rules in
    let before : HasCleanDisk mid = was_clean mid new _ ends clean in
    let begun = rw c.transaction-tx.ensures.begun at c.in_err-change_all.ensures in
    let first : HasCleanDisk old = omega (arith, begun.survives.clean) in
    handed_on c.from_residual.result _ _ c.from_residual.ensures.1 (λ says.
    cause_until old mid new (CannotCommit changes old.committed.trees) (λ _. ⊥) ends
    (own_cause old mid (CannotCommit changes old.now.trees) (CannotCommit changes old.committed.trees)
    (subst (λ (d : Database). CannotCommit changes d.trees) (c.requires.held first).settled)
    (begun.cause before says)))
