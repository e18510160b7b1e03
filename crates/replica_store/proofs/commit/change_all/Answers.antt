use Rattle.std.proofs.Common.{◌≡◌, ◌+◌, ◌<◌, ◌++◌, ◌∷◌, [], length, take, sym, ap, subst, ◌∙◌, arith, rules}
use Rattle.std.proofs.lemmas.List.{take_more}
use Rattle.sqlite.specs.State.{HasCleanDisk}
use Rattle.sqlite.specs.Held.{state}
use Rattle.sqlite.proofs.StateLemmas.{survives_then}
use Rattle.replica_store.specs.Changes.{AfterChanges}
use Rattle.replica_store.specs.Inside.{ChangesRows}
use Rattle.sqlite_rules.proofs.ListLemmas.{has_at}
use Rattle.replica_store.proofs.causes.Reported.{commit_stopped, handed_on, one_id_more}
use Rattle.replica_store.proofs.replicas.ChangeLaws.{changed_by_one_more}
use Rattle.replica_store.proofs.replicas.UndoneLaws.{keeps_then}
use Rattle.replica_store.proofs.commit.change_all.Goals as goal

pub loop-change-preserved : goal.loop-change-preserved
loop-change-preserved g c =
    let old = state g.S.Store c.args.tx.now.conn.now in
    let mid = state g.S.Store c.loop-change.tx.conn.now in
    let new = state g.S.Store c.change_one.new.tx.conn.now in
    let was = c.loop-change.invariant in
    let all = c.args.changes.now in
    let at = c.loop-change.change-index in
    let item = c.change-item.result in
    let inside : at < length all = search rules in
    let more : take (at + 1) all ≡ take at all ++ item ∷ [] = take_more all at item inside
    ∙ ap (λ x. take at all ++ x ∷ []) (sym c.change-item.is) in (
      c.change_one.ensures.same_reference ∙ was.0,
      survives_then old mid new _ _ (λ _. ⊥) (λ _ db none. none)
          (λ _ db none. none) was.1 c.change_one.ensures.survives,
      λ clean.
          let early : HasCleanDisk mid = omega (arith, c.change_one.ensures.survives.clean) in
          subst (λ cs. ChangesRows (AfterChanges cs) old new) (sym more)
          (changed_by_one_more (take at all) item old mid new (was.2 early) (c.in_ok-change_one.ensures.changes clean)),
      λ clean.
          let early : HasCleanDisk mid = omega (arith, c.change_one.ensures.survives.clean) in
          one_id_more old mid new at (was.3 early) (c.in_ok-change_one.ensures.ids clean),
      λ clean.
          let early : HasCleanDisk mid = omega (arith, c.change_one.ensures.survives.clean) in
          keeps_then old mid new (was.4 early) (c.in_ok-change_one.ensures.kept clean),
    )

pub returns-in_err-change_one-clause-cause : goal.returns-in_err-change_one-clause-cause
returns-in_err-change_one-clause-cause g c clean =
    let old = state g.S.Store c.args.tx.now.conn.now in
    let mid = state g.S.Store c.loop-change.tx.conn.now in
    let new = state g.S.Store c.change_one.new.tx.conn.now in
    let was = c.loop-change.invariant in
    let all = c.args.changes.now in
    let at = c.loop-change.change-index in
    let item = c.change-item.result in
    let inside : at < length all = search rules in
    let early : HasCleanDisk mid = omega (arith, c.change_one.ensures.survives.clean) in
    handed_on c.from_residual.result _ _ c.from_residual.ensures.1 (λ says.
    commit_stopped old mid new all at item inside (has_at all at item inside c.change-item.is) was.1 (was.3 early)
    (c.in_err-change_one.ensures.cause clean says))

pub returns-in_err-change_one-clause-kept : goal.returns-in_err-change_one-clause-kept
returns-in_err-change_one-clause-kept g c clean =
    let old = state g.S.Store c.args.tx.now.conn.now in
    let mid = state g.S.Store c.loop-change.tx.conn.now in
    let new = state g.S.Store c.change_one.new.tx.conn.now in
    let early : HasCleanDisk mid = omega (arith, c.change_one.ensures.survives.clean) in
    keeps_then old mid new (c.loop-change.invariant.4 early) (c.in_err-change_one.ensures.kept clean)

pub returns-clause-kept : goal.returns-clause-kept
returns-clause-kept g c clean = c.loop-change.invariant.4 clean
