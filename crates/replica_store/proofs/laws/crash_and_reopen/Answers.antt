use Rattle.std.proofs.Common.{◌≡◌, sym, ap, subst, ◌∙◌, arith, rules}
use Rattle.sqlite_trees.specs.View.{IsClean, IsReopened}
use Rattle.sqlite.specs.Effect.{Database}
use Rattle.sqlite.specs.State.{HasCleanDisk}
use Rattle.sqlite.specs.Held.{state}
use Rattle.replica_store.proofs.laws.crash_and_reopen.Goals as goal

pub returns-in-Ok : goal.returns-in-Ok
returns-in-Ok g c clean =
    let closed = c.into_store-store.result in
    let opened = c.crash_and_reopen.new.self in
    let clean_after : IsClean (g.S.Store.view opened) = omega (arith, c.in-Ok.ensures.clean) in
    let clean_closed : IsClean (g.S.Store.view closed) = omega (arith, c.crash_and_reopen.ensures.clean) in
    let clean_conn : HasCleanDisk (state g.S.Store c.args.conn) =
    omega (arith, c.into_store-store.ensures.quiet.clean) in
    let fresh : IsReopened (g.S.Store.view closed) (g.S.Store.view opened) = search rules in
    let found : g.S.Store.recovers closed (g.S.Store.view opened).committed = search rules in
    let now = ap (λ (d : Database). d.trees) (c.in-Ok.ensures.opens clean).0.clean in
    let same : (g.S.Store.view c.in-Ok.again.store).committed ≡ (g.S.Store.view opened).committed = sym now
    ∙ c.in-Ok.ensures.trees clean ∙ fresh.clean in (
      clean_conn,
      subst (g.S.Store.recovers c.args.conn.store) (sym same)
          (c.into_store-store.ensures.quiet.outcomes _ found),
    )
