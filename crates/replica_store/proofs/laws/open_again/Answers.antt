use Rattle.std.proofs.Common.{sym, ap, subst, arith}
use Rattle.sqlite.specs.Effect.{Database}
use Rattle.sqlite.specs.State.{HasCleanDisk}
use Rattle.sqlite.specs.Held.{state}
use Rattle.replica_store.proofs.laws.open_again.Goals as goal

pub returns-in-Ok : goal.returns-in-Ok
returns-in-Ok g c clean =
    let early : HasCleanDisk (state g.S.Store c.args.conn) = omega (arith, c.in-Ok.ensures.survives.clean) in
    let held = c.in-Ok.ensures.held clean in
    let shows = held.1.0 in
    let same = ap (λ (d : Database). d.trees) shows.committed_is in (
      held.0,
      early,
      subst (g.S.Store.recovers c.args.conn.store) (sym same)
          (g.met.S.Store.stays c.args.conn.store shows.was_open),
    )
