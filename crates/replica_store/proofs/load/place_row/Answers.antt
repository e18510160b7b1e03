use Rattle.par_apply.proofs.commits.StageLaws.{held_placed}
use Rattle.replica_store.proofs.load.place_row.Goals as goal

pub set-requires-clause-there : goal.set-requires-clause-there
set-requires-clause-there c =
    held_placed c.args.tables.now c.hold.new.self c.in_ok-place.place c.args.key c.in_ok-hold.ensures.ok
    c.in_ok-place.ensures
