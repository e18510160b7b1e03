use Rattle.std.proofs.Common.{◌≡◌}
use Rattle.par_apply.specs.Staged.{without_places}
use Rattle.par_apply.proofs.commits.StageLaws.{CanHoldFirst}
use Rattle.par_apply.proofs.staged.hold_all.Given as goal

-- the changes so far can be made, and the places that were made for them can be taken away
abbrev pub invariant-loop-index : goal.invariant-loop-index
invariant-loop-index l = record {
  state : l.tables.state ≡ l.fn.tables.state;
  ready : CanHoldFirst l.tables l.changes l.index;
  back : without_places l.tables l.changes l.made.items ≡ l.fn.tables;
}
