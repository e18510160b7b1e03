use Rattle.std.proofs.Common.{◌≡◌, length, take}
use Rattle.cs_apply.specs.Changed.{lacked_changes}
use Rattle.cs_apply.specs.Steps.{rows_in}
use Rattle.cs_apply.proofs.places.Places.count_lacked.Given as goal

-- those among the changes so far are counted
abbrev pub invariant-loop-key : goal.invariant-loop-key
invariant-loop-key l =
    l.count ≡ length (lacked_changes (rows_in l.self) (rows_in l.others) (take l.key-index l.changes))
