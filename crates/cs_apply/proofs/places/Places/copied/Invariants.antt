use Rattle.std.proofs.Common.{◌≡◌, take}
use Rattle.std.specs.FinMap as map
use Rattle.cs_apply.specs.Seen.{listed}
use Rattle.cs_apply.specs.Steps.{rows_of}
use Rattle.cs_apply.proofs.places.Places.copied.Given as goal

-- the rows so far
abbrev pub invariant-loop-pair : goal.invariant-loop-pair
invariant-loop-pair l = rows_of l.rows.entries ≡ map.from_entries (take l.pair-index (listed l.pair-items))
