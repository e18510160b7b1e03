use Rattle.std.proofs.Common.{◌≡◌, ◌+◌, length}
use Rattle.cs_apply.specs.Changed.{lacked_places}
use Rattle.cs_apply.specs.Steps.{rows_in}
use Rattle.cs_apply.proofs.places.Places.are_lacked_at_most.Given as goal

-- what is left to lack, less what is lacked of the places left, is what it is of all places
abbrev pub invariant-loop-key : goal.invariant-loop-key
invariant-loop-key l =
    l.left + length (lacked_places (rows_in l.others) l.self.rows.entries)
    ≡ l.most + length (lacked_places (rows_in l.others) l.key-iterator)
