use Rattle.cs_apply.specs.Steps.{rows_in}
use Rattle.cs_apply.proofs.stored.SameLaws.{IsLeft}
use Rattle.cs_apply.proofs.places.Places.are_in.Given as goal

-- the places that are left decide
abbrev pub invariant-loop-key : goal.invariant-loop-key
invariant-loop-key l = IsLeft (rows_in l.others) l.self.rows.entries l.key-iterator
