use Rattle.std.proofs.Common.{drop}
use Rattle.cs_apply.specs.Steps.{rows_in}
use Rattle.cs_apply.proofs.stored.ChangedLaws.{AreLeftGiven}
use Rattle.cs_apply.proofs.places.Places.have_all.Given as goal

-- the changes that are left decide
abbrev pub invariant-loop-key : goal.invariant-loop-key
invariant-loop-key l = AreLeftGiven (rows_in l.self) l.changes (drop l.key-index l.changes)
