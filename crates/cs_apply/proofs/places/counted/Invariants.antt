use Rattle.std.proofs.Common.{◌≡◌, drop}
use Rattle.cs_apply.specs.Steps.{empty_after}
use Rattle.cs_apply.proofs.places.counted.Given as goal

-- the count so far, and the steps that are left, make the count after all
abbrev pub invariant-loop-step : goal.invariant-loop-step
invariant-loop-step l = empty_after l.count (drop l.step-index l.log) ≡ empty_after l.empty l.log
