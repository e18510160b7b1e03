use Rattle.std.proofs.Common.{◌≡◌, vec_len}
use Rattle.cs_apply.specs.Steps.{undone}
use Rattle.cs_apply.proofs.places.Places.take_back.Given as goal

-- what is left of the log takes back the rest
abbrev pub invariant-loop-step : goal.invariant-loop-step
invariant-loop-step l = undone l.self.log.items l.self.rows.entries ≡ undone l.fn.self.log.items l.fn.self.rows.entries

abbrev pub decreases-loop-step : goal.decreases-loop-step
decreases-loop-step l = vec_len l.self.log
