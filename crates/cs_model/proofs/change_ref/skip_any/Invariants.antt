use Rattle.std.proofs.Common.{◌≡◌, ◌-◌}
use Rattle.cs_model.specs.PackedChanges.{some_in}
use Rattle.cs_model.proofs.change_ref.skip_any.Given as goal

-- after the fields that are left comes what comes after all
abbrev pub invariant-loop-i : goal.invariant-loop-i
invariant-loop-i l = (some_in (l.columns - l.i) l.rest).1 ≡ (some_in l.columns l.bytes).1
