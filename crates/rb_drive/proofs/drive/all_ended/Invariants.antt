use Rattle.std.proofs.Common.{drop}
use Rattle.std.specs.List.{AllByRecursion}
use Rattle.rb_drive.specs.Outcome.{HasMetAndEnded}
use Rattle.rb_drive.proofs.drive.all_ended.Given as goal

-- those before have ended so, so all have if those that are left have
abbrev pub invariant-loop-one : goal.invariant-loop-one
invariant-loop-one g l =
    AllByRecursion (λ one. HasMetAndEnded g.L.StepLedger.cells l.sequencer one.subscription one.ending)
    (drop l.one-index l.accepting)
    → AllByRecursion (λ one. HasMetAndEnded g.L.StepLedger.cells l.sequencer one.subscription one.ending) l.accepting
