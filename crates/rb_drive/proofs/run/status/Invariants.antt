use Rattle.std.proofs.Common.{drop, map}
use Rattle.rb_drive.specs.Run.{HasConflict}
use Rattle.rb_drive.proofs.run.status.Given as goal

-- if one did, it is one of those that are left
abbrev pub invariant-loop-one : goal.invariant-loop-one
invariant-loop-one g l = HasConflict (map (λ a. a.ending) l.accepting)
    → HasConflict (map (λ a. a.ending) (drop l.one-index l.accepting))
