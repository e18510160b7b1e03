use Rattle.std.proofs.Common.{◌≡◌, drop}
use Rattle.cs_model.specs.Changeset.{all_changes}
use Rattle.cs_write.proofs.groups.any_change.Given as goal

-- the changes of the sections that are left are all there are
abbrev pub invariant-loop-section : goal.invariant-loop-section
invariant-loop-section l = all_changes (drop l.section-index l.sections)
    ≡ all_changes l.sections
