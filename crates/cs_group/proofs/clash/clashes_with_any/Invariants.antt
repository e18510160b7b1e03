use Rattle.std.proofs.Common.{◌≡◌, drop}
use Rattle.cs_group.specs.Adding.{sections_in}
use Rattle.cs_group.specs.Group.{clashes}
use Rattle.cs_group.proofs.clash.clashes_with_any.Given as goal

-- no changeset before these has a section that clashes
abbrev pub invariant-loop-changeset : goal.invariant-loop-changeset
invariant-loop-changeset l =
    clashes (sections_in l.earlier) l.section
    ≡ clashes (sections_in (drop l.changeset-index l.earlier)) l.section
