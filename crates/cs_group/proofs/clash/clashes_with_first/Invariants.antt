use Rattle.std.proofs.Common.{◌≡◌, take}
use Rattle.cs_group.specs.Group.{clashes}
use Rattle.cs_group.proofs.clash.clashes_with_first.Given as goal

-- none of the sections before these clashes
abbrev pub invariant-loop-other : goal.invariant-loop-other
invariant-loop-other l =
    clashes (take l.count l.sections) l.section ≡ clashes (take l.left l.other-iterator) l.section
