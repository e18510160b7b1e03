use Rattle.std.proofs.Common.{◌≡◌, [], take, drop}
use Rattle.cs_group.specs.Adding.{first_refused, sections_in}
use Rattle.cs_group.proofs.clash.first_refused_of.Given as goal

-- none of the changesets before these is refused
abbrev pub invariant-loop-i : goal.invariant-loop-i
invariant-loop-i l =
    first_refused [] l.changesets ≡ first_refused (sections_in (take l.i l.changesets)) (drop l.i l.changesets)
