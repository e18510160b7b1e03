use Rattle.std.proofs.Common.{◌≡◌, [], take, drop}
use Rattle.cs_group.specs.Adding.{first_refused, sections_in}
use Rattle.cs_group.proofs.group.grouped.Given as goal

-- the changesets so far are in the group, and the ones that are left decide what is refused
abbrev pub invariant-loop-changeset : goal.invariant-loop-changeset
invariant-loop-changeset l = record {
  added : l.group ≡ sections_in (take l.changeset-index l.changesets);
  left : first_refused [] l.changesets ≡ first_refused l.group (drop l.changeset-index l.changesets);
}
