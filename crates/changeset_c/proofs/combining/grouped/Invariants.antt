use Rattle.std.proofs.Common.{◌≡◌, [], take, None}
use Rattle.cs_group.specs.Adding.{first_refused, sections_in}
use Rattle.changeset_c.proofs.combining.grouped.Given as goal

-- the changesets so far are in the group, and none of them clashes
abbrev pub invariant-loop-text : goal.invariant-loop-text
invariant-loop-text l = record {
  added : l.group ≡ sections_in (take l.text l.changesets);
  fits : first_refused [] (take l.text l.changesets) ≡ None;
}
